-- The answer of `ask`, from what was made of the stream of a file's bytes.
use Rattle.std.specs.Prelude.{◌==◌, ◌&&◌}
use Rattle.std.proofs.Common.{◌≡◌, ◌≢◌, ◌⊎◌, inl, inr, ℕ, ℤ, ◌+◌, Bool, false, List, [], ◌∷◌, ◌++◌, length, Option}
use Rattle.std.proofs.Common.{Some, None, Ok, Err, refl, sym, ap, ◌∙◌, subst, arith}
use Rattle.std.proofs.lemmas.Bool.{ne_eqb}
use Rattle.std.proofs.lemmas.List.{append-nil, length-map}
use Rattle.std.proofs.lemmas.Option.{same_Some}
use Rattle.std.specs.Io.KnownBytes.{Appends}
use Rattle.http_wire.specs.Lasting.{lasting}
use Rattle.http_wire.specs.Reading.{AreRequests}
use Rattle.http_wire.specs.declared.fault.WireFault.{WireFault}
use Rattle.http_wire.specs.declared.fault.WireFault.TheVariants as fault
use Rattle.hub_core.specs.Standing.{HeldHub, KeeperFits}
use Rattle.hub_core.specs.Steps.{CountsFault, RefusesNothing}
use Rattle.hub_core.specs.declared.hub_error.HubError.{HubError}
use Rattle.hub_core.specs.declared.hub_error.HubError.TheVariants as error
use Rattle.rest_provider.proofs.EndsProgress.{first_taken, requests_stand}
use Rattle.rest_provider.specs.Ends.{CloseLast, Ends, EndsBy, IsServed, counted, end_at, ends_of, fault_text, stop_text}
use Rattle.rest_provider.specs.Exchanges.{Exchange, replies_text, requests_of}
use Rattle.rest_provider.specs.Streams.{Serves, Stage, stage_of}
use Rattle.rest_provider.specs.declared.stream_end.StreamEnd.{StreamEnd}
use Rattle.rest_provider.specs.declared.request_fault.RequestFault.TheVariants.{AfterClose, Unreadable}
use Rattle.keeper_memory.specs.Kept.{IsKept, KeptState}
use Rattle.outside_ports.proofs.Appending.{appends_both, part_behind, part_front}
use Rattle.outside_ports.specs.declared.folder.FileRead.{FileRead}
use Rattle.outside_ports.specs.declared.folder.FileRead.TheVariants.{Absent, Bytes, TooLong}
use Rattle.outside_ports.specs.Files.{Stored}
use Rattle.outside_ports.specs.Written.{AppendsPart}
use Rattle.roster_base.specs.Faults.{Rose}
use Rattle.hub_commands.proofs.Leading.{leads-nowhere, leads-on, leads-standing}
use Rattle.hub_commands.proofs.Publishing.{Says, rose, says_folder, says_hub, says_quiet}
use Rattle.hub_commands.specs.Answers.{IsPrinted, end_text}
use Rattle.hub_commands.specs.AskAnswers.{AsksBytes, IsAskAnswer, IsBytesOf, IsToldOf, ReadsBytes, StopsAsking}
use Rattle.hub_commands.specs.AskAnswers.{StreamEnds, ask_end, bytes_in, closed_end}
use Rattle.hub_commands.specs.Outside.{Faults, Outside, faults_of, outside_of}
use Rattle.hub_commands.specs.Runs.{LeadsFrom, Writes}
use Rattle.hub_commands.specs.Steps.{end_of_error}
use Rattle.hub_commands.specs.declared.answer.Answer.{Answer}
use Rattle.hub_commands.specs.declared.answer.End.{End}
use Rattle.hub_commands.specs.declared.answer.End.TheVariants.{Done}
use Rattle.hub_commands.specs.declared.answer.End.TheVariants.{FileTooLarge, FolderFailed}
use Rattle.hub_commands.specs.declared.answer.End.TheVariants.{HubFailed, MissingFile, NoMemory}
use Rattle.hub_commands.specs.declared.answer.End.TheVariants.{Refused}
use Rattle.hub_commands.specs.declared.answer.End.TheVariants.{RequestRefused}
use Rattle.hub_words.specs.Statuses.{output_failed_status}

-- ---- how the bytes end

-- memory may run out for the line of an end
pub ends-wants : (bytes : List ℕ) (xs : List Exchange) (done : List ℕ) (end : End) → StreamEnds bytes xs done end → end ≢ Done → StreamEnds bytes xs done NoMemory
ends-wants bytes xs done Done is other = absurd (other refl)
ends-wants bytes xs done NoMemory is other = is
ends-wants bytes xs done (RequestRefused number AfterClose) (n, (rest, some, are, closes, text)) other =
    ([], rest, [], requests_stand bytes rest (requests_of xs) are, inl refl, text ∙ sym (append-nil (replies_text xs)))
ends-wants bytes xs done (RequestRefused number (Unreadable e)) (n, (kept, left, are, stay, told, cause, text)) other =
    (kept, left, fault_text e, requests_stand bytes (kept ++ left) (requests_of xs) are, inr (e, cause, refl), text)
ends-wants bytes xs done end is other = absurd is

is_some : (b : ℕ) (bytes : List ℕ) → (length (b ∷ bytes) == 0) ≡ false
is_some b bytes = ne_eqb (length (b ∷ bytes)) 0 (λ e. absurd (omega (arith, e)))

-- behind a close, or at the end of the input
closed_ends : (bytes : List ℕ) (xs : List Exchange) (kept left : List ℕ) → AreRequests bytes (requests_of xs) (kept ++ left) → CloseLast (requests_of xs) ⊎ ((kept ≡ []) × (left ≡ []))
    → StreamEnds bytes xs (replies_text xs) (closed_end (counted (length xs)) ((length kept == 0) && (length left == 0)))
closed_ends bytes xs [] [] are how = (are, refl)
closed_ends bytes xs [] (b ∷ left) are (inl closes) =
    subst (λ (t : Bool). StreamEnds bytes xs (replies_text xs) (closed_end (counted (length xs)) t)) (sym (is_some b left))
    (omega arith, (b ∷ left, omega arith, are, closes, refl))
closed_ends bytes xs [] (b ∷ left) are (inr ends) = absurd (cc ends.1)
closed_ends bytes xs (k ∷ kept) left are (inl closes) =
    subst (λ (t : Bool). StreamEnds bytes xs (replies_text xs) (closed_end (counted (length xs)) (t && (length left == 0)))) (sym (is_some k kept))
    (omega arith, (k ∷ (kept ++ left), omega arith, are, closes, refl))
closed_ends bytes xs (k ∷ kept) left are (inr ends) = absurd (cc ends.0)

-- an end is told of each stop
always_told : (stop : Option WireFault) (n k l : ℕ) → ask_end (end_at stop n k) l ≡ None → ⊥
always_told None n k l is = cc is
always_told (Some fault.End) n k l is = cc is
always_told (Some fault.Cut) n k l is = cc is
always_told (Some fault.Head) n k l is = cc is
always_told (Some fault.HeadTooLong) n k l is = cc is
always_told (Some fault.Length) n k l is = cc is
always_told (Some fault.BodyTooLong) n k l is = cc is
always_told (Some fault.Chunked) n k l is = cc is
always_told (Some fault.Source) n k l is = cc is
always_told (Some fault.NoMemory) n k l is = cc is

-- the end of which a line is printed
printed_ends : (bytes : List ℕ) (xs : List Exchange) (done : List ℕ) (end : End) (a : Answer) → IsPrinted (record { done = []; end = end }) a → StreamEnds bytes xs done end
    → (a.done ≡ []) × StreamEnds bytes xs done a.end
printed_ends bytes xs done end a (inl same) ends =
    (ap (λ (x : Answer). x.done) same, subst (λ (e : End). StreamEnds bytes xs done e) (sym (ap (λ (x : Answer). x.end) same)) ends)
printed_ends bytes xs done end a (inr (other, same)) ends =
    (ap (λ (x : Answer). x.done) same, subst (λ (e : End). StreamEnds bytes xs done e) (sym (ap (λ (x : Answer). x.end) same)) (ends-wants bytes xs done end ends other))

-- ---- what was made of the stream

module _ (bytes left : List ℕ) (written written' : Option (List ℕ)) (sink sink' : ℕ) (stands stands' : KeptState → Type 0) (keeper keeper' : ℕ) (first hub : HeldHub) where
  abbrev old : Ends
  old = ends_of (Some bytes) 0 written sink

  abbrev new : Ends
  new = ends_of (Some left) 0 written' sink'

  abbrev before : Stage
  before = stage_of old stands keeper first

  abbrev now : Stage
  now = stage_of new stands' keeper' hub

  -- the end that is told, and what was written before its line
  record Told (xs : List Exchange) (end : End) : Type 0 where
    done : List ℕ
    ends : StreamEnds bytes xs done end
    wrote : Appends written written' done
    stood : sink' ≡ sink

  -- the sink failed
  record Broken (xs : List Exchange) : Type 0 where
    done : List ℕ
    ends : StreamEnds bytes xs done NoMemory
    wrote : AppendsPart written written' done
    failed : Rose sink sink'

  module _ (xs : List Exchange) (kept : List ℕ) where
    closed : (stop : Option WireFault) → IsServed old new (requests_of xs) (replies_text xs) stop kept → stop_text stop ≡ [] → AreRequests bytes (requests_of xs) (kept ++ left)
        → CloseLast (requests_of xs) ⊎ ((kept ≡ []) × (left ≡ [])) → Told xs (closed_end (counted (length xs)) ((length kept == 0) && (length left == 0)))
    closed stop served none are how = record {
      done = replies_text xs;
      ends = closed_ends bytes xs kept left are how;
      wrote = subst (λ (bs : List ℕ). Appends written written' bs) (append-nil (replies_text xs)) (rw none at served.written);
      stood = served.sink;
    }

    wire : (e : WireFault) → IsServed old new (requests_of xs) (replies_text xs) (Some e) kept → lasting e ≡ Some e → IsToldOf e → Told xs (RequestRefused (counted (length xs + 1)) (Unreadable e))
    wire e served lasts told = record {
      done = replies_text xs ++ fault_text e;
      ends = (refl, (kept, left, served.read.1 lasts, served.stops, told, served.cause, refl));
      wrote = served.written;
      stood = served.sink;
    }

    told_at : (stop : Option WireFault) → IsServed old new (requests_of xs) (replies_text xs) stop kept → (end : End) → ask_end (end_at stop (length xs) (length kept)) (length left) ≡ Some end → Told xs end
    told_at None served end is = subst (Told xs) (same_Some _ _ is) (closed None served refl served.read (inl served.stops))
    told_at (Some fault.End) served end is = subst (Told xs) (same_Some _ _ is) (closed (Some fault.End) served refl (served.read.1 refl) (inr (served.cause.0, served.cause.2)))
    told_at (Some fault.NoMemory) served end is = subst (Told xs) (same_Some _ _ is) (record {
      done = replies_text xs ++ [];
      ends = (kept, left, [], first_taken bytes (kept ++ left) (requests_of xs) served.read.0, inl refl, refl);
      wrote = served.written;
      stood = served.sink;
    })
    told_at (Some fault.Source) served end is = absurd (omega (arith, served.source))
    told_at (Some fault.Cut) served end is = subst (Told xs) (same_Some _ _ is) (wire fault.Cut served refl tt)
    told_at (Some fault.Head) served end is = subst (Told xs) (same_Some _ _ is) (wire fault.Head served refl tt)
    told_at (Some fault.HeadTooLong) served end is = subst (Told xs) (same_Some _ _ is) (wire fault.HeadTooLong served refl tt)
    told_at (Some fault.Length) served end is = subst (Told xs) (same_Some _ _ is) (wire fault.Length served refl tt)
    told_at (Some fault.BodyTooLong) served end is = subst (Told xs) (same_Some _ _ is) (wire fault.BodyTooLong served refl tt)
    told_at (Some fault.Chunked) served end is = subst (Told xs) (same_Some _ _ is) (wire fault.Chunked served refl tt)

  ended : (xs : List Exchange) (stop : Option WireFault) (kept : List ℕ) (result : StreamEnd) → result ≡ end_at stop (length (requests_of xs)) (length kept)
      → ask_end result (length left) ≡ ask_end (end_at stop (length xs) (length kept)) (length left)
  ended xs stop kept result is = ap (λ (r : StreamEnd). ask_end r (length left)) (is ∙ ap (λ (n : ℕ). end_at stop n (length kept)) (length-map xs (λ (e : Exchange). e.request)))

  told_of : (xs : List Exchange) (result : StreamEnd) → EndsBy old new (requests_of xs) (replies_text xs) result → (end : End) → ask_end result (length left) ≡ Some end → Told xs end
  told_of xs result (inl (stop, kept, served, is)) end asked = told_at xs kept stop served end (sym (ended xs stop kept result is) ∙ asked)
  told_of xs result (inr (broken, is)) end asked = let none : None ≡ Some end = ap (λ (r : StreamEnd). ask_end r (length left)) (sym is) ∙ asked in cc none

  broken_of : (xs : List Exchange) (result : StreamEnd) → EndsBy old new (requests_of xs) (replies_text xs) result → ask_end result (length left) ≡ None → Broken xs
  broken_of xs result (inl (stop, kept, served, is)) none =
      absurd (always_told stop (length xs) (length kept) (length left) (sym (ended xs stop kept result is) ∙ none))
  broken_of xs result (inr (broken, is)) none = record {
    done = replies_text xs ++ broken.more;
    ends = (broken.kept, left, broken.more, broken.taken, broken.follows, refl);
    wrote = broken.written;
    failed = broken.failed;
  }

  module _ (moment : Option ℤ) (result : StreamEnd) (serves : Serves before now moment result) (is : IsKept first.kept) (shut : first.commit_open ≡ false) (fits : KeeperFits stands' hub) where
    abbrev Asks : Answer → KeptState → KeptState → Type 0
    Asks a = AsksBytes moment (faults_of keeper keeper') bytes a.done a.end

    asks : (a : Answer) → StreamEnds bytes serves.exchanges a.done a.end → LeadsFrom stands stands' (Asks a)
    asks a ends = leads-standing stands stands' first hub (Asks a) is shut fits (λ after standing.
        let (kept, stood, told, run) = serves.told after standing in
        (kept, stood, told, record { exchanges = serves.exchanges; moments = serves.moments; failed = serves.failed; count = serves.count; run = run; ends = ends }))

    -- the end is printed behind what was written, or the sink failed
    pub asked : (o : Option End) → o ≡ ask_end result (length left) → (status : ℕ) (written'' : Option (List ℕ)) (sink'' : ℕ)
        → ((end : End) → o ≡ Some end → Writes status written' written'' sink' sink'' (IsPrinted (record { done = []; end = end })))
        → (o ≡ None → (status ≡ output_failed_status) × (written'' ≡ written') × (sink'' ≡ sink'))
        → Writes status written written'' sink sink'' (λ a. LeadsFrom stands stands' (Asks a))
    asked (Some end) is status written'' sink'' prints none =
        let t = told_of serves.exchanges result serves.ends end (sym is) in
        let (a, printed, how) = prints end refl in
        let (empty, ends) = printed_ends bytes serves.exchanges t.done end a printed t.ends in
        let b : Answer = record { done = t.done; end = a.end } in (
          b,
          asks b ends,
          elim how [
            | inl (other, is_status, wrote, stood) ↦ inl (other, is_status, appends_both written written' written'' t.done (end_text a.end) t.wrote (rw empty at wrote), stood ∙ t.stood)
            | inr (one, rose, part) ↦ inr (one, subst (λ (n : ℕ). Rose n sink'') t.stood rose, part_behind written written' written'' t.done (end_text a.end) t.wrote (rw empty at part))
          ],
        )
    asked None is status written'' sink'' prints none =
        let b = broken_of serves.exchanges result serves.ends (sym is) in
        let (one, same, same_count) = none refl in
        let a : Answer = record { done = b.done; end = NoMemory } in
        (a, asks a b.ends, inr (one, rw same_count b.failed, rw same (part_front written written' b.done (end_text NoMemory) b.wrote)))

-- ---- the answer

-- an end that a file brings which is refused
pub refused_as : (name : List ℕ) (read : FileRead) (end : End) → bytes_in name read ≡ Err end → (end ≡ MissingFile name) ⊎ (end ≡ FileTooLarge name)
refused_as name Absent end is = inl (cc is)
refused_as name TooLong end is = inr (cc is)
refused_as name (Bytes bytes) end is = absurd (cc is)

module _ (o : Outside) (file : List ℕ) where
  -- memory may run out for the line of an end
  pub ask-wants : (done : List ℕ) (end : End) (before after : KeptState) → IsAskAnswer o file done end before after → end ≢ Done → IsAskAnswer o file done NoMemory before after
  ask-wants done end kept after (inl (none, same, stops)) other = inl (none, same, tt)
  ask-wants done end kept after (inr is) other = inr (record {
    bytes = is.bytes;
    is_file = is.is_file;
    folder = is.folder;
    asks = record { exchanges = is.asks.exchanges; moments = is.asks.moments; failed = is.asks.failed; count = is.asks.count; run = is.asks.run; ends = ends-wants is.bytes is.asks.exchanges done end is.asks.ends other };
  })

  file-says : (end : End) → IsBytesOf o.files file (Err end) → Says o end
  file-says end (read, told, is) = elim (refused_as file read end is) [
    | inl missing ↦ subst (Says o) (sym missing) (says_quiet o _ refl)
    | inr large ↦ subst (Says o) (sym large) (says_quiet o _ refl)
  ]

  stops-says : (end : End) → StopsAsking o file end → Says o end
  stops-says FolderFailed stops = says_folder o stops
  stops-says HubFailed stops = says_hub o stops
  stops-says NoMemory stops = says_quiet o _ refl
  stops-says end stops = file-says end stops.0

  ends-says : (bytes : List ℕ) (xs : List Exchange) (done : List ℕ) (end : End) → StreamEnds bytes xs done end → Says o end
  ends-says bytes xs done Done is = says_quiet o _ refl
  ends-says bytes xs done NoMemory is = says_quiet o _ refl
  ends-says bytes xs done (RequestRefused n f) is = says_quiet o _ refl
  ends-says bytes xs done end is = absurd is

  pub ask-says : (done : List ℕ) (end : End) (before after : KeptState) → IsAskAnswer o file done end before after → Says o end
  ask-says done end kept after (inl (none, same, stops)) = stops-says end stops
  ask-says done end kept after (inr is) = ends-says is.bytes is.asks.exchanges done end is.asks.ends

-- ---- the whole command

-- no request was taken for want of memory
pub asks_none : (bytes : List ℕ) (moment : Option ℤ) (stands : KeptState → Type 0) (keeper : ℕ) (hub : HeldHub) → IsKept hub.kept → hub.commit_open ≡ false → KeeperFits stands hub
    → (a : Answer) → IsPrinted (record { done = []; end = NoMemory }) a → LeadsFrom stands stands (AsksBytes moment (faults_of keeper keeper) bytes a.done a.end)
asks_none bytes moment stands keeper hub is shut fits a printed =
    let wants : StreamEnds bytes [] [] NoMemory = ([], bytes, [], refl, inl refl, refl) in
    let (empty, ends) = printed_ends bytes [] [] NoMemory a printed wants in
    leads-standing stands stands hub hub (AsksBytes moment (faults_of keeper keeper) bytes a.done a.end) is shut fits (λ after stood. (
      after,
      stood,
      (λ told. told),
      record {
        exchanges = [];
        moments = tt;
        failed = 0;
        count = inl (refl, refl);
        run = λ state is part. (state, is, (λ hub. hub), part, record { steps = []; are = refl; run = tt; end = refl });
        ends = rw empty ends;
      },
    ))

module _ (files : Option (List Stored)) (moment : Option ℤ) (folder : Faults) (file : List ℕ) where
  read_stops : (keeper : ℕ) (end : End) → ReadsBytes files folder file (Err end) → StopsAsking (outside_of files moment folder (faults_of keeper keeper)) file end
  read_stops keeper FolderFailed risen = risen
  read_stops keeper NoMemory wants = tt
  read_stops keeper HubFailed ((read, told, is), stood) = elim (refused_as file read HubFailed is) [ inl e ↦ absurd (cc e) | inr e ↦ absurd (cc e) ]
  read_stops keeper end is = (is.0, record { folder = is.1; keeper = refl })

  -- an end before which nothing was done, and of which a line is printed
  stopped_as : (o : Outside) (end : End) (a : Answer) (kept : KeptState) → StopsAsking o file end → IsPrinted (record { done = []; end = end }) a → IsAskAnswer o file a.done a.end kept kept
  stopped_as o end a kept stops (inl same) = subst (λ (x : Answer). IsAskAnswer o file x.done x.end kept kept) (sym same) (inl (refl, refl, stops))
  stopped_as o end a kept stops (inr (other, same)) = subst (λ (x : Answer). IsAskAnswer o file x.done x.end kept kept) (sym same) (inl (refl, refl, tt))

  -- a file that can't be read
  pub asks_not : (stands : KeptState → Type 0) (keeper : ℕ) (end : End) → ReadsBytes files folder file (Err end) → (a : Answer) → IsPrinted (record { done = []; end = end }) a
      → LeadsFrom stands stands (IsAskAnswer (outside_of files moment folder (faults_of keeper keeper)) file a.done a.end)
  asks_not stands keeper end reads a printed =
      leads-nowhere stands (IsAskAnswer (outside_of files moment folder (faults_of keeper keeper)) file a.done a.end)
      (λ kept. stopped_as (outside_of files moment folder (faults_of keeper keeper)) end a kept (read_stops keeper end reads) printed)

  module _ (keeper keeper_now : ℕ) (old new : KeptState → Type 0) where
    abbrev whole : Outside
    whole = outside_of files moment folder (faults_of keeper keeper_now)

    -- a file that is read
    pub asks_file : (bytes : List ℕ) → ReadsBytes files folder file (Ok bytes) → (a : Answer) → LeadsFrom old new (AsksBytes moment (faults_of keeper keeper_now) bytes a.done a.end)
        → LeadsFrom old new (IsAskAnswer whole file a.done a.end)
    asks_file bytes (is, stood) a =
        leads-on old old new (AsksBytes moment (faults_of keeper keeper_now) bytes a.done a.end) (IsAskAnswer whole file a.done a.end) (λ kept told. told)
        (λ before after asks. inr (record { bytes = bytes; is_file = is; folder = stood; asks = asks }))

    -- the hub was opened
    pub asks_opened : (keeper_open : ℕ) (stands : KeptState → Type 0) → ((kept : KeptState) → stands kept → old kept) → keeper_open ≡ keeper → (a : Answer)
        → LeadsFrom stands new (IsAskAnswer (outside_of files moment folder (faults_of keeper_open keeper_now)) file a.done a.end) → LeadsFrom old new (IsAskAnswer whole file a.done a.end)
    asks_opened keeper_open stands told same a =
        leads-on old stands new _ _ told (λ before after is. subst (λ k. IsAskAnswer (outside_of files moment folder (faults_of k keeper_now)) file a.done a.end before after) same is)

    open_stops : (T : Type 0) (e : HubError) → RefusesNothing {T = T} (Err e) → CountsFault {T = T} keeper keeper_now (Err e) → StopsAsking whole file (end_of_error e)
    open_stops T error.Keeper quiet counts = rose keeper keeper_now counts
    open_stops T error.NoMemory quiet counts = tt
    open_stops T (error.Refused f) quiet counts = absurd quiet

    -- it couldn't be opened
    pub asks_closed : (T : Type 0) (e : HubError) → RefusesNothing {T = T} (Err e) → CountsFault {T = T} keeper keeper_now (Err e) → ((kept : KeptState) → new kept → old kept)
        → (a : Answer) → IsPrinted (record { done = []; end = end_of_error e }) a → LeadsFrom old new (IsAskAnswer whole file a.done a.end)
    asks_closed T e quiet counts told a printed =
        leads-on old new new _ _ told (λ before after is. is)
        (leads-nowhere new (IsAskAnswer whole file a.done a.end) (λ kept. stopped_as whole (end_of_error e) a kept (open_stops T e quiet counts) printed))
