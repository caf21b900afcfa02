-- Runs of `publish`, set by set.
use Rattle.std.proofs.Common.{◌≡◌, ◌≢◌, ◌⊎◌, ℕ, ℤ, List, [], ◌∷◌, ◌++◌, Option, Result, Ok, Err, false, refl, sym, ap, true}
use Rattle.std.proofs.Common.{subst, ◌∙◌, append_assoc, inl, inr, arith}
use Rattle.std.proofs.lemmas.List.{append-nil}
use Rattle.std.specs.Prelude.{min, ◌+◌, ◌-◌, ◌^◌}
use Rattle.csv_sets.specs.declared.fault.SetFault.{SetFault}
use Rattle.csv_sets.specs.declared.fault.SetFault.TheVariants as fault
use Rattle.csv_sets.specs.declared.fault.SetFault.TheVariants.{Folder}
use Rattle.csv_sets.specs.Folders.{FaultOf}
use Rattle.csv_sets.specs.Sets.{set_of}
use Rattle.hub_core.specs.declared.hub_error.HubError.{HubError}
use Rattle.hub_core.specs.declared.hub_error.HubError.TheVariants as error
use Rattle.hub_core.specs.declared.published.Published.{Published}
use Rattle.hub_core.specs.declared.published.Published.TheVariants.{New}
use Rattle.hub_core.specs.Standing.{HeldHub, IsStanding, KeeperFits, StandsFrom}
use Rattle.hub_core.specs.Steps.{CountsFault, MakesNext, RefusesNothing}
use Rattle.keeper_memory.specs.Kept.{IsKept, KeptState}
use Rattle.outside_ports.specs.Files.{Stored}
use Rattle.roster_types.specs.Sets.{SetRecord}
use Rattle.version_changes.specs.sets.Applying.{Applies}
use Rattle.rest_provider.specs.Moments.{IsMomentOf}
use Rattle.hub_commands.specs.Answers.{status_of}
use Rattle.hub_commands.specs.Outside.{Faults, HaveRisen, HaveStood, NothingFailed, Outside, faults_of, outside_of}
use Rattle.hub_commands.specs.PublishAnswers.{IsRunOf, IsSetOf, PublishesSet, StopsAt, told_text}
use Rattle.hub_commands.specs.Runs.{IsPublishAnswer, LeadsFrom}
use Rattle.hub_commands.specs.Steps.{PublishesFeed, ReadsSet, end_of, end_of_error}
use Rattle.hub_commands.specs.declared.answer.Answer.{Answer}
use Rattle.hub_commands.specs.declared.answer.End.{End}
use Rattle.hub_commands.specs.declared.answer.End.TheVariants.{Done}
use Rattle.hub_commands.specs.declared.answer.End.TheVariants.{FolderFailed}
use Rattle.hub_commands.specs.declared.answer.End.TheVariants.{HubFailed, NoMemory}
use Rattle.hub_commands.specs.declared.answer.End.TheVariants.{NotPublished, Refused}
use Rattle.hub_words.specs.declared.task.Feed.{Feed}
use Rattle.hub_commands.proofs.Leading.{leads-nowhere, leads-on, leads-standing}
use Rattle.hub_words.specs.Statuses.{bad_words_status, copy_failed_status, folder_failed_status, hub_failed_status}
use Rattle.hub_words.proofs.Quiet.{is_quiet, unlike}

-- a failure that is counted makes the count rise
pub rose : (before now : ℕ) → now ≡ min (before + 1) (2 ^ 64 - 1) → HaveRisen (faults_of before now)
rose before now counted = omega arith

-- ---- how a run may end

module _ (o : Outside) where
  made_or_not : (feed : Feed) (before after : KeptState) → PublishesSet o feed (Err error.Keeper) before after → (after ≡ before) ⊎ ((answer : Published) × PublishesSet o feed (Ok answer) before after)
  made_or_not feed before after (set, at, is, moment, inl same) = inl same
  made_or_not feed before after (set, at, is, moment, inr (next, adds)) = inr (New next.number, (set, at, is, moment, (next, adds, refl)))

  -- memory may run out for the line of an end
  stop-wants : (feed : Feed) (end : End) (before after : KeptState) → StopsAt o feed end before after → StopsAt o feed NoMemory before after
  stop-wants feed FolderFailed before after stops = inl stops.1
  stop-wants feed HubFailed before after stops = made_or_not feed before after stops.1
  stop-wants feed (Refused f) before after stops = inl stops.2
  stop-wants feed (NotPublished f) before after stops = inl stops.0.4.1
  stop-wants feed NoMemory before after stops = stops
  stop-wants feed end before after stops = absurd stops

  pub run-wants : (feeds : List Feed) (done : List ℕ) (end : End) (before after : KeptState) → IsRunOf o feeds done end before after → IsRunOf o feeds done NoMemory before after
  run-wants [] done end before after run = (run.0, run.1, inr refl)
  run-wants (feed ∷ feeds) done end before after (inl stops) = inl (stops.0, stop-wants feed end before after stops.1)
  run-wants (feed ∷ feeds) done end before after (inr (next, answer, more, publishes, is, run)) = inr (next, answer, more, publishes, is, run-wants feeds more end next after run)

  -- memory may run out before anything is done
  pub run-none : (feeds : List Feed) (kept : KeptState) → IsRunOf o feeds [] NoMemory kept kept
  run-none [] kept = (refl, refl, inr refl)
  run-none (feed ∷ feeds) kept = inl (refl, inl refl)

  -- what the status of an end says
  pub record Says (end : End) : Type 0 where
    pub words : status_of end ≢ bad_words_status
    pub folder : status_of end ≡ folder_failed_status → HaveRisen o.folder
    pub keeper : status_of end ≡ hub_failed_status → HaveRisen o.keeper
    pub copy : status_of end ≢ copy_failed_status

  pub says_quiet : (end : End) → is_quiet (status_of end) ≡ true → Says end
  says_quiet end quiet = record {
    words = unlike (status_of end) bad_words_status quiet refl;
    folder = λ e. absurd (unlike (status_of end) folder_failed_status quiet refl e);
    keeper = λ e. absurd (unlike (status_of end) hub_failed_status quiet refl e);
    copy = unlike (status_of end) copy_failed_status quiet refl;
  }

  pub says_folder : HaveRisen o.folder → Says FolderFailed
  says_folder risen = record { words = λ e. cc e; folder = λ e. risen; keeper = λ e. cc e; copy = λ e. cc e }

  pub says_hub : HaveRisen o.keeper → Says HubFailed
  says_hub risen = record { words = λ e. cc e; folder = λ e. cc e; keeper = λ e. risen; copy = λ e. cc e }

  stop-says : (feed : Feed) (end : End) (before after : KeptState) → StopsAt o feed end before after → Says end
  stop-says feed FolderFailed before after stops = says_folder stops.0
  stop-says feed HubFailed before after stops = says_hub stops.0
  stop-says feed (Refused f) before after stops = says_quiet _ refl
  stop-says feed (NotPublished f) before after stops = says_quiet _ refl
  stop-says feed NoMemory before after stops = says_quiet _ refl
  stop-says feed end before after stops = absurd stops

  quiet-says : (end : End) → ((end ≡ Done) × NothingFailed o) ⊎ (end ≡ NoMemory) → Says end
  quiet-says end (inl is) = subst Says (sym is.0) (says_quiet Done refl)
  quiet-says end (inr is) = subst Says (sym is) (says_quiet NoMemory refl)

  pub run-says : (feeds : List Feed) (done : List ℕ) (end : End) (before after : KeptState) → IsRunOf o feeds done end before after → Says end
  run-says [] done end before after run = quiet-says end run.2
  run-says (feed ∷ feeds) done end before after (inl stops) = stop-says feed end before after stops.1
  run-says (feed ∷ feeds) done end before after (inr (next, answer, more, publishes, is, run)) = run-says feeds more end next after run

-- ---- how far the feeds are published

-- from what stood at the start: the folder's files, the clock's moment, both counts of faults, what the keeper stood
-- for, and the hub
module _ (told : Option (List Stored)) (moment : Option ℤ) (folder keeper : ℕ) (stood : KeptState → Type 0) (first : HeldHub) (feeds : List Feed) (start : List ℕ) where
  abbrev pub since : ℕ → ℕ → Outside
  since folder_now keeper_now = outside_of told moment (faults_of folder folder_now) (faults_of keeper keeper_now)

  -- what stands now stood before for something from which a run over all feeds leads here
  abbrev pub Comes : ℕ → ℕ → (KeptState → Type 0) → List ℕ → End → KeptState → KeptState → Type 0
  Comes folder_now keeper_now stands done end between after =
      (before : KeptState) × IsStanding first before × (stands between → stood before) × IsRunOf (since folder_now keeper_now) feeds done end before after

  -- the feeds that are left lead to the whole
  pub record Left (files : Option (List Stored)) (folder_now keeper_now : ℕ) (stands : KeptState → Type 0) (hub : HeldHub) (left : List Feed) (done : List ℕ) : Type 0 where
    pub files_stay : files ≡ told
    pub folder_stands : folder_now ≡ folder
    pub keeper_stands : keeper_now ≡ keeper
    pub all : List ℕ
    pub written : done ≡ start ++ all
    pub leads : (folder_last keeper_last : ℕ) (more : List ℕ) (end : End) (between after : KeptState) → IsStanding hub between → IsRunOf (since folder_last keeper_last) left more end between after
        → Comes folder_last keeper_last stands (all ++ more) end between after

  -- the run over all feeds has ended
  abbrev pub Ended : ℕ → ℕ → (KeptState → Type 0) → HeldHub → List ℕ → End → Type 0
  Ended folder_now keeper_now stands hub done end =
      (more : List ℕ) × (done ≡ start ++ more) × ((after : KeptState) → IsStanding hub after → Comes folder_now keeper_now stands more end after after)

  -- nothing is published yet
  pub left-start : Left told folder keeper stood first feeds start
  left-start = record {
    files_stay = refl;
    folder_stands = refl;
    keeper_stands = refl;
    all = [];
    written = sym (append-nil start);
    leads = λ folder_last keeper_last more end between after standing run. (between, standing, (λ s. s), run);
  }

-- what a step leads to stood before it for something
abbrev pub StepsBack : Outside → (KeptState → Type 0) → (KeptState → Type 0) → HeldHub → HeldHub → Feed
    → Result Published End → Type 0
StepsBack outside stands next hub hub_next feed result =
    StandsFrom stands next hub hub_next (PublishesFeed outside feed result)

-- what is left, from any start
module _ {told : Option (List Stored)} {moment : Option ℤ} {folder keeper : ℕ} {stood : KeptState → Type 0}
    {first : HeldHub} {feeds : List Feed} {start : List ℕ} {files : Option (List Stored)} {folder_now keeper_now : ℕ}
    {stands : KeptState → Type 0} {hub : HeldHub} {done : List ℕ} where
  module _ (folder_next keeper_next : ℕ) (next : KeptState → Type 0) (hub_next : HeldHub) where
    ends : (left : List Feed)
        → Left told moment folder keeper stood first feeds start files folder_now keeper_now stands hub left done
        → (end : End)
        → StandsFrom stands next hub hub_next (IsRunOf (since told moment folder keeper stood first feeds start folder_next keeper_next) left [] end)
        → Ended told moment folder keeper stood first feeds start folder_next keeper_next next hub_next done end
    ends left l end run = (
      l.all,
      l.written,
      λ after standing.
          let r = run after standing in
          let whole = l.leads folder_next keeper_next [] end r.0 after r.1 r.3 in
          let run_of : List ℕ → Type 0 =
          λ t. IsRunOf (since told moment folder keeper stood first feeds start folder_next keeper_next) feeds t end whole.0
          after in
          (whole.0, whole.1, (λ s. whole.2 (r.2 s)), subst run_of (append-nil l.all) whole.3),
    )

  -- all sets are published
  pub left-none : (left : List Feed)
      → Left told moment folder keeper stood first feeds start files folder_now keeper_now stands hub left done → left ≡ []
      → Ended told moment folder keeper stood first feeds start folder_now keeper_now stands hub done Done
  left-none left l none = ends folder_now keeper_now stands hub left l Done (λ after standing. (
    after,
    standing,
    (λ s. s),
    subst
        (λ (fs : List Feed). IsRunOf (since told moment folder keeper stood first feeds start folder_now keeper_now) fs [] Done
        after after) (sym none) (refl, refl, inl (refl, record { folder = l.folder_stands; keeper = l.keeper_stands })),
  ))

  module _ (folder_next keeper_next : ℕ) {next : KeptState → Type 0} {hub_next : HeldHub} {feed : Feed}
      {left : List Feed} where
    -- a set isn't published
    pub left-stops : Left told moment folder keeper stood first feeds start files folder_now keeper_now stands hub
        (feed ∷ left) done → (end : End)
        → StepsBack (outside_of files moment (faults_of folder_now folder_next) (faults_of keeper_now keeper_next))
        stands next hub hub_next feed (Err end)
        → Ended told moment folder keeper stood first feeds start folder_next keeper_next next hub_next done end
    left-stops l end step = ends folder_next keeper_next next hub_next (feed ∷ left) l end (λ after standing.
        let s = step after standing in
        let stops = subst (λ n. Stops files folder_now n s.0 after) l.keeper_stands s.3 in
        let stops_so = subst (λ n. Stops files n keeper s.0 after) l.folder_stands stops in
        (s.0, s.1, s.2, inl (refl, subst (λ fs. Stops fs folder keeper s.0 after) l.files_stay stops_so)))
      where
        Stops : Option (List Stored) → ℕ → ℕ → KeptState → KeptState → Type 0
        Stops fs f k before after =
            StopsAt (outside_of fs moment (faults_of f folder_next) (faults_of k keeper_next)) feed end before after

    module _
        (l : Left told moment folder keeper stood first feeds start files folder_now keeper_now stands hub
        (feed ∷ left) done) (answer : Published)
        (step : StepsBack (outside_of files moment (faults_of folder_now folder_next) (faults_of keeper_now keeper_next))
        stands next hub hub_next feed (Ok answer)) where
      published : (folder_last keeper_last : ℕ) (before after : KeptState)
          → PublishesSet (outside_of files moment (faults_of folder_now folder_next) (faults_of keeper_now keeper_next))
          feed (Ok answer) before after
          → PublishesSet (since told moment folder keeper stood first feeds start folder_last keeper_last) feed (Ok answer)
          before after
      published folder_last keeper_last before after = subst
          (λ fs. PublishesSet (outside_of fs moment (faults_of folder folder_last) (faults_of keeper keeper_last)) feed
          (Ok answer) before after) l.files_stay

      -- memory runs out for the line of a set that is published
      pub left-wants : Ended told moment folder keeper stood first feeds start folder_next keeper_next next hub_next
          done NoMemory
      left-wants = ends folder_next keeper_next next hub_next (feed ∷ left) l NoMemory (λ after standing.
          let s = step after standing in
          (s.0, s.1, s.2, inl (refl, inr (answer, published folder_next keeper_next s.0 after s.3.0))))

      -- a set is published and told
      pub left-next : (files_next : Option (List Stored)) (done_next : List ℕ) → files_next ≡ files
          → done_next ≡ done ++ told_text feed.name answer
          → Left told moment folder keeper stood first feeds start files_next folder_next keeper_next next hub_next left
          done_next
      left-next files_next done_next same is =
          let line = told_text feed.name answer in
          let nothing = (step hub_next.kept (inl refl)).3.1 in
          record {
            files_stay = same ∙ l.files_stay;
            folder_stands = nothing.folder ∙ l.folder_stands;
            keeper_stands = nothing.keeper ∙ l.keeper_stands;
            all = l.all ++ line;
            written = is ∙ ap (λ (t : List ℕ). t ++ line) l.written ∙ append_assoc start l.all line;
            leads = λ folder_last keeper_last more end between after standing run.
                let s = step between standing in
                let whole = l.leads folder_last keeper_last (line ++ more) end s.0 after s.1
                (inr (between, answer, more, published folder_last keeper_last s.0 between s.3.0, refl, run)) in
                let run_of : List ℕ → Type 0 =
                λ t. IsRunOf (since told moment folder keeper stood first feeds start folder_last keeper_last) feeds t end
                whole.0 after in
                (whole.0, whole.1, (λ t. whole.2 (s.2 t)), subst run_of (sym (append_assoc l.all line more)) whole.3);
          }

-- ---- the whole command

module _ (files : Option (List Stored)) (moment : Option ℤ) (folder folder_now keeper keeper_now : ℕ) (old new : KeptState → Type 0) (feeds : List Feed) where
  abbrev outside : Outside
  outside = outside_of files moment (faults_of folder folder_now) (faults_of keeper keeper_now)

  -- a run over a hub that was opened
  pub ran : (first hub : HeldHub) (done : List ℕ) (end : End) → IsKept first.kept → first.commit_open ≡ false → Ended files moment folder keeper old first feeds [] folder_now keeper_now new hub done end → KeeperFits new hub
      → LeadsFrom old new (IsRunOf outside feeds done end)
  ran first hub done end is shut ended fits =
      leads-standing old new first hub (IsRunOf outside feeds done end) is shut fits (λ after standing.
      let c = ended.2 after standing in
      (c.0, c.1, c.2, subst (λ t. IsRunOf outside feeds t end c.0 after) (sym ended.1) c.3))

  -- the run of a command that opened its hub
  pub opened : (keeper_open : ℕ) (stands : KeptState → Type 0) (answer : Answer) → ((kept : KeptState) → stands kept → old kept) → keeper_open ≡ keeper
      → LeadsFrom stands new (IsRunOf (outside_of files moment (faults_of folder folder_now) (faults_of keeper_open keeper_now)) feeds answer.done answer.end) → LeadsFrom old new (IsPublishAnswer outside feeds answer)
  opened keeper_open stands answer told same =
      leads-on old stands new _ _ told (λ before after run. inr (subst (λ k. IsRunOf (outside_of files moment (faults_of folder folder_now) (faults_of k keeper_now)) feeds answer.done answer.end before after) same run))

  -- a hub that couldn't be opened
  pub not_opened : (T : Type 0) (e : HubError) → RefusesNothing {T = T} (Err e) → CountsFault {T = T} keeper keeper_now (Err e) → ((kept : KeptState) → new kept → old kept)
      → LeadsFrom old new (IsPublishAnswer outside feeds (record { done = []; end = end_of_error e }))
  not_opened T e quiet counts told = leads-on old new new _ _ told (λ before after is. is) (leads-nowhere new (IsPublishAnswer outside feeds (record { done = []; end = end_of_error e })) (failed e quiet counts))
    where
      failed : (e : HubError) → RefusesNothing {T = T} (Err e) → CountsFault {T = T} keeper keeper_now (Err e) → (kept : KeptState) → IsPublishAnswer outside feeds (record { done = []; end = end_of_error e }) kept kept
      failed error.Keeper quiet counts kept = inl (refl, (refl, refl, rose keeper keeper_now counts))
      failed error.NoMemory quiet counts kept = inr (run-none outside feeds kept)
      failed (error.Refused f) quiet counts kept = absurd quiet

-- ---- the steps of one feed

other_fault : (f : SetFault) → f ≢ Folder → end_of f ≡ Refused f
other_fault fault.Folder other = absurd (other refl)
other_fault fault other = refl

-- a fault of a set brings its end
pub fault_end : (files : Option (List Stored)) (before now : ℕ) (feed : Feed) (f : SetFault) → FaultOf files before now f (set_of feed.dir feed.name) → ReadsSet files (faults_of before now) feed (Err (end_of f))
fault_end files before now feed f (inl (is, rose)) = rw is rose
fault_end files before now feed f (inr (other, same, meant)) = rw (other_fault f other) ((meant, other), same)

module _ (files : Option (List Stored)) (moment : Option ℤ) (folder keeper : Faults) (feed : Feed) where
  -- an end that the set of a feed brings, before the hub is asked
  pub end_of_set : (end : End) (kept : KeptState) → ReadsSet files folder feed (Err end) → HaveStood keeper → StopsAt (outside_of files moment folder keeper) feed end kept kept
  end_of_set FolderFailed kept rose quiet = (rose, refl)
  end_of_set (Refused f) kept is quiet = (is.0, record { folder = is.1; keeper = quiet }, refl)
  end_of_set NoMemory kept is quiet = inl refl
  end_of_set end kept empty quiet = absurd empty

  module _ (set : SetRecord) (at : ℤ) (is : IsSetOf files feed (Ok set)) (stood : HaveStood folder) (m : IsMomentOf moment at) where
    abbrev Makes : Result Published HubError → KeptState → KeptState → Type 0
    Makes = MakesNext (λ version. Applies version set at)

    -- what the hub makes of a set
    pub set_published : (answer : Published) (before after : KeptState) → Makes (Ok answer) before after → CountsFault {T = Published} keeper.before keeper.now (Ok answer) → PublishesFeed (outside_of files moment folder keeper) feed (Ok answer) before after
    set_published answer before after makes quiet = ((set, at, is, m, makes), record { folder = stood; keeper = quiet })

    -- and why it makes nothing of it
    pub set_not_published : (e : HubError) (before after : KeptState) → Makes (Err e) before after → CountsFault {T = Published} keeper.before keeper.now (Err e) → PublishesFeed (outside_of files moment folder keeper) feed (Err (end_of_error e)) before after
    set_not_published error.Keeper before after makes counts = (rose keeper.before keeper.now counts, (set, at, is, m, makes))
    set_not_published error.NoMemory before after makes counts = inl makes
    set_not_published (error.Refused f) before after makes counts = ((set, at, is, m, makes), record { folder = stood; keeper = counts })
