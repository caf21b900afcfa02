-- The grants of a file, set in a hub.
use Rattle.std.proofs.Common.{◌≡◌, ◌≢◌, ◌⊎◌, ℕ, ℤ, List, [], Option, Result, Ok, Err, codes, false, refl, sym, subst}
use Rattle.std.proofs.Common.{inl, inr}
use Rattle.std.specs.Bool.{⊤}
use Rattle.csv_sets.specs.Files.{largest}
use Rattle.version_changes.specs.grants.Granting.{GrantsMake}
use Rattle.grant_files.specs.declared.fault.GrantFault.{GrantFault}
use Rattle.grant_files.specs.Grants.{grants_of}
use Rattle.grant_scopes.specs.declared.entry.GrantEntry.{GrantEntry}
use Rattle.hub_core.specs.declared.hub_error.HubError.{HubError}
use Rattle.hub_core.specs.declared.hub_error.HubError.TheVariants as error
use Rattle.hub_core.specs.declared.published.Published.{Published}
use Rattle.hub_core.specs.declared.published.Published.TheVariants.{New}
use Rattle.hub_core.specs.Standing.{HeldHub, KeeperFits, StandsFrom}
use Rattle.hub_core.specs.Steps.{CountsFault, MakesNext, RefusesNothing}
use Rattle.keeper_memory.specs.Kept.{IsKept, KeptState}
use Rattle.outside_ports.specs.declared.failed.IoError.{IoError}
use Rattle.outside_ports.specs.declared.folder.FileRead.{FileRead}
use Rattle.outside_ports.specs.declared.folder.FileRead.TheVariants.{Absent, Bytes, TooLong}
use Rattle.outside_ports.specs.Files.{ReadsFile, Stored}
use Rattle.hub_commands.proofs.Leading.{leads-nowhere, leads-on, leads-standing}
use Rattle.hub_commands.proofs.Publishing.{Says, rose, says_folder, says_hub, says_quiet}
use Rattle.rest_provider.specs.Moments.{IsMomentOf}
use Rattle.hub_commands.specs.declared.answer.Answer.{Answer}
use Rattle.hub_commands.specs.declared.answer.End.{End}
use Rattle.hub_commands.specs.declared.answer.End.TheVariants.{BadRow, BadWord, CopyFailed, DeltaSynced, Done}
use Rattle.hub_commands.specs.declared.answer.End.TheVariants.{ExportTooLarge, FileNotUtf8, FileTooLarge, FolderFailed}
use Rattle.hub_commands.specs.declared.answer.End.TheVariants.{GrantsRefused, HubFailed, MissingFile, NoMemory}
use Rattle.hub_commands.specs.declared.answer.End.TheVariants.{NotEntered, NothingHeld, NotPublished, Refused}
use Rattle.hub_commands.specs.declared.answer.End.TheVariants.{Sent, Synced}
use Rattle.hub_commands.specs.GrantAnswers.{GivesGrants, GrantsFile, IsGrantAnswer, IsGrantsOf, ReadsGrants, SetsGrants}
use Rattle.hub_commands.specs.GrantAnswers.{StopsGrant, grants_in, or_refused}
use Rattle.hub_commands.specs.Outside.{Faults, HaveStood, Outside, faults_of, outside_of}
use Rattle.hub_commands.specs.PublishAnswers.{IsTold}
use Rattle.hub_commands.specs.Runs.{LeadsFrom}
use Rattle.hub_commands.specs.Steps.{end_of_error}

-- ---- the file

-- an end that a file brings which is refused
abbrev OfFile : End → Type 0
OfFile (MissingFile name) = ⊤
OfFile (FileTooLarge name) = ⊤
OfFile (GrantsRefused fault) = ⊤
OfFile _ = ⊥

refused_so : (grants : Result (List GrantEntry) GrantFault) (end : End) → or_refused grants ≡ Err end → OfFile end
refused_so (Ok entries) end is = cc is
refused_so (Err fault) end is = let same : GrantsRefused fault ≡ end = cc in subst OfFile same tt

-- how a file is refused
refused_file : (name : List ℕ) (read : FileRead) (end : End) → grants_in name read ≡ Err end → OfFile end
refused_file name Absent end is = let same : MissingFile name ≡ end = cc in subst OfFile same tt
refused_file name TooLong end is = let same : FileTooLarge name ≡ end = cc in subst OfFile same tt
refused_file name (Bytes bytes) end is = refused_so (grants_of bytes) end is

module _ (files : Option (List Stored)) (before now : ℕ) (name : List ℕ) (read : FileRead) (told : ReadsFile {E = IoError} files [] name largest (Ok read)) (same : now ≡ before) where
  -- what a read gives is what the file asks for
  pub reads_grants : (grants : Result (List GrantEntry) End) → GivesGrants name read grants → ReadsGrants files (faults_of before now) name grants
  reads_grants (Ok entries) gives = ((read, told, gives), same)
  reads_grants (Err NoMemory) gives = tt
  reads_grants (Err FolderFailed) gives = absurd (refused_file name read FolderFailed gives)
  reads_grants (Err end) gives = ((read, told, gives), same)

-- ---- what the hub makes of it

module _ (files : Option (List Stored)) (moment : Option ℤ) (folder keeper : Faults) (file : List ℕ) where
  abbrev outside : Outside
  outside = outside_of files moment folder keeper

  -- an end that the file brings, before the hub is asked
  pub end_of_grants : (end : End) (kept : KeptState) → ReadsGrants files folder file (Err end) → HaveStood keeper → StopsGrant outside file end kept kept
  end_of_grants FolderFailed kept risen quiet = (risen, refl)
  end_of_grants HubFailed kept is quiet = absurd (refused_file file is.0.0 HubFailed is.0.2)
  end_of_grants (NotPublished f) kept is quiet = absurd (refused_file file is.0.0 (NotPublished f) is.0.2)
  end_of_grants NoMemory kept is quiet = inl refl
  end_of_grants end kept is quiet = (is.0, record { folder = is.1; keeper = quiet }, refl)

  module _ (entries : List GrantEntry) (at : ℤ) (is : IsGrantsOf files file (Ok entries)) (stood : HaveStood folder) (m : IsMomentOf moment at) where
    abbrev Makes : Result Published HubError → KeptState → KeptState → Type 0
    Makes = MakesNext (λ version. GrantsMake version entries at)

    -- what the hub makes of the grants
    pub grants_published : (answer : Published) (before after : KeptState) → Makes (Ok answer) before after → CountsFault {T = Published} keeper.before keeper.now (Ok answer) → GrantsFile outside file (Ok answer) before after
    grants_published answer before after makes quiet = ((entries, at, is, m, makes), record { folder = stood; keeper = quiet })

    -- and why it makes nothing of them
    pub grants_not_published : (e : HubError) (before after : KeptState) → Makes (Err e) before after → CountsFault {T = Published} keeper.before keeper.now (Err e) → GrantsFile outside file (Err (end_of_error e)) before after
    grants_not_published error.Keeper before after makes counts = (rose keeper.before keeper.now counts, inr (entries, at, is, m, makes))
    grants_not_published error.NoMemory before after makes counts = inl makes
    grants_not_published (error.Refused f) before after makes counts = ((entries, at, is, m, makes), record { folder = stood; keeper = counts })

-- ---- the answer

module _ (o : Outside) (file : List ℕ) where
  stopped : (end : End) (before after : KeptState) → StopsGrant o file end before after → IsGrantAnswer o file [] end before after
  stopped Done before after stops = absurd (refused_file file stops.0.0 Done stops.0.2)
  stopped end before after stops = (refl, stops)

  -- what is told of what the hub made is the answer
  answered : (result : Result Published End) (answer : Answer) (before after : KeptState) → IsTold (codes "grants") result answer → GrantsFile o file result before after → IsGrantAnswer o file answer.done answer.end before after
  answered (Ok published) answer before after (inl is) (sets, nothing) = subst (λ end. IsGrantAnswer o file answer.done end before after) (sym is.1) (published, sets, is.0, nothing)
  answered (Ok published) answer before after (inr is) (sets, nothing) = subst (λ end. IsGrantAnswer o file answer.done end before after) (sym is.1) (is.0, inr (published, sets))
  answered (Err end) answer before after is stops = subst (λ (a : Answer). IsGrantAnswer o file a.done a.end before after) (sym is) (stopped end before after stops)

  -- a file set in a hub that was opened
  pub granted : (old new : KeptState → Type 0) (first hub : HeldHub) (result : Result Published End) (answer : Answer) → IsKept first.kept → first.commit_open ≡ false → KeeperFits new hub
      → StandsFrom old new first hub (GrantsFile o file result) → IsTold (codes "grants") result answer
      → LeadsFrom old new (IsGrantAnswer o file answer.done answer.end)
  granted old new first hub result answer is shut fits led told =
      leads-standing old new first hub (IsGrantAnswer o file answer.done answer.end) is shut fits (λ after standing.
      let l = led after standing in
      (l.0, l.1, l.2, answered result answer l.0 after told l.3))

  made_or_not : (before after : KeptState) → (after ≡ before) ⊎ SetsGrants o file (Err error.Keeper) before after → (after ≡ before) ⊎ ((answer : Published) × SetsGrants o file (Ok answer) before after)
  made_or_not before after (inl same) = inl same
  made_or_not before after (inr (entries, at, is, moment, inl same)) = inl same
  made_or_not before after (inr (entries, at, is, moment, inr (next, adds))) = inr (New next.number, (entries, at, is, moment, (next, adds, refl)))

  -- memory may run out for the line of an end
  pub grant-wants : (done : List ℕ) (end : End) (before after : KeptState) → IsGrantAnswer o file done end before after → end ≢ Done → IsGrantAnswer o file done NoMemory before after
  grant-wants done Done before after is other = absurd (other refl)
  grant-wants done FolderFailed before after is other = (is.0, inl is.1.1)
  grant-wants done HubFailed before after is other = (is.0, made_or_not before after is.1.1)
  grant-wants done (NotPublished f) before after is other = (is.0, inl is.1.0.4.1)
  grant-wants done NoMemory before after is other = is
  grant-wants done end before after is other = (is.0, inl is.1.2)

  -- what the status of an end says
  pub grant-says : (done : List ℕ) (end : End) (before after : KeptState) → IsGrantAnswer o file done end before after → Says o end
  grant-says done (BadWord place) before after is = absurd (refused_file file is.1.0.0 (BadWord place) is.1.0.2)
  grant-says done FolderFailed before after is = says_folder o is.1.0
  grant-says done HubFailed before after is = says_hub o is.1.0
  grant-says done (Synced a) before after is = absurd (refused_file file is.1.0.0 (Synced a) is.1.0.2)
  grant-says done (DeltaSynced a) before after is = absurd (refused_file file is.1.0.0 (DeltaSynced a) is.1.0.2)
  grant-says done (NotEntered a) before after is = absurd (refused_file file is.1.0.0 (NotEntered a) is.1.0.2)
  grant-says done (Sent a) before after is = absurd (refused_file file is.1.0.0 (Sent a) is.1.0.2)
  grant-says done (FileNotUtf8 a) before after is = absurd (refused_file file is.1.0.0 (FileNotUtf8 a) is.1.0.2)
  grant-says done (BadRow a) before after is = absurd (refused_file file is.1.0.0 (BadRow a) is.1.0.2)
  grant-says done CopyFailed before after is = absurd (refused_file file is.1.0.0 CopyFailed is.1.0.2)
  grant-says done NothingHeld before after is = absurd (refused_file file is.1.0.0 NothingHeld is.1.0.2)
  grant-says done (ExportTooLarge k n) before after is = absurd (refused_file file is.1.0.0 (ExportTooLarge k n) is.1.0.2)
  grant-says done end before after is = says_quiet o _ refl

-- ---- the whole command

module _ (files : Option (List Stored)) (moment : Option ℤ) (folder : Faults) (keeper keeper_now : ℕ) (old new : KeptState → Type 0) (file : List ℕ) where
  abbrev whole : Outside
  whole = outside_of files moment folder (faults_of keeper keeper_now)

  -- the grants of a file, set in the hub that was opened
  pub grant_opened : (keeper_open : ℕ) (stands : KeptState → Type 0) (answer : Answer) → ((kept : KeptState) → stands kept → old kept) → keeper_open ≡ keeper
      → LeadsFrom stands new (IsGrantAnswer (outside_of files moment folder (faults_of keeper_open keeper_now)) file answer.done answer.end) → LeadsFrom old new (IsGrantAnswer whole file answer.done answer.end)
  grant_opened keeper_open stands answer told same =
      leads-on old stands new _ _ told (λ before after is. subst (λ k. IsGrantAnswer (outside_of files moment folder (faults_of k keeper_now)) file answer.done answer.end before after) same is)

  -- a hub that couldn't be opened
  pub grant_not_opened : (T : Type 0) (e : HubError) → RefusesNothing {T = T} (Err e) → CountsFault {T = T} keeper keeper_now (Err e) → ((kept : KeptState) → new kept → old kept)
      → LeadsFrom old new (IsGrantAnswer whole file [] (end_of_error e))
  grant_not_opened T e quiet counts told = leads-on old new new _ _ told (λ before after is. is) (leads-nowhere new (IsGrantAnswer whole file [] (end_of_error e)) (failed e quiet counts))
    where
      failed : (e : HubError) → RefusesNothing {T = T} (Err e) → CountsFault {T = T} keeper keeper_now (Err e) → (kept : KeptState) → IsGrantAnswer whole file [] (end_of_error e) kept kept
      failed error.Keeper quiet counts kept = (refl, (rose keeper keeper_now counts, inl refl))
      failed error.NoMemory quiet counts kept = (refl, inl refl)
      failed (error.Refused f) quiet counts kept = absurd quiet
