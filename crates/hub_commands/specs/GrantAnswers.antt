-- What `grant` answers: the grants of a file, in place of all grants of the newest version.
use Rattle.std.specs.Prelude.{◌≡◌, ◌⊎◌, ℤ, ℕ, List, [], Option, Result, Ok, Err, codes}
use Rattle.csv_sets.specs.Files.{largest}
use Rattle.version_changes.specs.grants.Granting.{GrantsMake}
use Rattle.grant_files.specs.declared.fault.GrantFault.{GrantFault}
use Rattle.grant_files.specs.Grants.{grants_of}
use Rattle.grant_scopes.specs.declared.entry.GrantEntry.{GrantEntry}
use Rattle.hub_core.specs.declared.hub_error.HubError.{HubError}
use Rattle.hub_core.specs.declared.hub_error.HubError.TheVariants as error
use Rattle.hub_core.specs.declared.published.Published.{Published}
use Rattle.hub_core.specs.Steps.{MakesNext}
use Rattle.keeper_memory.specs.Kept.{KeptState}
use Rattle.outside_ports.specs.declared.failed.IoError.{IoError}
use Rattle.outside_ports.specs.declared.folder.FileRead.{FileRead}
use Rattle.outside_ports.specs.declared.folder.FileRead.TheVariants.{Absent, Bytes, TooLong}
use Rattle.outside_ports.specs.Files.{ReadsFile, Stored}
use Rattle.rest_provider.specs.Moments.{IsMomentOf}
use Rattle.hub_commands.specs.declared.answer.End.{End}
use Rattle.hub_commands.specs.declared.answer.End.TheVariants.{Done, FileTooLarge, FolderFailed, GrantsRefused}
use Rattle.hub_commands.specs.declared.answer.End.TheVariants.{HubFailed, MissingFile, NoMemory, NotPublished}
use Rattle.hub_commands.specs.Outside.{Faults, HaveRisen, HaveStood, NothingFailed, Outside}
use Rattle.hub_commands.specs.PublishAnswers.{told_text}

abbrev pub or_refused : Result (List GrantEntry) GrantFault → Result (List GrantEntry) End
or_refused (Ok entries) = Ok entries
or_refused (Err fault) = Err (GrantsRefused fault)

-- the grants that a file asks for by what was read of it, or how it is refused
abbrev pub grants_in : List ℕ → FileRead → Result (List GrantEntry) End
grants_in name Absent = Err (MissingFile name)
grants_in name TooLong = Err (FileTooLarge name)
grants_in name (Bytes bytes) = or_refused (grants_of bytes)

-- the grants of a file in the root folder, or how it is refused
abbrev pub IsGrantsOf : Option (List Stored) → List ℕ → Result (List GrantEntry) End → Type 0
IsGrantsOf files name grants = (read : FileRead) × ReadsFile {E = IoError} files [] name largest (Ok read) × (grants_in name read ≡ grants)

-- what the hub makes of the grants of a file
abbrev pub SetsGrants : Outside → List ℕ → Result Published HubError → KeptState → KeptState → Type 0
SetsGrants outside file answer before after =
    (entries : List GrantEntry) × (at : ℤ) × IsGrantsOf outside.files file (Ok entries) × IsMomentOf outside.moment at × MakesNext (λ version. GrantsMake version entries at) answer before after

-- how the grants of a file come not to be set, or not to be told: the folder or the keeper fails, they aren't
-- published, memory runs out, where they may be set, or else the file is refused
abbrev pub StopsGrant : Outside → List ℕ → End → KeptState → KeptState → Type 0
StopsGrant outside file FolderFailed before after = HaveRisen outside.folder × (after ≡ before)
StopsGrant outside file HubFailed before after = HaveRisen outside.keeper × ((after ≡ before) ⊎ SetsGrants outside file (Err error.Keeper) before after)
StopsGrant outside file (NotPublished fault) before after = SetsGrants outside file (Err (error.Refused fault)) before after × NothingFailed outside
StopsGrant outside file NoMemory before after = (after ≡ before) ⊎ ((answer : Published) × SetsGrants outside file (Ok answer) before after)
StopsGrant outside file end before after = IsGrantsOf outside.files file (Err end) × NothingFailed outside × (after ≡ before)

-- the answer to `grant`: the line of the version, or why there is none
abbrev pub IsGrantAnswer : Outside → List ℕ → List ℕ → End → KeptState → KeptState → Type 0
IsGrantAnswer outside file done Done before after = (answer : Published) × SetsGrants outside file (Ok answer) before after × (done ≡ told_text (codes "grants") answer) × NothingFailed outside
IsGrantAnswer outside file done end before after = (done ≡ []) × StopsGrant outside file end before after

-- ---- what the steps give

-- the grants of a file, or the end that it brings, and the folder's faults
abbrev pub ReadsGrants : Option (List Stored) → Faults → List ℕ → Result (List GrantEntry) End → Type 0
ReadsGrants files faults file (Ok entries) = IsGrantsOf files file (Ok entries) × HaveStood faults
ReadsGrants files faults file (Err FolderFailed) = HaveRisen faults
ReadsGrants files faults file (Err NoMemory) = Unit {0}
ReadsGrants files faults file (Err end) = IsGrantsOf files file (Err end) × HaveStood faults

-- what was read of a file gives its grants or its refusal, unless memory runs out
abbrev pub GivesGrants : List ℕ → FileRead → Result (List GrantEntry) End → Type 0
GivesGrants name read (Err NoMemory) = Unit {0}
GivesGrants name read grants = grants_in name read ≡ grants

-- what the hub makes of the grants of a file, or how that ends
abbrev pub GrantsFile : Outside → List ℕ → Result Published End → KeptState → KeptState → Type 0
GrantsFile outside file (Ok answer) before after = SetsGrants outside file (Ok answer) before after × NothingFailed outside
GrantsFile outside file (Err end) before after = StopsGrant outside file end before after
