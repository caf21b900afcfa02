-- What `export` answers.
use Rattle.std.specs.Prelude.{◌≡◌, ◌⊎◌, ◌<◌, ℕ, ℤ, List, [], None, Result, Ok, Err, codes, length}
pub use Rattle.bulk_export.specs.Changes.{HasTooMany, IsChangesExport, rows_in}
pub use Rattle.bulk_export.specs.Exports.{IsExport, manifest_text}
use Rattle.bulk_export.specs.declared.error.ExportError.{ExportError}
use Rattle.bulk_export.specs.declared.error.ExportError.TheVariants as error
use Rattle.exchange_link.specs.Between.{CopyRun}
use Rattle.csv_sets.specs.Files.{largest}
use Rattle.csv_sets.specs.Written.{written_text}
use Rattle.keeper_memory.specs.copy.Copies.{Copy, held_list}
use Rattle.rest_provider.specs.Moments.{IsMomentOf}
use Rattle.roster_types.specs.Sets.{SetRecord}
use Rattle.roster_values.specs.declared.kind.Kind.{Kind}
use Rattle.roster_values.specs.declared.mode.Mode.{Mode}
use Rattle.hub_commands.specs.ConsumerAnswers.{CopyStays, ReadEnds}
use Rattle.hub_commands.specs.Outside.{Outside}
use Rattle.hub_commands.specs.Runs.{WantsMemory}
use Rattle.hub_commands.specs.Steps.{ReadsSet}
use Rattle.hub_commands.specs.declared.answer.Answer.{Answer}
use Rattle.hub_commands.specs.declared.answer.End.{End}
use Rattle.hub_commands.specs.declared.answer.End.TheVariants.{CopyFailed, Done, ExportTooLarge, NoMemory, NothingHeld}
use Rattle.hub_words.specs.declared.task.Feed.{Feed}

-- the answer that has the bytes of a file, or that ended before there were any
abbrev pub file_answer : Result (List ℕ) End → Answer
file_answer (Ok bytes) = record { done = bytes; end = Done }
file_answer (Err end) = record { done = []; end = end }

-- the answer of `export manifest`, which looks at no copy
abbrev pub IsManifestAnswer : Mode → Answer → Type 0
IsManifestAnswer mode answer = ((answer.done ≡ manifest_text mode) × (answer.end ≡ Done)) ⊎ WantsMemory answer

-- why a kind isn't exported: nothing is held, or its file would have so many bytes
abbrev pub RefusesExport : (Copy → ℕ → Type 0) → Kind → (Copy → Type 0) → End → Type 0
RefusesExport HasBytes kind stands NothingHeld = (c : Copy) → stands c → c.held ≡ None
RefusesExport HasBytes kind stands (ExportTooLarge named bytes) = (named ≡ kind) × (largest < bytes) × ((c : Copy) → stands c → HasBytes c bytes)
RefusesExport HasBytes kind stands _ = ⊥

-- how an export ends, which leaves the copy as it is: as a command does that prints of the copy, or it is refused
abbrev pub ExportEnds : ((Copy → Type 0) → List ℕ → Type 0) → (Copy → ℕ → Type 0) → Kind → CopyRun → Answer → Type 0
ExportEnds IsText HasBytes kind copy answer =
    CopyStays copy
    × (ReadEnds (IsText copy.stands) copy answer ⊎ ((answer.done ≡ []) × RefusesExport HasBytes kind copy.stands answer.end))

-- the answer of `export KIND`: the file of the rows that the copy holds
abbrev pub IsExportAnswer : Kind → CopyRun → Answer → Type 0
IsExportAnswer kind copy answer = ExportEnds (IsExport kind) (λ c bytes. bytes ≡ length (written_text kind (held_list c kind))) kind copy answer

-- the feed as which a set is read whose changes are exported
abbrev pub earlier_feed : List ℕ → Feed
earlier_feed dir = record { name = codes "export"; dir = dir }

-- the set isn't read
abbrev pub StopsExport : List ℕ → Outside → CopyRun → Answer → Type 0
StopsExport dir outside copy answer =
    (end : End) × copy.same × ReadsSet outside.files outside.folder (earlier_feed dir) (Err end) × (answer ≡ record { done = []; end = end })

-- the set is read, and at a moment of the clock what changed since is exported
abbrev pub ExportsChanges : Kind → List ℕ → Outside → CopyRun → Answer → Type 0
ExportsChanges kind dir outside copy answer =
    (set : SetRecord) × (at : ℤ) × ReadsSet outside.files outside.folder (earlier_feed dir) (Ok set) × IsMomentOf outside.moment at
    × ExportEnds (IsChangesExport at (rows_in kind set.parts) kind) (HasTooMany at (rows_in kind set.parts) kind) kind copy answer

-- the answer of `export KIND since DIR`
abbrev pub IsSinceAnswer : Kind → List ℕ → Outside → CopyRun → Answer → Type 0
IsSinceAnswer kind dir outside copy answer = StopsExport dir outside copy answer ⊎ ExportsChanges kind dir outside copy answer

-- ---- what the steps give

-- the end that an error brings
abbrev pub end_of_export : Kind → ExportError → End
end_of_export kind error.NothingHeld = NothingHeld
end_of_export kind error.KeeperFault = CopyFailed
end_of_export kind (error.TooLarge bytes) = ExportTooLarge kind bytes
end_of_export kind error.NoMemory = NoMemory
