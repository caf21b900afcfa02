-- The delta of a kind, merged with what is held of it.
use Rattle.std.specs.Prelude.{◌≡◌, ◌<◌, ◌≤◌, ℕ, true, List, length, Option, Some}
use Rattle.consumer_deltas.specs.DeltaJudging.{Sofar}
use Rattle.consumer_deltas.specs.DeltaStaging.{Stages, following}
use Rattle.consumer_sync.specs.Staging.{IsBroken, Taking}
use Rattle.exchange_link.specs.declared.answer.SyncAnswer.{SyncAnswer}
use Rattle.exchange_link.specs.declared.answer.SyncAnswer.TheVariants as answer
use Rattle.keeper_memory.specs.copy.Copies.{Copy, held_list}
use Rattle.keeper_memory.specs.declared.copy.state.StageState.{StageState}
use Rattle.roster_types.specs.Records.{Record}
use Rattle.roster_values.specs.declared.kind.Kind.{Kind}
use Rattle.row_deltas.specs.Deltas.{merged}
use Rattle.version_core.specs.Version.{row_limit}

-- the rows of a whole list that a stage lacks, with which its kind ends
abbrev pub rest_of : Option StageState → ℕ → List Record → Taking
rest_of stage pin rows = record { pin = pin; rows = following stage rows; total = length rows; done = true }

-- the rows that are held of a kind, with the entries
abbrev pub merged_with : Kind → Sofar → Copy → List Record
merged_with kind entries c = merged (held_list c kind) entries.puts entries.gone

-- a whole list is staged, where it isn't too long
pub data StagesList (kind : Kind) (stage : Option StageState) (pin : ℕ) (token : List ℕ) (rows : List Record) (result : Option SyncAnswer) (before after : Copy) : Type 0 where
  Staged : length rows ≤ row_limit → Stages (rest_of stage pin rows) token result before after → StagesList kind stage pin token rows result before after
  TooMany : row_limit < length rows → result ≡ Some (answer.TooLarge kind (length rows)) → after ≡ before → StagesList kind stage pin token rows result before after

-- the entries are merged with what is held, and the list is staged; where keeper or memory gave up before, all is as it
-- was
pub data Merges (kind : Kind) (entries : Sofar) (stage : Option StageState) (pin : ℕ) (token : List ℕ) (result : Option SyncAnswer) (before after : Copy) : Type 0 where
  Merged : StagesList kind stage pin token (merged_with kind entries before) result before after → Merges kind entries stage pin token result before after
  Fails : IsBroken result → after ≡ before → Merges kind entries stage pin token result before after

-- why the entries aren't staged: keeper or memory gave up, or the list would be too long
pub data Unmerged (broke : Type 0) (copies : Copy → Type 0) (kind : Kind) (entries : Sofar) (a : SyncAnswer) : Type 0 where
  Broke : broke → a ≡ answer.KeeperFault → Unmerged broke copies kind entries a
  Wants : a ≡ answer.NoMemory → Unmerged broke copies kind entries a
  TooMany : (n : ℕ) → row_limit < n → ((c : Copy) → copies c → n ≡ length (merged_with kind entries c)) → a ≡ answer.TooLarge kind n → Unmerged broke copies kind entries a
