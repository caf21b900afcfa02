-- The merged rows of a kind, staged.
use Rattle.std.specs.Prelude.{◌≡◌, ◌⊎◌, ℕ, ◌-◌, false, List, [], ◌∷◌, length, take, Option, None, if◌then◌else◌}
use Rattle.consumer_sync.specs.Staging.{IsBroken, Taking, open_copy, taken}
use Rattle.exchange_link.specs.Agreement.{IsFrontOf}
use Rattle.exchange_link.specs.Places.{last_of, staged_of}
use Rattle.exchange_link.specs.declared.answer.SyncAnswer.{SyncAnswer}
use Rattle.keeper_memory.specs.copy.Copies.{Copy}
use Rattle.keeper_memory.specs.declared.copy.state.StageState.{StageState}
use Rattle.roster_types.specs.Keys.{is_after}
use Rattle.roster_types.specs.Records.{Record}

-- the rows from the first on whose id is above one
abbrev pub above : Option (List ℕ) → List Record → List Record
above last [] = []
above last (row ∷ rows) = if is_after last row.id then row ∷ rows else above last rows

-- the rows that follow those which are staged: with ids above theirs, and not more than are missing
abbrev pub following : Option StageState → List Record → List Record
following stage rows = take (length rows - staged_of stage) (above (last_of stage) rows)

-- a part of the page, which doesn't end its kind
abbrev pub part_of : Taking → List Record → Taking
part_of k rows = record { pin = k.pin; rows = rows; total = k.total; done = false }

-- staging rows page after page: all are staged where the call goes on; where keeper or memory gave up all, some or none
pub data Stages (k : Taking) (token : List ℕ) (result : Option SyncAnswer) (before after : Copy) : Type 0 where
  Whole : ((result ≡ None) ⊎ IsBroken result) → after ≡ taken k token before → Stages k token result before after
  Part : (rows : List Record) → IsFrontOf rows k.rows → IsBroken result → after ≡ taken (part_of k rows) token before → Stages k token result before after
  Opens : IsBroken result → after ≡ open_copy k.pin token before → Stages k token result before after
  Stays : IsBroken result → after ≡ before → Stages k token result before after
