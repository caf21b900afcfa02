-- What a stop leaves in the files, also where a fault has shut the connection.
use Rattle.std.specs.Prelude.{◌≡◌, ◌<◌, ◌≤◌, ◌-◌, ◌^◌, ◌⊎◌, ℕ, false, List, [], ◌∷◌, Result, OnOk, OnErr, IsTrue}
use Rattle.sqlite.specs.declared.error.Error.{Error}
use Rattle.sqlite.specs.Effect.{IsDatabase}
use Rattle.sqlite.specs.Schema.{Schema}
use Rattle.sqlite.specs.State.{State, HasCleanDisk}
use Rattle.sqlite.specs.Tree.{Trees}
use Rattle.item_maps.specs.Items.{Items}
use Rattle.item_store.specs.Stands.{IsTold}

-- these trees, as an open finds them, are a database of the items
pub record IsLeft (db : Trees) (m : Items) : Type 0 where
  pub schema : Schema
  pub sound : IsDatabase (record { schema = schema; trees = db })
  pub told : IsTold (record { schema = schema; trees = db }) m

-- they are one of some items' databases
abbrev pub IsLeftOf : Trees → List Items → Type 0
IsLeftOf db [] = ⊥
IsLeftOf db (m ∷ ms) = IsLeft db m ⊎ IsLeftOf db ms

-- whatever an open finds after a stop at this moment is one of some items' databases
abbrev pub MayHold : State → List Items → Type 0
MayHold s ms = (db : Trees) → s.may_leave db → IsLeftOf db ms

-- a connection that is open after a call was so before it
abbrev pub WasOpen : State → State → Type 0
WasOpen old new = HasCleanDisk new → IsTrue new.is_open → IsTrue old.is_open

-- A call ended on a connection that was open. Success leaves it open; an error leaves it open or its transaction
-- undone. A stop then leaves what a stop before the call left, or these trees.
pub record LeavesAs {T : Type 0} (old new : State) (result : Result T Error) (Adds : Trees → Type 0) : Type 0 where
  pub live : OnOk result (IsTrue new.is_open)
  pub ended : OnErr result (IsTrue new.is_open ⊎ (new.in_transaction ≡ false))
  pub left : (db : Trees) → new.may_leave db → old.may_leave db ⊎ Adds db

-- the same where the disk is clean and the connection was open
abbrev pub Leaves : {T : Type 0} → State → State → Result T Error → (Trees → Type 0) → Type 0
Leaves old new result Adds = HasCleanDisk new → IsTrue old.is_open → LeavesAs old new result Adds

-- a fault has shut the connection over a clean disk, and an open may find a database of these items
pub record MayFind (s : State) (m : Items) : Type 0 where
  pub clean : HasCleanDisk s
  pub shut : s.is_open ≡ false
  pub db : Trees
  pub may : s.may_leave db
  pub is : IsLeft db m

-- a clean disk under a connection that is shut, though the disk has failed at most so often, or that has failed less
-- often
pub record IsDown (times : ℕ) (s : State) : Type 0 where
  pub clean : HasCleanDisk s
  pub counted : times < 2 ^ 64 - 1
  pub which : ((s.is_open ≡ false) × (s.faults ≤ times)) ⊎ (s.faults < times)

-- only a fault of the disk shuts a connection: what is down behind a call was so before it
abbrev pub Lasts : State → State → Type 0
Lasts old new = (times : ℕ) → IsDown times new → IsDown times old
