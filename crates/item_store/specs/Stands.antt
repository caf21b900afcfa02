-- What items a connection stands for. A connection that a fault has shut, or whose disk has lied, says nothing.
use Rattle.std.specs.Prelude.{◌≡◌, ◌⊎◌, true, false, IsTrue}
use Rattle.sqlite.specs.Effect.{Database}
use Rattle.sqlite.specs.State.{State, HasCleanDisk}
use Rattle.item_store.specs.Table.{no_schema, item_schema}
use Rattle.item_maps.specs.Items.{Items, no_items}
use Rattle.item_store.specs.Items.{Holds}

-- the table stands, and its rows are these items
pub record IsTabled (db : Database) (m : Items) : Type 0 where
  pub schema : db.schema ≡ item_schema
  pub rows : Holds (db.trees 0) m

-- no table stands for no items
abbrev pub IsTold : Database → Items → Type 0
IsTold db m = ((db.schema ≡ no_schema) × (m ≡ no_items)) ⊎ IsTabled db m

-- this holds while the disk gives back what was written to it and the connection is open
abbrev pub WhileClean : State → Type 0 → Type 0
WhileClean s P = HasCleanDisk s → IsTrue s.is_open → P

-- between statements, outside a transaction
pub record IsSettled (s : State) (Table : Database → Items → Type 0) (m : Items) : Type 0 where
  pub autocommit : s.in_transaction ≡ false
  pub same : s.now ≡ s.committed
  pub told : Table s.committed m

-- outside a transaction the connection stands for these items
abbrev pub StandsFor : State → Items → Type 0
StandsFor s m = WhileClean s (IsSettled s IsTold m)

-- the same, and the table stands
abbrev pub IsReady : State → Items → Type 0
IsReady s m = WhileClean s (IsSettled s IsTabled m)

-- of whatever items the connection stands for, this holds
abbrev pub IfStands : State → (Items → Type 0) → Type 0
IfStands s P = (m : Items) → StandsFor s m → P m

-- the same behind a call that leaves the disk clean, where the connection was open before it
abbrev pub IfOpen : State → State → (Items → Type 0) → Type 0
IfOpen old new P = (m : Items) → StandsFor old m → HasCleanDisk new → IsTrue old.is_open → P m

-- the same where the table stands
abbrev pub IfReady : State → (Items → Type 0) → Type 0
IfReady s P = (m : Items) → IsReady s m → P m

-- inside a transaction that has come from the items `base` to these
pub record IsInside (s : State) (base m : Items) : Type 0 where
  pub inside : s.in_transaction ≡ true
  pub table : IsTabled s.now m
  pub base_told : IsTold s.committed base

-- the connection is inside a transaction that has come from the items `base` to these
abbrev pub IsWithin : State → Items → Items → Type 0
IsWithin s base m = WhileClean s (IsInside s base m)

-- of whatever items such a transaction has come from and to, this holds
abbrev pub IfWithin : State → (Items → Items → Type 0) → Type 0
IfWithin s P = (base m : Items) → IsWithin s base m → P base m

-- a rollback leads back to the items `base`
pub record MayGoBack (s : State) (base : Items) : Type 0 where
  pub base_told : IsTold s.committed base
  pub table : s.in_transaction ≡ true → s.now.schema ≡ item_schema
  pub settled : s.in_transaction ≡ false → s.now ≡ s.committed

-- a rollback leads the connection back to the items `base`
abbrev pub GoesBackTo : State → Items → Type 0
GoesBackTo s base = WhileClean s (MayGoBack s base)

-- clean now, so clean before
abbrev pub Earlier : State → State → Type 0
Earlier old new = HasCleanDisk new → HasCleanDisk old
