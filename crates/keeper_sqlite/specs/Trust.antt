-- When a store of items can be believed, and what it shows of its past.
use Rattle.std.specs.Prelude.{◌≡◌, ◌<◌, ◌-◌, ◌^◌, ◌⊎◌, Bool, ℕ, false, true, Result, Ok, Err, IsTrue, ⊤}
use Rattle.sqlite.specs.State.{State, HasCleanDisk}
use Rattle.roster_base.specs.declared.keeper.KeeperError.{KeeperError}
use Rattle.roster_base.specs.declared.keeper.KeeperError.TheVariants.{Failed, NoMemory}
use Rattle.item_maps.specs.Items.{Items}
use Rattle.item_store.specs.Left.{IsDown, MayFind}
use Rattle.item_store.specs.Stands.{StandsFor}

-- its disk has given back what was written, and it still answers
abbrev pub IsTrusted : State → Type 0
IsTrusted s = HasCleanDisk s × IsTrue s.is_open

-- what holds before a call where it holds behind it
pub data Sign : Type 0 where
  -- the disk has given back what was written
  Clean : Sign
  -- it is shut though its disk has failed at most so often, or its disk has failed less often
  Down : ℕ → Sign

abbrev pub shown_by : State → Sign → Type 0
shown_by s Clean = HasCleanDisk s
shown_by s (Down times) = IsDown times s

-- a commit that succeeded or failed doesn't leave a store lost that wasn't, and one that succeeded finds it again
abbrev pub IsLost : Result (Unit {0}) KeeperError → Bool → Bool → Type 0
IsLost (Ok done) before now = now ≡ false
IsLost (Err Failed) before now = now ≡ before
IsLost (Err NoMemory) before now = now ≡ true

-- what an open may find stays known behind a commit that failed, and is known again behind one that succeeded
abbrev pub KnownBehind : Result (Unit {0}) KeeperError → Type 0 → Type 0 → Type 0
KnownBehind (Ok done) before now = now
KnownBehind (Err Failed) before now = before → now
KnownBehind (Err NoMemory) before now = ⊤

-- The items that an open may find: while it is trusted those alone for which it stands, and once a fault has shut it
-- those of a database that a stop may leave. Of a store that was shut by a call that wanted memory (`lost`) nothing is
-- said.
abbrev pub MayHold : State → Bool → Items → Type 0
MayHold s lost n = (MayFind s n × (lost ≡ false)) ⊎ (IsTrusted s × ((m : Items) → StandsFor s m → n ≡ m))

-- from one state of a connection to another the disk gave back what was written, and neither failed nor refused
pub record IsQuiet (old new : State) : Type 0 where
  pub clean : HasCleanDisk new
  pub counted : new.faults < 2 ^ 64 - 1
  pub stood : new.faults ≡ old.faults
