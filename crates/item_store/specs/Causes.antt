-- Why a call fails.
use Rattle.std.specs.Prelude.{◌≡◌, ◌≢◌, ⊤}
use Rattle.sqlite.specs.declared.error.Error.{Error}
use Rattle.sqlite.specs.declared.error.Error.TheVariants.{SqliteFailure}
use Rattle.sqlite.specs.declared.error.ErrorCode.TheVariants.{OutOfMemory}
use Rattle.sqlite.specs.State.{State}
use Rattle.roster_base.specs.declared.keeper.KeeperError.{KeeperError}
use Rattle.roster_base.specs.declared.keeper.KeeperError.TheVariants.{Failed, NoMemory}
use Rattle.item_store.specs.Asked.{IsRefused}

-- the error of want of memory
abbrev pub no_memory : Error
no_memory = SqliteFailure OutOfMemory

-- want of memory is no failure, and every other error is
abbrev pub IsFailed : KeeperError → Error → Type 0
IsFailed Failed error = error ≢ no_memory
IsFailed NoMemory error = error ≡ no_memory

-- a call fails only where the database refused a statement over the table, for another reason than want of memory
abbrev pub IsCaused : {H : Type 0} → (H → State) → H → H → KeeperError → Type 0
IsCaused view old new Failed = (error : Error) × (error ≢ no_memory) × IsRefused view old new error
IsCaused view old new NoMemory = ⊤
