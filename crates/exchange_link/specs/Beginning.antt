-- The beginning of a run.
use Rattle.std.specs.Prelude.{◌≡◌, ◌⊎◌, ◌+◌, Result, Ok, Err}
use Rattle.keeper_memory.specs.copy.Changes.{copy_after}
use Rattle.keeper_memory.specs.copy.Copies.{Copy}
use Rattle.keeper_memory.specs.declared.copy.change.CopyChange.TheVariants.{Run}
use Rattle.keeper_memory.specs.declared.copy.state.CopyState.{CopyState}
use Rattle.keeper_memory.specs.declared.copy.state.TheConstants.{LAST}
use Rattle.roster_base.specs.declared.keeper.KeeperError.{KeeperError}
use Rattle.roster_base.specs.declared.keeper.KeeperError.TheVariants as fault
use Rattle.exchange_link.specs.declared.beginning.NoRun.{NoRun}
use Rattle.exchange_link.specs.declared.beginning.NoRun.TheVariants as cause

-- why no run was entered where the keeper couldn't do its work
abbrev pub no_run : KeeperError → NoRun
no_run fault.Failed = cause.KeeperFault
no_run fault.NoMemory = cause.NoMemory

-- the run number as before, or the next one
abbrev pub EntersRun : Copy → Copy → Type 0
EntersRun before after = (after ≡ before) ⊎ (after ≡ copy_after (Run (before.run + 1)) before)

-- entering a run: at Ok it is entered, with this small part; behind the last run nothing changes
abbrev pub Enters : Result CopyState NoRun → Copy → Copy → Type 0
Enters (Ok s) before after = (s.run ≡ before.run + 1) × (after ≡ copy_after (Run (before.run + 1)) before)
Enters (Err cause.LastRun) before after = (before.run ≡ LAST) × (after ≡ before)
Enters (Err e) before after = EntersRun before after
