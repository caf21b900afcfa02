-- What entering a write leaves.
use Rattle.std.specs.Prelude.{◌≡◌, ◌⊎◌, ℕ, ◌+◌, ◌≤◌, Result, Ok, Err}
use Rattle.keeper_memory.specs.copy.Changes.{copy_after}
use Rattle.keeper_memory.specs.copy.Copies.{Copy}
use Rattle.keeper_memory.specs.declared.copy.change.CopyChange.TheVariants.{Enter}
use Rattle.keeper_memory.specs.declared.copy.state.TheConstants.{LAST}
use Rattle.version_core.specs.declared.mark.Write.{Write}
use Rattle.exchange_link.specs.declared.send_answer.EnterError.{EnterError}
use Rattle.exchange_link.specs.declared.send_answer.EnterError.TheVariants as error

-- the write stands behind the other entries, under the next number, not settled; all else is as before
abbrev pub with_write : Write → Copy → Copy
with_write write c = copy_after (Enter (c.last_number + 1) write) c

-- what entering a write leaves, by its answer
abbrev pub EntersWrite : Write → Result ℕ EnterError → Copy → Copy → Type 0
EntersWrite write (Ok number) before after = (number ≡ before.last_number + 1) × (number ≤ LAST) × (after ≡ with_write write before)
EntersWrite write (Err error.LastNumber) before after = (before.last_number ≡ LAST) × (after ≡ before)
EntersWrite write (Err error.KeeperFault) before after = (after ≡ before) ⊎ (after ≡ with_write write before)
EntersWrite write (Err error.NoMemory) before after = after ≡ before
