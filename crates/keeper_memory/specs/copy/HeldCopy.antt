-- What a keeper in memory holds.
use Rattle.std.specs.Prelude.{[], None}
use Rattle.keeper_memory.specs.copy.Copies.{Copy}
use Rattle.keeper_memory.specs.Failures.{FailurePlan}

-- the copy, and the calls that it has met and those that are to fail
pub record HeldCopy : Type 0 where
  pub copy : Copy
  pub plan : FailurePlan

-- the copy that holds nothing
abbrev pub empty_copy : Copy
empty_copy = record { run = 0; held = None; stage = None; entries = []; last_number = 0 }
