-- The cause of an answer of the outside, where memory may run out too.
use Rattle.std.specs.Prelude.{◌≡◌, ◌≤◌, ℕ, Result, Ok, Err}
use Rattle.roster_base.specs.Faults.{Rose}
use Rattle.outside_ports.specs.declared.failed.IoError.{IoError}
use Rattle.outside_ports.specs.declared.failed.IoError.TheVariants as io_error

-- a failure comes only where the count rose, and the count rises only with a failure
abbrev pub Explains : {T : Type 0} → ℕ → ℕ → Result T IoError → Type 0
Explains before now (Ok x) = now ≡ before
Explains before now (Err io_error.Failed) = (before ≤ now) × Rose before now
Explains before now (Err io_error.NoMemory) = now ≡ before
