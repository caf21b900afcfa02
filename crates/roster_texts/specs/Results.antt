-- Readings that may be refused.
use Rattle.std.specs.Prelude.{Option, Some, None, Result, Ok, Err}

-- what was found, or a fault
abbrev pub found_or : {A F : Type 0} → F → Option A → Result A F
found_or fault (Some x) = Ok x
found_or fault None = Err fault
