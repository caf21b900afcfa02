-- The range of a moment.
use Rattle.std.specs.Prelude.{ℤ, pos, negsuc, ◌≤ℤ◌}

-- milliseconds since 1970-01-01T00:00:00.000Z, from the first of year 1 to the last of year 9999
abbrev pub IsMoment : ℤ → Type 0
IsMoment ms = (negsuc 62135596799999 ≤ℤ ms) × (ms ≤ℤ pos 253402300799999)
