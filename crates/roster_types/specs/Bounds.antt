-- Bounds on how long a row is.
use Rattle.std.specs.Prelude.{◌≤◌, ℕ, min}

-- a number that is no less than a length, both counted up to 100,000, the cap of `lengths.rt`
pub record IsBound (bound length : ℕ) : Type 0 where
  pub small : bound ≤ 100000
  pub above : min length 100000 ≤ bound
