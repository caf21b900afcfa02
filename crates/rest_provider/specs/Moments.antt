-- The moment of a clock.
use Rattle.std.specs.Prelude.{◌≡◌, ℤ, Option, IfSome}
use Rattle.roster_base.specs.Moments.{IsMoment}

-- the clock's moment, where it is told
abbrev pub IsMomentOf : Option ℤ → ℤ → Type 0
IsMomentOf moment at = IfSome moment (λ m. at ≡ m) × IsMoment at
