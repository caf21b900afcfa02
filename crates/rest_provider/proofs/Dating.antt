-- The moment of a clock.
use Rattle.std.proofs.Common.{◌≡◌, ℤ, Some, true, refl, arith}
use Rattle.std.proofs.lemmas.Int.{ints}
use Rattle.roster_base.specs.Moments.{IsMoment}
use Rattle.roster_texts.specs.Moments.{is_moment, moment_at}

pub moment_at-in_range : (z : ℤ) → IsMoment z → moment_at z ≡ Some z
unfolding moment_at
moment_at-in_range z h = let there : is_moment z ≡ true = grind (arith, ints) in rw there refl
