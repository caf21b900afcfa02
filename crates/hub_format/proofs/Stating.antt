-- Moments and states that are found again.
use Rattle.std.proofs.Common.{◌≡◌, ◌<◌, ◌^◌, ◌++◌, ℕ, ℤ, List, Bool, true, false, Option, None, Some, cond, ap, ◌∙◌}
use Rattle.std.specs.Prelude.{IfSome}
use Rattle.std.specs.Int.{cast_signed, cast_unsigned, w64}
use Rattle.std.specs.Int.RustNames.{FitsSigned}
use Rattle.std.proofs.lemmas.Int.{of_z-to_z, to_z-of_z}
use Rattle.roster_texts.specs.Moments.{is_moment, moment_at}
use Rattle.hub_format.specs.Pieces.{moment, number}
use Rattle.hub_format.proofs.Decoding.{cast_fits, number_back}

-- where a number is a moment, it is that one
pub moment_found : (n : ℕ) (at : ℤ) (ms : ℤ) (found : Option ℤ) → FitsSigned w64 at → n ≡ cast_unsigned w64 at → ms ≡ cast_signed w64 n → found ≡ moment_at ms → IfSome found (λ m. m ≡ at)
unfolding moment_at
moment_found n at ms found fits bits is answer =
    let same : ms ≡ at = is ∙ ap (cast_signed w64) bits ∙ to_z-of_z w64 at fits in
    rw answer (go (is_moment ms) same)
  where
    go : (b : Bool) → ms ≡ at → IfSome (cond b (Some ms) None) (λ m. m ≡ at)
    go true same = same
    go false same = tt

-- the number in front of what stood behind a moment
pub moment_number : (n : ℕ) (at : ℤ) (x y : List ℕ) → n < 2 ^ 64 → FitsSigned w64 at → number n ++ x ≡ moment at ++ y → (n ≡ cast_unsigned w64 at) × (x ≡ y)
moment_number n at x y fits fits_at same = number_back n (cast_unsigned w64 at) x y fits (cast_fits at fits_at) same

-- where a number is a moment, it is that moment's
pub moment_bits : (n : ℕ) (ms : ℤ) (found : Option ℤ) → n < 2 ^ 64 → ms ≡ cast_signed w64 n → found ≡ moment_at ms → IfSome found (λ m. cast_unsigned w64 m ≡ n)
unfolding moment_at
moment_bits n ms found fits is answer =
    let same : cast_unsigned w64 ms ≡ n = ap (cast_unsigned w64) is ∙ of_z-to_z w64 n fits in
    rw answer (go (is_moment ms) same)
  where
    go : (b : Bool) → cast_unsigned w64 ms ≡ n → IfSome (cond b (Some ms) None) (λ m. cast_unsigned w64 m ≡ n)
    go true same = same
    go false same = tt
