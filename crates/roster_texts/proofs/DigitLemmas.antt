-- Numbers of a few digits.
use Rattle.std.proofs.Common.{◌≡◌, ℕ, ◌+◌, ◌<◌, ◌≤◌, ◌^◌, cond, List, [], ◌∷◌, take, Bool, true, false, Some, refl}
use Rattle.std.proofs.Common.{arith}
use Rattle.std.proofs.Math.Nat.{pow-le-pow_right}
use Rattle.std.proofs.lemmas.Grind.{common_steps}
use Rattle.std.specs.List.{list_all, prefix_len}
use Rattle.roster_texts.specs.Digits.{decimal_value, digits_value, is_digit}
use Rattle.roster_texts.specs.Numbers.{first_digits}

-- one more digit still leaves at most 16
pub room_for_digit : (v i n : ℕ) → v < 10 ^ i → i < n → n ≤ 16 → v + 1 ≤ 10 ^ 15
room_for_digit v i n small before most =
    let i_le : i ≤ 15 = omega arith in
    let ten : 0 < 10 = omega arith in
    let power : 10 ^ i ≤ 10 ^ 15 = pow-le-pow_right ten i_le in
    omega arith

-- a number of at most 12 digits
pub twelve_digits : (v n : ℕ) → v < 10 ^ n → n ≤ 12 → v < 10 ^ 12
twelve_digits v n small most =
    let ten : 0 < 10 = omega arith in
    let power : 10 ^ n ≤ 10 ^ 12 = pow-le-pow_right ten most in
    omega arith

more_digits : (b : ℕ) (t : List ℕ) (r : Bool) → is_digit b ≡ r → list_all is_digit (first_digits t) ≡ true
    → list_all is_digit (take (cond r (1 + prefix_len is_digit t) 0) (b ∷ t)) ≡ true
more_digits b t true passes rest = grind (arith, common_steps)
more_digits b t false stops rest = refl

pub all_first_digits : (t : List ℕ) → list_all is_digit (first_digits t) ≡ true
all_first_digits [] = refl
all_first_digits (b ∷ t) = more_digits b t (is_digit b) refl (all_first_digits t)

pub front_value : (t : List ℕ) (n : ℕ) → n ≡ prefix_len is_digit t → digits_value (take n t) ≡ Some (decimal_value (first_digits t))
unfolding digits_value
front_value t n e = rw (e, all_first_digits t) refl
