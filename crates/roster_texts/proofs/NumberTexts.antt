-- Numbers and years that are printed read as themselves.
use Rattle.std.proofs.Common.{◌≡◌, ℕ, ◌+◌, ◌-◌, ◌*◌, ◌<◌, ◌≤◌, ◌^◌, ◌&&◌, List, [], ◌∷◌, length, fold, suc, take, drop}
use Rattle.std.proofs.Common.{true, false, Ok, refl, arith, rules, ℤ, pos, negsuc, nat_le, nat_eq}
use Rattle.std.proofs.lemmas.Bool.{and_parts}
use Rattle.std.proofs.lemmas.Bool.Decides.{nat_tests}
use Rattle.std.proofs.lemmas.Fmt.{decimal_nonempty, digits_decimal, digits_value-decimal, length-decimal-le}
use Rattle.std.proofs.lemmas.Int.{ints}
use Rattle.std.proofs.lemmas.List.{drop_all, take_all}
use Rattle.std.proofs.lemmas.Str.Parse.{IsNumeralModel, numerals_by_fold}
use Rattle.std.specs.Fmt.{decimal, signed_decimal}
use Rattle.std.specs.List.{list_all, prefix_len}
use Rattle.roster_texts.specs.Digits.{decimal_value, four, is_digit}
use Rattle.roster_texts.specs.Numbers.{is_negative, is_number, number_of, unsigned_of, year_of}

zero_pad : (y : ℕ) → nat_le y 9999 ≡ true → y < 10000
zero_pad y h = grind (arith, nat_tests)

pub year_read : (y : ℕ) → nat_le y 9999 ≡ true → year_of (four y) ≡ Ok y
unfolding year_of
year_read y h =
    let small = zero_pad y h in
    let digits : list_all is_digit (four y) ≡ true = grind (arith, nat_tests) in
    let number : decimal_value (four y) ≡ y = omega (arith, small) in
    rw (digits, number) refl

-- what std writes for a number is digits, and `decimal_value` is their value
pub own : IsNumeralModel (λ ds. list_all is_digit ds ≡ true) decimal_value
own = numerals_by_fold _ (search rules) (λ n t. fold (λ m b. m * 10 + (b - 48)) n t) (search rules)

all_prefix : (t : List ℕ) → list_all is_digit t ≡ true → prefix_len is_digit t ≡ length t
all_prefix [] h = refl
all_prefix (b ∷ t) h =
    let first : is_digit b ≡ true = (and_parts (is_digit b) (list_all is_digit t) h).0 in
    let rest : prefix_len is_digit t ≡ length t = all_prefix t (and_parts (is_digit b) (list_all is_digit t) h).1 in
    rw (first, rest) (omega arith)

some_digits : (n : ℕ) → 1 ≤ n → n ≤ 12 → (nat_le 1 n && (nat_le n 12 && true)) ≡ true
some_digits n h k = grind (arith, nat_tests)

digits_read : (ds : List ℕ) (n : ℕ) → list_all is_digit ds ≡ true → decimal_value ds ≡ n → 1 ≤ length ds → length ds ≤ 12 → unsigned_of ds ≡ Ok n
unfolding unsigned_of
digits_read ds n h value few most =
    let p : prefix_len is_digit ds ≡ length ds = all_prefix ds h in
    let all : take (length ds) ds ≡ ds = take_all (length ds) ds (omega arith) in
    let none : drop (length ds) ds ≡ [] = drop_all (length ds) ds (omega arith) in
    let form : (nat_le 1 (length ds) && (nat_le (length ds) 12 && true)) ≡ true = some_digits (length ds) few most in
    rw (p, none, all, form, value) refl

decimal_read : (n : ℕ) → n < 10 ^ 12 → unsigned_of (decimal n) ≡ Ok n
decimal_read n h =
    let small : n < 2 ^ 64 = omega arith in
    digits_read (decimal n) n (digits_decimal own n small) (digits_value-decimal own n small) (decimal_nonempty n small) (length-decimal-le 12 n (omega arith) h small)

not_minus_digit : (b : ℕ) → is_digit b ≡ true → nat_eq b 45 ≡ false
not_minus_digit b h = grind (arith, nat_tests)

not_minus : (ds : List ℕ) → list_all is_digit ds ≡ true → is_negative ds ≡ false
not_minus [] h = refl
not_minus (b ∷ t) h = not_minus_digit b (and_parts (is_digit b) (list_all is_digit t) h).0

pub small_pos : (n : ℕ) → is_number (pos n) ≡ true → n < 10 ^ 12
small_pos n h = grind (arith, ints)

pub small_neg : (n : ℕ) → is_number (negsuc n) ≡ true → suc n < 10 ^ 12
small_neg n h = grind (arith, ints)

pub number_read : (z : ℤ) → is_number z ≡ true → number_of (signed_decimal z) ≡ Ok z
unfolding number_of
number_read (pos n) h =
    let small = small_pos n h in
    let plus : is_negative (decimal n) ≡ false = not_minus (decimal n) (digits_decimal own n (omega arith)) in
    rw (plus, decimal_read n small) refl
number_read (negsuc n) h = rw (decimal_read (suc n) (small_neg n h)) refl
