-- No name has a 0 or a 255.
use Rattle.std.proofs.Common.{◌≡◌, ◌<◌, ◌==◌, ℕ, zero, suc, Bool, List, [], ◌∷◌, true, false, length, inl, inr, refl}
use Rattle.std.proofs.Common.{arith}
use Rattle.std.specs.Prelude.{nat_le, nat_lt, ◌&&◌}
use Rattle.std.specs.Int.{is_in_range}
use Rattle.std.specs.List.{list_all}
use Rattle.std.proofs.lemmas.Bool.{and_parts, cases_lt}
use Rattle.std.proofs.lemmas.Bool.Decides.{nat_tests}
use Rattle.roster_texts.specs.Signs.{dot, hyphen, underscore}
use Rattle.roster_texts.specs.Texts.{is_name, is_name_byte}
use Rattle.hub_format.specs.Pieces.{HasNoZero, StaysBelowEnd, end_byte}

positive : (b : ℕ) → is_name_byte b ≡ true → 0 < b
positive zero good = absurd cc
positive (suc b) good = omega arith

all_positive : (bytes : List ℕ) → list_all is_name_byte bytes ≡ true → HasNoZero bytes
all_positive [] good = tt
all_positive (b ∷ bytes) good =
    let parts = and_parts (is_name_byte b) (list_all is_name_byte bytes) good in
    (positive b parts.0, all_positive bytes parts.1)

pub name_has_no_zero : (name : List ℕ) → is_name name ≡ true → HasNoZero name
name_has_no_zero name good =
    let some = and_parts (nat_lt 0 (length name)) (nat_le (length name) 64 && list_all is_name_byte name) good in
    let bytes = and_parts (nat_le (length name) 64) (list_all is_name_byte name) some.1 in
    all_positive name bytes.1

no_range : (lo hi b : ℕ) → hi < b → is_in_range lo hi b ≡ false
no_range lo hi b lt = let above : nat_le b hi ≡ false = grind (arith, nat_tests) in go (nat_le lo b) above
  where
    go : (low : Bool) → nat_le b hi ≡ false → (low && nat_le b hi) ≡ false
    go true above = above
    go false above = refl

no_same : (n b : ℕ) → n < b → (b == n) ≡ false
no_same n b lt = grind (arith, nat_tests)

small : (b : ℕ) → is_name_byte b ≡ true → b < end_byte
small b good = elim (cases_lt b end_byte) [
  | inl lt ↦ lt
  | inr ge ↦ absurd (
      let none : is_name_byte b ≡ false =
      rw (no_range 48 57 b (omega (arith, ge)), no_range 65 90 b (omega (arith, ge)), no_range 97 122 b (omega (arith, ge)), no_same dot b (omega (arith, ge)), no_same underscore b (omega (arith, ge)), no_same hyphen b (omega (arith, ge))) refl in
      cc
      )
]

all_small : (bytes : List ℕ) → list_all is_name_byte bytes ≡ true → StaysBelowEnd bytes
all_small [] good = tt
all_small (b ∷ bytes) good =
    let parts = and_parts (is_name_byte b) (list_all is_name_byte bytes) good in
    (small b parts.0, all_small bytes parts.1)

pub name_is_below : (name : List ℕ) → is_name name ≡ true → StaysBelowEnd name
name_is_below name good =
    let some = and_parts (nat_lt 0 (length name)) (nat_le (length name) 64 && list_all is_name_byte name) good in
    let bytes = and_parts (nat_le (length name) 64) (list_all is_name_byte name) some.1 in
    all_small name bytes.1
