-- The order of labels.
use Rattle.std.proofs.Common.{◌≡◌, ℕ, ◌+◌, ◌*◌, ◌/◌, ◌%◌, ◌^◌, ◌<◌, ◌≤◌, List, [], ◌∷◌, ◌++◌, true, false, length, ◌&&◌}
use Rattle.std.proofs.Common.{Ordering, Less, Equal, Greater, inl, inr, refl, sym, ap, ap₂, ◌∙◌, subst, arith}
use Rattle.std.proofs.Common.{div-add-mod', mod-lt, mul-le-mul_right, add-mul}
use Rattle.std.specs.Int.{w64, bytes_high_first, from_be_bytes}
use Rattle.std.specs.Ordering.{MatchOrdering, is_ge, is_lt, nat_cmp, ordering_then}
use Rattle.std.proofs.lemmas.Cmp.{nat_cmp_total, ranked, tied_itself}
use Rattle.std.proofs.lemmas.Nat.{from_be_bytes-to_be_bytes_8}
use native.Mathlib.Nat as nat
use Rattle.std.proofs.lemmas.Bool.{and_from, and_right, cases_eq, cases_lt}
use Rattle.item_maps.specs.Items.{bytes_cmp, is_between}
use Rattle.hub_format.specs.Pieces.{number}

-- of one number each, the number is found again
pub same_number : (m n : ℕ) → m < 2 ^ 64 → n < 2 ^ 64 → number m ≡ number n → m ≡ n
same_number m n fits_m fits_n same = sym (from_be_bytes-to_be_bytes_8 m fits_m) ∙ ap (from_be_bytes w64) same ∙ from_be_bytes-to_be_bytes_8 n fits_n

-- what stands behind one prefix
pub behind : (p x y : List ℕ) → bytes_cmp (p ++ x) (p ++ y) ≡ bytes_cmp x y
behind [] x y = refl
behind (b ∷ p) x y = ap (λ o. ordering_then o (bytes_cmp (p ++ x) (p ++ y))) (tied_itself nat_cmp_total b) ∙ behind p x y

pub less_is : (a b : ℕ) → a < b → nat_cmp a b ≡ Less
less_is a b lt = go (nat_cmp a b) (ranked a b (nat_cmp a b) refl)
  where
    go : (o : Ordering) → MatchOrdering o (a < b) (a ≡ b) (b < a) → o ≡ Less
    go Less h = refl
    go Equal h = absurd (omega arith)
    go Greater h = absurd (omega arith)

pub greater_is : (a b : ℕ) → b < a → nat_cmp a b ≡ Greater
greater_is a b lt = go (nat_cmp a b) (ranked a b (nat_cmp a b) refl)
  where
    go : (o : Ordering) → MatchOrdering o (a < b) (a ≡ b) (b < a) → o ≡ Greater
    go Less h = absurd (omega arith)
    go Equal h = absurd (omega arith)
    go Greater h = refl

-- one summand more on both sides
shifted : (c u v a b : ℕ) → a ≡ c + u → b ≡ c + v → nat_cmp a b ≡ nat_cmp u v
shifted c u v a b is_a is_b = go (nat_cmp u v) (ranked u v (nat_cmp u v) refl)
  where
    go : (o : Ordering) → MatchOrdering o (u < v) (u ≡ v) (v < u) → nat_cmp a b ≡ o
    go Less h = less_is a b (omega arith)
    go Equal h = let same : a ≡ b = omega arith in ap (nat_cmp a) (sym same) ∙ tied_itself nat_cmp_total a
    go Greater h = greater_is a b (omega arith)

-- the greater digit decides, and else the rest
digit : (m a b : ℕ) → 0 < m → nat_cmp a b ≡ ordering_then (nat_cmp (a / m) (b / m)) (nat_cmp (a % m) (b % m))
digit m a b some = go (nat_cmp (a / m) (b / m)) (ranked (a / m) (b / m) (nat_cmp (a / m) (b / m)) refl)
  where
    go : (o : Ordering) → MatchOrdering o (a / m < b / m) (a / m ≡ b / m) (b / m < a / m) → nat_cmp a b ≡ ordering_then o (nat_cmp (a % m) (b % m))
    go Less h = less_is a b (below a b h)
      where
        below : (a b : ℕ) → a / m < b / m → a < b
        below a b lt = omega (arith, div-add-mod' a m, div-add-mod' b m, mod-lt a some, mul-le-mul_right {m = a / m + 1} {n = b / m} m (omega arith), add-mul (a / m) 1 m)
    go Equal h = shifted (a / m * m) (a % m) (b % m) a b (sym (div-add-mod' a m)) (sym (div-add-mod' b m) ∙ ap (λ q. q * m + b % m) (sym h))
    go Greater h = greater_is a b (below b a h)
      where
        below : (a b : ℕ) → a / m < b / m → a < b
        below a b lt = omega (arith, div-add-mod' a m, div-add-mod' b m, mod-lt a some, mul-le-mul_right {m = a / m + 1} {n = b / m} m (omega arith), add-mul (a / m) 1 m)

pub grouped : (x y z : Ordering) → ordering_then (ordering_then x y) z ≡ ordering_then x (ordering_then y z)
grouped Less y z = refl
grouped Equal y z = refl
grouped Greater y z = refl

ended : (x : Ordering) → x ≡ ordering_then x Equal
ended Less = refl
ended Equal = refl
ended Greater = refl

-- one digit less on the left
module _ (a b : ℕ) where
  one_less : (m : ℕ) (rest : Ordering) → ordering_then (nat_cmp (a / m) (b / m)) rest ≡ ordering_then (nat_cmp (a / (m * 256)) (b / (m * 256))) (ordering_then (nat_cmp (a / m % 256) (b / m % 256)) rest)
  one_less m rest =
      ap (λ o. ordering_then o rest) (digit 256 (a / m) (b / m) (omega arith) ∙ ap₂ (λ (u v : ℕ). ordering_then (nat_cmp u v) (nat_cmp (a / m % 256) (b / m % 256))) (nat.div-div-eq-div-mul a m 256) (nat.div-div-eq-div-mul b m 256))
      ∙ grouped (nat_cmp (a / (m * 256)) (b / (m * 256))) (nat_cmp (a / m % 256) (b / m % 256)) rest

  last : (n : ℕ) → n < 2 ^ 64 → n / 72057594037927936 ≡ n / 72057594037927936 % 256
  last n fits = omega arith

  -- numbers stand in the order of their bytes
  pub number_order : a < 2 ^ 64 → b < 2 ^ 64 → bytes_cmp (number a) (number b) ≡ nat_cmp a b
  number_order fits_a fits_b =
      sym (ended (nat_cmp a b)
      ∙ ap (λ o. ordering_then o Equal) (digit 256 a b (omega arith))
      ∙ grouped (nat_cmp (a / 256) (b / 256)) (nat_cmp (a % 256) (b % 256)) Equal
      ∙ one_less 256 _ ∙ one_less 65536 _ ∙ one_less 16777216 _ ∙ one_less 4294967296 _ ∙ one_less 1099511627776 _ ∙ one_less 281474976710656 _
      ∙ ap₂ (λ (u v : ℕ). ordering_then (nat_cmp u v) (bytes_cmp (bytes_high_first 7 a) (bytes_high_first 7 b))) (last a fits_a) (last b fits_b))

-- behind numbers of other versions stands something else
longer : (p x : List ℕ) → is_ge (bytes_cmp (p ++ x) p) ≡ true
longer [] [] = refl
longer [] (y ∷ x) = refl
longer (b ∷ p) x = ap (λ o. is_ge (ordering_then o (bytes_cmp (p ++ x) p))) (tied_itself nat_cmp_total b) ∙ longer p x

less_behind : (p q x : List ℕ) → length p ≡ length q → bytes_cmp p q ≡ Less → bytes_cmp (p ++ x) q ≡ Less
less_behind [] [] x long less = absurd cc
less_behind [] (c ∷ q) x long less = absurd (omega arith)
less_behind (b ∷ p) [] x long less = absurd (omega arith)
less_behind (b ∷ p) (c ∷ q) x long less = go (nat_cmp b c) less (less_behind p q x (omega arith))
  where
    go : (o : Ordering) → ordering_then o (bytes_cmp p q) ≡ Less → (bytes_cmp p q ≡ Less → bytes_cmp (p ++ x) q ≡ Less) → ordering_then o (bytes_cmp (p ++ x) q) ≡ Less
    go Less is later = refl
    go Equal is later = later is
    go Greater is later = absurd cc

greater_behind : (p q x : List ℕ) → length p ≡ length q → bytes_cmp p q ≡ Greater → bytes_cmp (p ++ x) q ≡ Greater
greater_behind [] [] x long less = absurd cc
greater_behind [] (c ∷ q) x long less = absurd (omega arith)
greater_behind (b ∷ p) [] x long less = absurd (omega arith)
greater_behind (b ∷ p) (c ∷ q) x long less = go (nat_cmp b c) less (greater_behind p q x (omega arith))
  where
    go : (o : Ordering) → ordering_then o (bytes_cmp p q) ≡ Greater → (bytes_cmp p q ≡ Greater → bytes_cmp (p ++ x) q ≡ Greater) → ordering_then o (bytes_cmp (p ++ x) q) ≡ Greater
    go Less is later = absurd cc
    go Equal is later = later is
    go Greater is later = refl

lt_not_ge : (o : Ordering) → is_ge o ≡ true → is_lt o ≡ false
lt_not_ge Less h = absurd cc
lt_not_ge Equal h = refl
lt_not_ge Greater h = refl

-- the labels behind a version's number are those between it and the next
pub of_version : (version : ℕ) (x : List ℕ) → version + 1 < 2 ^ 64 → is_between (number version) (number (version + 1)) (number version ++ x) ≡ true
of_version version x fits =
    let less = less_behind (number version) (number (version + 1)) x refl (number_order version (version + 1) (omega arith) fits ∙ less_is version (version + 1) (omega arith)) in
    and_from _ _ (longer (number version) x) (ap is_lt less)

pub of_other : (version other : ℕ) (x : List ℕ) → version + 1 < 2 ^ 64 → other < 2 ^ 64 → (other ≡ version → ⊥) → is_between (number version) (number (version + 1)) (number other ++ x) ≡ false
of_other version other x fits others apart = elim (cases_lt other version) [
  | inl lt ↦
      let less = less_behind (number other) (number version) x refl (number_order other version others (omega arith) ∙ less_is other version lt) in
      ap (λ o. is_ge o && is_lt (bytes_cmp (number other ++ x) (number (version + 1)))) less
  | inr ge ↦ and_right (is_ge (bytes_cmp (number other ++ x) (number version))) _ (elim (cases_eq other (version + 1)) [
    | inl is ↦ subst (λ n. is_lt (bytes_cmp (number other ++ x) (number n)) ≡ false) is (lt_not_ge _ (longer (number other) x))
    | inr isnt ↦ ap is_lt (greater_behind (number other) (number (version + 1)) x refl (number_order other (version + 1) others fits ∙ greater_is other (version + 1) (above other version ge apart isnt)))
  ])
]
  where
    next : (other version : ℕ) → version ≤ other → other ≤ version + 1 → (other ≡ version → ⊥) → other ≡ version + 1
    next other version ge le differ = elim (cases_lt version other) [
      | inl lt ↦ omega arith
      | inr le2 ↦ absurd (differ (omega arith))
    ]

    above : (other version : ℕ) → version ≤ other → (other ≡ version → ⊥) → (other ≡ version + 1 → ⊥) → version + 1 < other
    above other version ge apart isnt = elim (cases_lt (version + 1) other) [
      | inl lt ↦ lt
      | inr le ↦ elim (cases_eq other version) [
        | inl same ↦ absurd (apart same)
        | inr differ ↦ absurd (isnt (omega (arith, next other version ge le differ)))
      ]
    ]
