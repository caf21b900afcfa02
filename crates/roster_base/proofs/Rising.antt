-- Items that come in order already.
use Rattle.std.proofs.Common.{◌≡◌, ◌&&◌, ◌∙◌, ◌++◌, ◌+◌, ◌-◌, ◌<◌, ℕ, Bool, true, List, [], ◌∷◌, Option, Some, None}
use Rattle.std.proofs.Common.{Ordering, Less, Equal, Greater, get_or, length, map, nat_cmp, is_lt, slice_get, take}
use Rattle.std.proofs.Common.{refl, sym, ap, subst, arith}
use Rattle.std.proofs.lemmas.Bool.{and_parts}
use Rattle.std.proofs.lemmas.Cmp.{nat_list_cmp_total}
use Rattle.std.proofs.lemmas.List.{take_all, take_more}
use Rattle.std.proofs.lemmas.Option.{slice_get-get_or, slice_get_within}
use Rattle.std.specs.Cmp.Lexicographic.{slice_cmp}
use Rattle.std.specs.List.{AllByRecursion}
use Rattle.std.specs.List.Sorted.{IsStrictlySortedBy}
use Rattle.std.specs.Option.{unwrap_or}
use Rattle.std.specs.Ordering.{match_ordering}
use Rattle.roster_base.proofs.Sorting.{Below}
use Rattle.roster_base.specs.Order.{RiseBy, in_order, is_below, placed}

-- what tests as less is
pub is_less : (o : Ordering) → is_lt o ≡ true → o ≡ Less
is_less Less e = refl
is_less Equal e = cc e
is_less Greater e = cc e

-- each key is below the one behind it, and `last` below the first
abbrev pub rises : {A : Type 0} → (A → List ℕ) → Option (List ℕ) → List A → Bool
rises key last [] = true
rises key last (x ∷ xs) = is_below last (key x) && rises key (Some (key x)) xs

-- an item below the first of the others is placed before them
stays_first : {A : Type 0} (key : A → List ℕ) (x : A) (xs : List A) → rises key (Some (key x)) xs ≡ true → placed key x xs ≡ x ∷ xs
unfolding placed
stays_first key x [] r = refl
stays_first {A} key x (y ∷ ys) r = by (slice_cmp nat_cmp (key x) (key y)) (and_parts (is_lt (slice_cmp nat_cmp (key x) (key y))) _ r).0
  where
    by : (o : Ordering) → is_lt o ≡ true → match_ordering o (x ∷ y ∷ ys) (x ∷ ys) (y ∷ placed key x ys) ≡ x ∷ y ∷ ys
    by Less below = refl
    by Equal below = cc below
    by Greater below = cc below

-- items that rise are in order
pub stays_in_order : {A : Type 0} (key : A → List ℕ) (last : Option (List ℕ)) (xs : List A) → rises key last xs ≡ true → in_order key xs ≡ xs
stays_in_order key last [] r = refl
stays_in_order key last (x ∷ xs) r =
    let more = (and_parts (is_below last (key x)) _ r).1 in
    ap (placed key x) (stays_in_order key (Some (key x)) xs more) ∙ stays_first key x xs more

-- ---- one more item behind others whose keys rise

-- these items' keys are below t
abbrev pub AllBelow : {A : Type 0} → (A → List ℕ) → List ℕ → List A → Type 0
AllBelow key t xs = AllByRecursion (λ u. slice_cmp nat_cmp u t ≡ Less) (map key xs)

above_last : {A : Type 0} (key : A → List ℕ) (t : List ℕ) (xs : List A) (y : A) → Below key t (xs ++ y ∷ []) → slice_cmp nat_cmp t (key y) ≡ Less
above_last key t [] y h = h.0
above_last key t (x ∷ xs) y h = above_last key t xs y h.1

above_push : {A : Type 0} (key : A → List ℕ) (t : List ℕ) (xs : List A) (y : A) → Below key t xs → slice_cmp nat_cmp t (key y) ≡ Less → Below key t (xs ++ y ∷ [])
above_push key t [] y h l = (l, tt)
above_push key t (x ∷ xs) y h l = (h.0, above_push key t xs y h.1 l)

-- what is above the last is above all
pub all_below : {A : Type 0} (key : A → List ℕ) (xs : List A) (y : A) (t : List ℕ) → RiseBy key (xs ++ y ∷ []) → slice_cmp nat_cmp (key y) t ≡ Less → AllBelow key t (xs ++ y ∷ [])
unfolding IsStrictlySortedBy
all_below key [] y t h l = (l, tt)
all_below key (x ∷ xs) y t h l = (nat_list_cmp_total.trans (key x) (key y) t (above_last key (key x) xs y h.0) l, all_below key xs y t h.1 l)

pub rise_push : {A : Type 0} (key : A → List ℕ) (xs : List A) (y : A) → RiseBy key xs → AllBelow key (key y) xs → RiseBy key (xs ++ y ∷ [])
unfolding IsStrictlySortedBy
rise_push key [] y h b = (tt, tt)
rise_push key (x ∷ xs) y h b = (above_push key (key x) xs y h.0 b.0, rise_push key xs y h.1 b.1)

-- behind no item
pub alone : {A : Type 0} (key : A → List ℕ) (xs : List A) (y : A) → slice_get xs (length xs - 1) ≡ None → RiseBy key (xs ++ y ∷ [])
unfolding IsStrictlySortedBy
alone key [] y e = (tt, tt)
alone key (x ∷ xs) y e =
    let within : length (x ∷ xs) - 1 < length (x ∷ xs) = omega arith in
    let there = slice_get-get_or (x ∷ xs) (length (x ∷ xs) - 1) x within in
    cc (sym e ∙ there)

-- behind a last item whose key is below
pub behind_last : {A : Type 0} (key : A → List ℕ) (xs : List A) (last y : A) → slice_get xs (length xs - 1) ≡ Some last → is_lt (slice_cmp nat_cmp (key last) (key y)) ≡ true → RiseBy key xs → RiseBy key (xs ++ y ∷ [])
behind_last {A} key xs last y is below h =
    let i : ℕ = length xs - 1 in
    let within = slice_get_within xs i last is in
    let found : Some last ≡ Some (get_or xs i last) = sym is ∙ slice_get-get_or xs i last within in
    let at : last ≡ get_or xs i last = ap (λ (o : Option A). unwrap_or o last) found in
    let front : List A = take i xs in
    let shape : xs ≡ front ++ last ∷ [] = sym (take_all (i + 1) xs (omega arith)) ∙ take_more xs i last within ∙ ap (λ (x : A). front ++ x ∷ []) (sym at) in
    let rise : RiseBy key (front ++ last ∷ []) = subst (RiseBy key) shape h in
    subst (λ (xs : List A). RiseBy key (xs ++ y ∷ [])) (sym shape)
    (rise_push key (front ++ last ∷ []) y rise (all_below key front last (key y) rise (is_less (slice_cmp nat_cmp (key last) (key y)) below)))

-- ---- keys that rise still do where their end, or one of them, is left out

-- keys in ascending order, each once
abbrev pub Rise : List (List ℕ) → Type 0
Rise keys = IsStrictlySortedBy (slice_cmp nat_cmp) keys

all_front : (P : List ℕ → Type 0) (xs ys : List (List ℕ)) → AllByRecursion P (xs ++ ys) → AllByRecursion P xs
all_front P [] ys h = tt
all_front P (x ∷ xs) ys h = (h.0, all_front P xs ys h.1)

all_without : (P : List ℕ → Type 0) (xs ys : List (List ℕ)) (k : List ℕ) → AllByRecursion P (xs ++ k ∷ ys) → AllByRecursion P (xs ++ ys)
all_without P [] ys k h = h.1
all_without P (x ∷ xs) ys k h = (h.0, all_without P xs ys k h.1)

pub rise_front : (xs ys : List (List ℕ)) → Rise (xs ++ ys) → Rise xs
unfolding IsStrictlySortedBy
rise_front [] ys h = tt
rise_front (x ∷ xs) ys h = (all_front _ xs ys h.0, rise_front xs ys h.1)

pub rise_without : (xs ys : List (List ℕ)) (k : List ℕ) → Rise (xs ++ k ∷ ys) → Rise (xs ++ ys)
unfolding IsStrictlySortedBy
rise_without [] ys k h = h.1
rise_without (x ∷ xs) ys k h = (all_without _ xs ys k h.0, rise_without xs ys k h.1)
