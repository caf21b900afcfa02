-- Items put in order of their keys.
use Rattle.std.proofs.Common.{◌≡◌, ℕ, List, [], ◌∷◌, map, true, false, Global, Ordering, Less, Equal, Greater, nat_cmp}
use Rattle.std.proofs.Common.{is_eq, bytes_eq, refl, sym, ap, ◌∙◌, subst, arith, Result, Vec, IfOk}
use Rattle.std.proofs.lemmas.Cmp.{nat_list_cmp_total}
use Rattle.std.proofs.lemmas.List.Sorted.{IsPermutation-cons, IsPermutation-refl, IsPermutation-trans}
use Rattle.std.proofs.lemmas.List.Sorted.{IsPermutation-swap}
use Rattle.std.proofs.lemmas.Map.Text.{is_eq-slice_cmp}
use Rattle.std.proofs.lemmas.Result.{IfOk-weaker}
use Rattle.std.proofs.lemmas.Slice.Eq.{bytes_eq-Decides}
use Rattle.std.specs.Cmp.Lexicographic.{slice_cmp}
use Rattle.std.specs.List.{AllByRecursion, IsDistinct}
use Rattle.std.specs.List.Sorted.{IsPermutation, IsStrictlySortedBy}
use Rattle.std.specs.Ordering.{match_ordering, ordering_reverse}
use Rattle.roster_base.specs.Order.{RiseBy, in_order, placed}

-- two texts that tie are one
pub tied : (xs ys : List ℕ) → slice_cmp nat_cmp xs ys ≡ Equal → xs ≡ ys
tied xs ys e = (bytes_eq-Decides xs ys).0 (sym (is_eq-slice_cmp xs ys) ∙ ap is_eq e)

-- the key t is below each of these items' keys
abbrev pub Below : {A : Type 0} → (A → List ℕ) → List ℕ → List A → Type 0
Below key t xs = AllByRecursion (λ u. slice_cmp nat_cmp t u ≡ Less) (map key xs)

pub below_all : {A : Type 0} (key : A → List ℕ) (t u : List ℕ) (xs : List A) → slice_cmp nat_cmp t u ≡ Less → Below key u xs → Below key t xs
below_all key t u [] l h = tt
below_all key t u (x ∷ xs) l h = (nat_list_cmp_total.trans t u (key x) l h.0, below_all key t u xs l h.1)

below_placed : {A : Type 0} (key : A → List ℕ) (t : List ℕ) (x : A) (ys : List A) → slice_cmp nat_cmp t (key x) ≡ Less → Below key t ys → Below key t (placed key x ys)
unfolding placed
below_placed key t x [] l h = (l, tt)
below_placed key t x (y ∷ ys) l h = by (slice_cmp nat_cmp (key x) (key y)) (below_placed key t x ys l h.1)
  where
    by : (o : Ordering) → Below key t (placed key x ys) → Below key t (match_ordering o (x ∷ y ∷ ys) (x ∷ ys) (y ∷ placed key x ys))
    by Less more = (l, h)
    by Equal more = (l, h.1)
    by Greater more = (h.0, more)

rise_placed : {A : Type 0} (key : A → List ℕ) (x : A) (ys : List A) → RiseBy key ys → RiseBy key (placed key x ys)
unfolding placed IsStrictlySortedBy
rise_placed key x [] h = (tt, tt)
rise_placed key x (y ∷ ys) h = by (slice_cmp nat_cmp (key x) (key y)) refl (rise_placed key x ys h.1)
  where
    by : (o : Ordering) → slice_cmp nat_cmp (key x) (key y) ≡ o → RiseBy key (placed key x ys)
        → RiseBy key (match_ordering o (x ∷ y ∷ ys) (x ∷ ys) (y ∷ placed key x ys))
    by Less q more = ((q, below_all key (key x) (key y) ys q h.0), h)
    by Equal q more = (subst (λ (t : List ℕ). Below key t ys) (sym (tied (key x) (key y) q)) h.0, h.1)
    by Greater q more = (below_placed key (key y) x ys (nat_list_cmp_total.antisymm (key y) (key x) ∙ ap ordering_reverse q) h.0, more)

-- the keys of a list in order rise
pub rise-in_order : {A : Type 0} (key : A → List ℕ) (xs : List A) → RiseBy key (in_order key xs)
unfolding IsStrictlySortedBy
rise-in_order key [] = tt
rise-in_order key (x ∷ xs) = rise_placed key x (in_order key xs) (rise-in_order key xs)

-- none of these items has the key t
abbrev Lacks : {A : Type 0} → (A → List ℕ) → List ℕ → List A → Type 0
Lacks key t xs = AllByRecursion (λ u. bytes_eq t u ≡ false) (map key xs)

lacks_placed : {A : Type 0} (key : A → List ℕ) (t : List ℕ) (x : A) (ys : List A) → bytes_eq t (key x) ≡ false → Lacks key t ys → Lacks key t (placed key x ys)
unfolding placed
lacks_placed key t x [] l h = (l, tt)
lacks_placed key t x (y ∷ ys) l h = by (slice_cmp nat_cmp (key x) (key y)) (lacks_placed key t x ys l h.1)
  where
    by : (o : Ordering) → Lacks key t (placed key x ys) → Lacks key t (match_ordering o (x ∷ y ∷ ys) (x ∷ ys) (y ∷ placed key x ys))
    by Less more = (l, h)
    by Equal more = (l, h.1)
    by Greater more = (h.0, more)

lacks_in_order : {A : Type 0} (key : A → List ℕ) (t : List ℕ) (xs : List A) → Lacks key t xs → Lacks key t (in_order key xs)
lacks_in_order key t [] h = tt
lacks_in_order key t (x ∷ xs) h = lacks_placed key t x (in_order key xs) h.0 (lacks_in_order key t xs h.1)

-- placing an item whose key is new only moves items
moved_placed : {A : Type 0} (key : A → List ℕ) (x : A) (ys : List A) → Lacks key (key x) ys → IsPermutation (x ∷ ys) (placed key x ys)
unfolding placed
moved_placed key x [] h = IsPermutation-refl (x ∷ [])
moved_placed {A} key x (y ∷ ys) h = by (slice_cmp nat_cmp (key x) (key y)) refl (moved_placed key x ys h.1)
  where
    by : (o : Ordering) → slice_cmp nat_cmp (key x) (key y) ≡ o → IsPermutation (x ∷ ys) (placed key x ys)
        → IsPermutation (x ∷ y ∷ ys) (match_ordering o (x ∷ y ∷ ys) (x ∷ ys) (y ∷ placed key x ys))
    by Less q more = IsPermutation-refl (x ∷ y ∷ ys)
    by Equal q more =
        let alike : bytes_eq (key x) (key y) ≡ true = sym (is_eq-slice_cmp (key x) (key y)) ∙ ap is_eq q in
        cc (sym alike ∙ h.0)
    by Greater q more =
        IsPermutation-trans (x ∷ y ∷ ys) (y ∷ x ∷ ys) (y ∷ placed key x ys)
        (IsPermutation-swap (x ∷ y ∷ ys) (y ∷ x ∷ ys) 0 1 (omega arith) (omega arith) refl)
        (IsPermutation-cons y (x ∷ ys) (placed key x ys) more)

-- items whose keys differ are all there in order
pub moved-in_order : {A : Type 0} (key : A → List ℕ) (xs : List A) → IsDistinct bytes_eq (map key xs) → IsPermutation xs (in_order key xs)
unfolding IsDistinct
moved-in_order key [] h = IsPermutation-refl []
moved-in_order key (x ∷ xs) h =
    IsPermutation-trans (x ∷ xs) (x ∷ in_order key xs) (placed key x (in_order key xs))
    (IsPermutation-cons x xs (in_order key xs) (moved-in_order key xs h.1))
    (moved_placed key x (in_order key xs) (lacks_in_order key (key x) xs h.0))

-- what is put in order: each result that equals it has rising keys and, where keys differ, the same items
pub RiseBy-in_order : {A E : Type 0} (key : A → List ℕ) (xs : List A) (r : Result (Vec A Global) E) → IfOk r (λ v. v.items ≡ in_order key xs) → IfOk r (λ v. RiseBy key v.items)
RiseBy-in_order key xs r h = IfOk-weaker r _ _ (λ v is. subst (RiseBy key) (sym is) (rise-in_order key xs)) h

pub IsPermutation-in_order : {A E : Type 0} (key : A → List ℕ) (xs : List A) (r : Result (Vec A Global) E) → IfOk r (λ v. v.items ≡ in_order key xs) → IsDistinct bytes_eq (map key xs)
    → IfOk r (λ v. IsPermutation xs v.items)
IsPermutation-in_order key xs r h d = IfOk-weaker r _ _ (λ v is. subst (IsPermutation xs) (sym is) (moved-in_order key xs d)) h
