-- A stable sort gives rows as they are arranged.
use Rattle.std.proofs.Common.{◌≡◌, ℕ, ℤ, pos, suc, ◌<◌, ◌≤◌, List, [], ◌∷◌, Bool, true, false, ◌&&◌, not, cond, filter}
use Rattle.std.proofs.Common.{length, get_or, refl, sym, ap, subst, ◌∙◌, arith}
use Rattle.std.proofs.lemmas.Bool.{not-true}
use Rattle.std.proofs.lemmas.Cmp.{int_cmp_total, nat_cmp_total, nat_list_cmp_total, on_total, then_total, tied_itself}
use Rattle.std.proofs.lemmas.List.MinMax.{IsStrictWeakOrder-flip, ranks_by}
use Rattle.std.proofs.lemmas.List.Sorted.{sorted_far}
use Rattle.std.specs.Cmp.{IsStrictWeakOrder, IsTotalOrder}
use Rattle.std.specs.Cmp.Lexicographic.{slice_cmp}
use Rattle.std.specs.List.{AllByRecursion}
use Rattle.std.specs.List.Sorted.{IsSortedBy, IsStableBy, ties}
use Rattle.std.specs.Ordering.{int_cmp, is_lt, nat_cmp, on, ordering_reverse, ordering_then, then_cmp}
use Rattle.std.specs.declared.cmp.Ordering.{Ordering}
use Rattle.std.specs.declared.cmp.Ordering.TheVariants.{Equal, Greater, Less}
use Rattle.filter_grammar.specs.declared.query.Order.{Order}
use Rattle.filter_grammar.specs.declared.query.Order.TheVariants.{Asc, Desc}
use Rattle.filter_grammar.specs.declared.rows.sort_key.SortKey.{SortKey}
use Rattle.filter_grammar.specs.declared.rows.sort_key.SortKey.TheVariants.{Absent, ByNumber, ByText}
use Rattle.filter_grammar.specs.rows.Orders.{Sorting, arranged, comes_before, directed, put_in, sort_key_cmp}
use Rattle.reference_rules.proofs.KeyOrder.{and_first, and_second}
use Rattle.roster_types.specs.Records.{Record}

-- no element is below one before it
abbrev pub Rises : {X : Type 0} → (X → X → Bool) → List X → Type 0
Rises lt [] = Unit {0}
Rises lt (x ∷ xs) = AllByRecursion (λ y. lt y x ≡ false) xs × Rises lt xs

module _ {X : Type 0} (lt : X → X → Bool) (o : IsStrictWeakOrder lt) where
  all_from : (P : X → Type 0) (xs : List X) → ((j : ℕ) (d : X) → j < length xs → P (get_or xs j d)) → AllByRecursion P xs
  all_from P [] each = tt
  all_from P (x ∷ xs) each = (each 0 x (omega arith), all_from P xs (λ j d within. each (suc j) d (omega arith)))

  rises_far : (xs : List X) → ((i j : ℕ) (d : X) → i ≤ j → j < length xs → lt (get_or xs j d) (get_or xs i d) ≡ false) → Rises lt xs
  rises_far [] far = tt
  rises_far (x ∷ xs) far = (all_from (λ y. lt y x ≡ false) xs (λ j d within. far 0 (suc j) d (omega arith) (omega arith)), rises_far xs (λ i j d le within. far (suc i) (suc j) d (omega arith) (omega arith)))

  pub rises : (xs : List X) → IsSortedBy lt xs → Rises lt xs
  rises xs sorted = rises_far xs (λ i j d le within. sorted_far lt o xs sorted i j d le within)

  not_itself : (x : X) → lt x x ≡ false
  not_itself x = elim (lt x x) as (λ b. lt x x ≡ b → b ≡ false) [ true ↦ λ e. let f = o.one_way x x e in cc | false ↦ λ _. refl ] refl

  untied : (x y : X) → ties lt x y ≡ true → (lt x y ≡ false) × (lt y x ≡ false)
  untied x y e = (not-true (lt x y) (and_first (not (lt x y)) _ e), not-true (lt y x) (and_second (not (lt x y)) _ e))

  tied : (x y : X) → lt x y ≡ false → lt y x ≡ false → ties lt x y ≡ true
  tied x y e f = λ i. not (e i) && not (f i)

  -- where something of a list that doesn't fall below x ties with t, t isn't below x
  not_below : (t x a : X) (xs more : List X) → AllByRecursion (λ w. lt w x ≡ false) xs → filter (ties lt t) xs ≡ a ∷ more → lt t x ≡ false
  not_below t x a [] more all e = cc
  not_below t x a (w ∷ ws) more all e =
      elim (ties lt t w) as (λ b. ties lt t w ≡ b → cond b (w ∷ filter (ties lt t) ws) (filter (ties lt t) ws) ≡ a ∷ more → lt t x ≡ false) [
        | true ↦ λ tie _. o.chain t w x (untied t w tie).0 all.0
        | false ↦ λ _ e. not_below t x a ws more all.1 e
      ] refl e

  tie_first : (x : X) (xs : List X) → filter (ties lt x) (x ∷ xs) ≡ x ∷ filter (ties lt x) xs
  tie_first x xs = ap (λ b. cond b (x ∷ filter (ties lt x) xs) (filter (ties lt x) xs)) (tied x x (not_itself x) (not_itself x))

  behind : (b : Bool) (x : X) (vs ws : List X) → cond b (x ∷ vs) vs ≡ cond b (x ∷ ws) ws → vs ≡ ws
  behind true x vs ws e = cc
  behind false x vs ws e = e

  -- two lists that rise are one where what ties stands in the same order
  pub same_sorted : (ys zs : List X) → Rises lt ys → Rises lt zs → ((x : X) → filter (ties lt x) ys ≡ filter (ties lt x) zs) → ys ≡ zs
  same_sorted [] [] up up' same = refl
  same_sorted [] (z ∷ zs) up up' same = let e = same z ∙ tie_first z zs in cc
  same_sorted (y ∷ ys) [] up up' same = let e = sym (same y) ∙ tie_first y ys in cc
  same_sorted (y ∷ ys) (z ∷ zs) up up' same =
      let one : lt y z ≡ false = not_below y z y (z ∷ zs) (filter (ties lt y) ys) (not_itself z, up'.0) (sym (same y) ∙ tie_first y ys) in
      let two : lt z y ≡ false = not_below z y z (y ∷ ys) (filter (ties lt z) zs) (not_itself y, up.0) (same z ∙ tie_first z zs) in
      let heads : y ∷ filter (ties lt y) ys ≡ z ∷ filter (ties lt y) zs = sym (tie_first y ys) ∙ same y ∙ ap (λ b. cond b (z ∷ filter (ties lt y) zs) (filter (ties lt y) zs)) (tied y z one two) in
      let head : y ≡ z = cc in
      let rest : ys ≡ zs = same_sorted ys zs up.1 up'.1 (λ x. behind (ties lt x y) y (filter (ties lt x) ys) (filter (ties lt x) zs) (same x ∙ subst (λ w. filter (ties lt x) (z ∷ zs) ≡ filter (ties lt x) (w ∷ zs)) (sym head) refl)) in
      λ i. head i ∷ rest i

module _ (sorting : Sorting) (o : IsStrictWeakOrder (comes_before sorting)) where
  abbrev lt : Record → Record → Bool
  lt = comes_before sorting

  all_put : (P : Record → Type 0) (row : Record) (rows : List Record) → P row → AllByRecursion P rows → AllByRecursion P (put_in sorting row rows)
  all_put P row [] here all = (here, tt)
  all_put P row (other ∷ rows) here all =
      elim (lt other row) as (λ b. AllByRecursion P (cond b (other ∷ put_in sorting row rows) (row ∷ other ∷ rows))) [
        | true ↦ (all.0, all_put P row rows here all.1)
        | false ↦ (here, all)
      ]

  above_all : (row other : Record) (rows : List Record) → lt other row ≡ false → AllByRecursion (λ w. lt w other ≡ false) rows → AllByRecursion (λ w. lt w row ≡ false) rows
  above_all row other [] e all = tt
  above_all row other (w ∷ ws) e all = (o.chain w other row all.0 e, above_all row other ws e all.1)

  put_rises : (row : Record) (rows : List Record) → Rises lt rows → Rises lt (put_in sorting row rows)
  put_rises row [] up = (tt, tt)
  put_rises row (other ∷ rows) up =
      elim (lt other row) as (λ b. lt other row ≡ b → Rises lt (cond b (other ∷ put_in sorting row rows) (row ∷ other ∷ rows))) [
        | true ↦ λ e. (all_put (λ w. lt w other ≡ false) row rows (o.one_way other row e) up.0, put_rises row rows up.1)
        | false ↦ λ e. ((e, above_all row other rows e up.0), up)
      ] refl

  passes_by : (t row other : Record) (rows : List Record) (a b : Bool) → ties lt t other ≡ a → ties lt t row ≡ b → lt other row ≡ true
      → cond a (other ∷ cond b (row ∷ rows) rows) (cond b (row ∷ rows) rows) ≡ cond b (row ∷ cond a (other ∷ rows) rows) (cond a (other ∷ rows) rows)
  passes_by t row other rows true true tie tie' below =
      let never : lt other row ≡ false = o.chain other t row (untied lt o t other tie).1 (untied lt o t row tie').0 in cc
  passes_by t row other rows true false tie tie' below = refl
  passes_by t row other rows false true tie tie' below = refl
  passes_by t row other rows false false tie tie' below = refl

  put_stable : (t row : Record) (rows : List Record) → filter (ties lt t) (put_in sorting row rows) ≡ filter (ties lt t) (row ∷ rows)
  put_stable t row [] = refl
  put_stable t row (other ∷ rows) =
      elim (lt other row) as (λ b. lt other row ≡ b → filter (ties lt t) (cond b (other ∷ put_in sorting row rows) (row ∷ other ∷ rows)) ≡ filter (ties lt t) (row ∷ other ∷ rows)) [
        | true ↦ λ below. ap (λ ws. cond (ties lt t other) (other ∷ ws) ws) (put_stable t row rows) ∙ passes_by t row other (filter (ties lt t) rows) (ties lt t other) (ties lt t row) refl refl below
        | false ↦ λ _. refl
      ] refl

  pub arranged_rises : (rows : List Record) → Rises lt (arranged sorting rows)
  unfolding arranged
  arranged_rises [] = tt
  arranged_rises (row ∷ rows) = put_rises row (arranged sorting rows) (arranged_rises rows)

  pub arranged_stable : (t : Record) (rows : List Record) → filter (ties lt t) (arranged sorting rows) ≡ filter (ties lt t) rows
  unfolding arranged
  arranged_stable t [] = refl
  arranged_stable t (row ∷ rows) = put_stable t row (arranged sorting rows) ∙ ap (λ ws. cond (ties lt t row) (row ∷ ws) ws) (arranged_stable t rows)

  -- what a stable sort makes of rows is how they are arranged
  pub sorted_is_arranged : (rows sorted : List Record) → IsSortedBy lt sorted → IsStableBy lt rows sorted → sorted ≡ arranged sorting rows
  sorted_is_arranged rows sorted up stable = same_sorted lt o sorted (arranged sorting rows) (rises lt o sorted up) (arranged_rises rows) (λ t. stable t ∙ sym (arranged_stable t rows))

-- ---- keys are in a total order

tag_of : SortKey → ℕ
tag_of Absent = 0
tag_of (ByNumber n) = 1
tag_of (ByText t) = 2

number_of : SortKey → ℤ
number_of Absent = pos 0
number_of (ByNumber n) = n
number_of (ByText t) = pos 0

text_of : SortKey → List ℕ
text_of Absent = []
text_of (ByNumber n) = []
text_of (ByText t) = t

by_parts : SortKey → SortKey → Ordering
by_parts = then_cmp (on tag_of nat_cmp) (then_cmp (on number_of int_cmp) (on text_of (slice_cmp nat_cmp)))

parts_total : IsTotalOrder by_parts
unfolding by_parts
parts_total = then_total (on_total tag_of nat_cmp_total) (then_total (on_total number_of int_cmp_total) (on_total text_of nat_list_cmp_total))

then_equal : (r : Ordering) → ordering_then r Equal ≡ r
then_equal Less = refl
then_equal Equal = refl
then_equal Greater = refl

same_keys : (a b : SortKey) → by_parts a b ≡ sort_key_cmp a b
unfolding by_parts tag_of number_of text_of
same_keys Absent Absent = ap (λ r. ordering_then r Equal) (tied_itself int_cmp_total (pos 0))
same_keys Absent (ByNumber m) = refl
same_keys Absent (ByText t) = refl
same_keys (ByNumber n) Absent = refl
same_keys (ByText s) Absent = refl
same_keys (ByNumber n) (ByNumber m) = then_equal (int_cmp n m)
same_keys (ByNumber n) (ByText t) = refl
same_keys (ByText s) (ByNumber m) = refl
same_keys (ByText s) (ByText t) = ap (λ r. ordering_then r (slice_cmp nat_cmp s t)) (tied_itself int_cmp_total (pos 0))

keys_total : IsTotalOrder sort_key_cmp
keys_total = subst IsTotalOrder (λ i a b. same_keys a b i) parts_total

-- so each sorting is an order in which any two rows compare
pub by_key : {X : Type 0} (order : Order) (key : X → SortKey) → IsStrictWeakOrder (λ x y. is_lt (directed order (sort_key_cmp (key x) (key y))))
by_key Asc key = ranks_by keys_total key
by_key {X} Desc key =
    let back : (x y : X) → is_lt (sort_key_cmp (key y) (key x)) ≡ is_lt (ordering_reverse (sort_key_cmp (key x) (key y))) = λ x y. ap is_lt (keys_total.antisymm (key y) (key x)) in
    subst IsStrictWeakOrder (λ i x y. back x y i) (IsStrictWeakOrder-flip (λ x y. is_lt (sort_key_cmp (key x) (key y))) (ranks_by keys_total key))

pub sorting_orders : (sorting : Sorting) → IsStrictWeakOrder (comes_before sorting)
sorting_orders sorting = by_key sorting.order sorting.key

-- a stable sort by a sorting arranges rows by it
pub stable_sort_arranges : (sorting : Sorting) (rows sorted : List Record) → IsSortedBy (comes_before sorting) sorted → IsStableBy (comes_before sorting) rows sorted → sorted ≡ arranged sorting rows
stable_sort_arranges sorting rows sorted up stable = sorted_is_arranged sorting (sorting_orders sorting) rows sorted up stable
