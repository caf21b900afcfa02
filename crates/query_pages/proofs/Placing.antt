-- What a stable sort by key makes of rows.
use Rattle.std.proofs.Common.{◌≡◌, ◌++◌, zero, suc, arith, IsPermutation, List, [], ◌∷◌, Bool, true, false, ◌&&◌, not}
use Rattle.std.proofs.Common.{cond, filter, refl, sym, ap, ◌∙◌}
use Rattle.std.proofs.lemmas.List.Elements.{recursion_from_All}
use Rattle.std.proofs.lemmas.List.Sorted.{All-permutation}
use Rattle.std.specs.Cmp.{IsStrictWeakOrder}
use Rattle.std.specs.List.{AllByRecursion}
use Rattle.std.specs.List.Sorted.{IsSortedBy, IsStableBy, ties}
use Rattle.std.specs.Ordering.{is_lt}
use Rattle.filter_grammar.specs.declared.query.Order.{Order}
use Rattle.hub_spec.proofs.Sorting.{Rises, arranged_rises, arranged_stable, by_key, rises, same_sorted, sorting_orders}
use Rattle.query_pages.specs.Placed.{AreKeyed, rows_placed}
use Rattle.query_pages.specs.declared.in_order.Placed.{Placed}
use Rattle.roster_types.specs.Records.{Record}
use Rattle.filter_grammar.specs.rows.Orders.{Sorting, arranged, comes_before, directed, sort_key_cmp}
use Rattle.filter_grammar.specs.declared.rows.sort_key.SortKey.{SortKey}

-- by the keys that stand beside the rows
abbrev pub key_before : Order → SortKey → SortKey → Bool
key_before order one other = is_lt (directed order (sort_key_cmp one other))

abbrev pub placed_before : Order → Placed → Placed → Bool
placed_before order one other = key_before order one.key other.key

module _ (sorting : Sorting) where
  abbrev Keyed : List Placed → Type 0
  Keyed = AllByRecursion (λ p. p.key ≡ sorting.key p.row.now)

  abbrev lt : Placed → Placed → Bool
  lt = placed_before sorting.order

  none_below : (p : Placed) (ps : List Placed) → p.key ≡ sorting.key p.row.now → Keyed ps → AllByRecursion (λ q. lt q p ≡ false) ps → AllByRecursion (λ row. comes_before sorting row p.row.now ≡ false) (rows_placed ps)
  none_below p [] here keyed all = tt
  none_below p (q ∷ ps) here keyed all =
      ((λ i. key_before sorting.order (sym keyed.0 i) (sym here i)) ∙ all.0, none_below p ps here keyed.1 all.1)

  rows_rise : (ps : List Placed) → Keyed ps → Rises lt ps → Rises (comes_before sorting) (rows_placed ps)
  rows_rise [] keyed up = tt
  rows_rise (p ∷ ps) keyed up = (none_below p ps keyed.0 keyed.1 up.0, rows_rise ps keyed.1 up.1)

  -- those that tie with a row, by its key
  rows_tied : (t : Record) (p : Placed) (ps : List Placed) → p.key ≡ sorting.key t → Keyed ps → filter (ties (comes_before sorting) t) (rows_placed ps) ≡ rows_placed (filter (ties lt p) ps)
  rows_tied t p [] at keyed = refl
  rows_tied t p (q ∷ ps) at keyed =
      let same : ties (comes_before sorting) t q.row.now ≡ ties lt p q = λ i. not (key_before sorting.order (sym at i) (sym keyed.0 i)) && not (key_before sorting.order (sym keyed.0 i) (sym at i)) in
      (λ i. cond (same i) (q.row.now ∷ rows_tied t p ps at keyed.1 i) (rows_tied t p ps at keyed.1 i)) ∙ outside (ties lt p q)
    where
      outside : (b : Bool) → cond b (q.row.now ∷ rows_placed (filter (ties lt p) ps)) (rows_placed (filter (ties lt p) ps)) ≡ rows_placed (cond b (q ∷ filter (ties lt p) ps) (filter (ties lt p) ps))
      outside true = refl
      outside false = refl

  module _ (old new : List Placed) (keyed : Keyed old) (keyed' : Keyed new) (stable : IsStableBy lt old new) where
    by_example : (t : Record) (p : Placed) → p.key ≡ sorting.key t → filter (ties (comes_before sorting) t) (rows_placed new) ≡ filter (ties (comes_before sorting) t) (rows_placed old)
    by_example t p at = rows_tied t p new at keyed' ∙ ap rows_placed (stable p) ∙ sym (rows_tied t p old at keyed)

  rows_stable : (old new : List Placed) → Keyed old → Keyed new → IsStableBy lt old new → (t : Record) → filter (ties (comes_before sorting) t) (rows_placed new) ≡ filter (ties (comes_before sorting) t) (rows_placed old)
  rows_stable [] [] keyed keyed' stable t = refl
  rows_stable (p ∷ old) new keyed keyed' stable t = by_example (p ∷ old) new keyed keyed' stable t (record p { key = sorting.key t }) refl
  rows_stable [] (p ∷ new) keyed keyed' stable t = by_example [] (p ∷ new) keyed keyed' stable t (record p { key = sorting.key t }) refl

  pub placed_order : IsStrictWeakOrder lt
  placed_order = by_key sorting.order (λ (p : Placed). p.key)

  -- sorted stably by their keys, rows are arranged
  pub sorted_placed : (old new : List Placed) → Keyed old → Keyed new → IsSortedBy lt new → IsStableBy lt old new → rows_placed new ≡ arranged sorting (rows_placed old)
  sorted_placed old new keyed keyed' sorted stable =
      let o = sorting_orders sorting in
      same_sorted (comes_before sorting) o (rows_placed new) (arranged sorting (rows_placed old))
      (rows_rise new keyed' (rises lt placed_order new sorted))
      (arranged_rises sorting o (rows_placed old))
      (λ t. rows_stable old new keyed keyed' stable t ∙ sym (arranged_stable sorting o t (rows_placed old)))

  -- the same of what a stable sort gives
  pub placed_sorted : (old new : List Placed) → AreKeyed sorting old → IsPermutation old new → IsSortedBy lt new → IsStableBy lt old new → rows_placed new ≡ arranged sorting (rows_placed old)
  placed_sorted old new keyed moved sorted stable =
      let right = λ (p : Placed). p.key ≡ sorting.key p.row.now in
      sorted_placed old new (recursion_from_All right old keyed) (recursion_from_All right new (All-permutation right old new moved keyed)) sorted stable

  pub placed_keyed : (old new : List Placed) → AreKeyed sorting old → IsPermutation old new → AreKeyed sorting new
  placed_keyed old new keyed moved = All-permutation (λ (p : Placed). p.key ≡ sorting.key p.row.now) old new moved keyed

pub keyed_more : (sorting : Sorting) (found : List Placed) (p : Placed) → AreKeyed sorting found → p.key ≡ sorting.key p.row.now → AreKeyed sorting (found ++ p ∷ [])
keyed_more sorting [] p keyed e zero d lt = e
keyed_more sorting [] p keyed e (suc k) d lt = absurd (omega arith)
keyed_more sorting (q ∷ found) p keyed e zero d lt = keyed 0 d (omega arith)
keyed_more sorting (q ∷ found) p keyed e (suc k) d lt = keyed_more sorting found p (λ k d lt. keyed (suc k) d (omega arith)) e k d (omega arith)
