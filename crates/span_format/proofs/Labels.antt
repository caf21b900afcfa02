-- The labels of spans stand in the order of kinds, ids and numbers.
use Rattle.std.proofs.Common.{◌≡◌, ℕ, zero, suc, ◌<◌, ◌^◌, List, [], ◌∷◌, true, false, ◌&&◌, Ordering, Less, Equal}
use Rattle.std.proofs.Common.{Greater, map, None, sym, ap, refl, ◌∙◌, subst, arith}
use Rattle.std.specs.FinMap.{is_sorted}
use Rattle.std.specs.FinMap.Entries.{below_all}
use Rattle.std.specs.Ordering.{eq_by_cmp, is_eq, is_ge, is_lt, nat_cmp, ordering_then}
use Rattle.std.proofs.lemmas.Bool.{and_parts, false_from_ne_true}
use Rattle.std.proofs.lemmas.Cmp.{nat_cmp_total, tied_itself}
use Rattle.item_maps.proofs.ItemLemmas.{tied_same}
use Rattle.item_maps.specs.Items.{bytes_cmp, is_between}
use Rattle.reference_rules.proofs.KeyOrder.{key_total}
use Rattle.roster_types.specs.Keys.{Key, key_cmp, keyed}
use Rattle.version_core.specs.Changes.{AreChanges, change_key}
use Rattle.version_core.specs.declared.row_change.RowChange.{RowChange}
use Rattle.hub_format.specs.Format.{Entry}
use Rattle.hub_format.specs.Pieces.{HasNoZero, key_label, number}
use Rattle.hub_format.proofs.Endings.{ended}
use Rattle.hub_format.proofs.EntryMaps.{Differ, found}
use Rattle.hub_format.proofs.Labels.{ordered}
use Rattle.hub_format.proofs.Marking.{same_parts}
use Rattle.hub_format.proofs.Decoding.{same_ends}
use Rattle.hub_format.proofs.Orders.{greater_is, grouped, number_order}
use Rattle.span_format.specs.Format.{name_entry, row_span, span_entry, span_label, spans_from}

pub span_order : (k l : Key) (m n : ℕ) → HasNoZero k.1 → HasNoZero l.1 → m < 2 ^ 64 → n < 2 ^ 64 → bytes_cmp (span_label k m) (span_label l n) ≡ ordering_then (key_cmp k l) (nat_cmp m n)
unfolding key_cmp
span_order k l m n k_plain l_plain m_fits n_fits =
    ap (ordering_then (nat_cmp k.0 l.0)) (ended k.1 l.1 (number m) (number n) k_plain l_plain ∙ ap (ordering_then (bytes_cmp k.1 l.1)) (number_order m n m_fits n_fits))
    ∙ sym (grouped (nat_cmp k.0 l.0) (bytes_cmp k.1 l.1) (nat_cmp m n))

not_below : (n : ℕ) → is_ge (nat_cmp n 0) ≡ true
not_below zero = ap is_ge (tied_itself nat_cmp_total 0)
not_below (suc n) = ap is_ge (greater_is (suc n) 0 (omega arith))

-- of all spans a clear takes those of the same kind and id that came before the version
pub is_hidden : (k l : Key) (version n : ℕ) → HasNoZero k.1 → HasNoZero l.1 → version < 2 ^ 64 → n < 2 ^ 64
    → is_between (span_label k 0) (span_label k version) (span_label l n) ≡ (is_eq (key_cmp l k) && is_lt (nat_cmp n version))
is_hidden k l version n k_plain l_plain version_fits n_fits =
    (λ i. is_ge (span_order l k n 0 l_plain k_plain n_fits (omega arith) i) && is_lt (span_order l k n version l_plain k_plain n_fits version_fits i))
    ∙ between (key_cmp l k) (nat_cmp n 0) (nat_cmp n version) (not_below n)
  where
    between : (o a b : Ordering) → is_ge a ≡ true → (is_ge (ordering_then o a) && is_lt (ordering_then o b)) ≡ (is_eq o && is_lt b)
    between Less a b above = refl
    between Equal a b above = ap (λ x. x && is_lt b) above
    between Greater a b above = refl

pub not_equal : (o : Ordering) → is_lt o ≡ true → o ≡ Equal → ⊥
not_equal Less lt is = absurd cc
not_equal Equal lt is = absurd cc
not_equal Greater lt is = absurd cc

-- entries of rows whose labels tell the rows' keys differ, where the rows stand in order
module _ (entry : RowChange → Entry) (tells : (x y : RowChange) → (entry x).0 ≡ (entry y).0 → key_label (change_key x) ≡ key_label (change_key y)) where
  same_key : (x y : RowChange) → key_label (change_key x) ≡ key_label (change_key y) → key_cmp (change_key x) (change_key y) ≡ Equal
  same_key x y same = sym (ordered [] (change_key x) (change_key y)) ∙ ap (bytes_cmp (key_label (change_key x))) (sym same) ∙ ordered [] (change_key x) (change_key x) ∙ tied_itself key_total (change_key x)

  none : (row : RowChange) (others : List RowChange) → below_all key_cmp (change_key row) (keyed change_key others) ≡ true → found (entry row).0 (map entry others) ≡ None
  none row [] below = refl
  none row (other ∷ others) below =
      let parts = and_parts (is_lt (key_cmp (change_key row) (change_key other))) (below_all key_cmp (change_key row) (keyed change_key others)) below in
      let apart : eq_by_cmp bytes_cmp (entry row).0 (entry other).0 ≡ false =
      false_from_ne_true _ (λ tie. not_equal (key_cmp (change_key row) (change_key other)) parts.0 (same_key row other (tells row other (tied_same _ _ tie)))) in
      rw apart (none row others parts.1)

  pub rows_differ_by : (rows : List RowChange) → AreChanges rows → Differ (map entry rows)
  rows_differ_by [] are = tt
  rows_differ_by (row ∷ rows) are =
      let parts = and_parts (below_all key_cmp (change_key row) (keyed change_key rows)) (is_sorted key_cmp (keyed change_key rows)) are in
      (none row rows parts.0, rows_differ_by rows parts.1)

pub spans_as_rows : (version : ℕ) (rows : List RowChange) → map span_entry (spans_from version rows) ≡ map (row_span version) rows
spans_as_rows version [] = refl
spans_as_rows version (row ∷ rows) = ap (λ es. row_span version row ∷ es) (spans_as_rows version rows)

pub spans_differ : (version : ℕ) (rows : List RowChange) → AreChanges rows → Differ (map span_entry (spans_from version rows))
spans_differ version rows are =
    subst Differ (sym (spans_as_rows version rows))
    (rows_differ_by (row_span version) (λ x y same. (same_parts (key_label (change_key x)) (key_label (change_key y)) (0 ∷ number version) (0 ∷ number version) refl same).0) rows are)

pub names_differ : (version : ℕ) (rows : List RowChange) → AreChanges rows → Differ (map (name_entry version) rows)
names_differ version rows are =
    rows_differ_by (name_entry version) (λ x y same. (same_ends (number version) (number version) (key_label (change_key x)) (key_label (change_key y)) refl same).1) rows are
