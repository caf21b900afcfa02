-- The marks of the rows of a kind, one row after another.
use Rattle.std.proofs.Common.{◌≡◌, List, [], ◌∷◌, ◌++◌, Bool, true, false, cond, eqb, filter, find, Option, Some, None}
use Rattle.std.proofs.Common.{option_map, ℕ, ℤ, refl, sym, ap, subst, ◌∙◌, arith}
use Rattle.std.specs.Prelude.{◌&&◌, ◌==◌, is_some}
use Rattle.std.specs.List.{list_any}
use Rattle.std.proofs.lemmas.Bool.Decides.{nat_tests}
use Rattle.std.specs.Option.{option_and_then, option_to_list}
use Rattle.std.specs.Ordering.{is_eq}
use Rattle.std.proofs.lemmas.Cmp.{tied_itself}
use Rattle.reference_rules.proofs.KeyOrder.{and_first, and_second, equal_from_is_eq, found_key, key_exact, key_total}
use Rattle.reference_rules.proofs.Rest.{rest_at, rest_none, rest_of}
use Rattle.roster_types.specs.Keys.{Key, is_of_kind, key_cmp, look_up, row_key}
use Rattle.roster_types.specs.Records.{Record}
use Rattle.roster_types.specs.declared.set.SetPart.{SetPart}
use Rattle.roster_values.specs.Kinds.{place_of_kind}
use Rattle.roster_types.specs.Sets.{SetRecord}
use Rattle.roster_types.specs.declared.set_row.SetRow.{SetRow}
use Rattle.roster_values.specs.declared.kind.Kind.{Kind}
use Rattle.version_changes.specs.sets.Applying.{is_active, is_bulk, is_own, is_whole, marked, set_key}
use Rattle.version_changes.specs.sets.Steps.{mark_at, mark_of, marks_of}
use Rattle.version_core.proofs.LookUps.{none_above}
use Rattle.version_core.proofs.RowsOf.{find-rows_of, is_sorted-rows_of}
use Rattle.version_core.specs.Changes.{AreChanges, change_key, is_next, rows_of}
use Rattle.version_core.specs.declared.row_change.RowChange.{RowChange}

-- the row that is found first is the one that its key finds
found_stands : (p : RowChange → Bool) (rows : List RowChange) (x : RowChange) → AreChanges rows → find p rows ≡ Some x → look_up change_key (change_key x) rows ≡ Some x
found_stands p [] x up e = cc
found_stands p (y ∷ rows) x up e =
    elim (p y) as (λ b. cond b (Some y) (find p rows) ≡ Some x → look_up change_key (change_key x) (y ∷ rows) ≡ Some x) [
      | true ↦ λ same. let is : y ≡ x = cc in
          subst (λ z. look_up change_key (change_key z) (y ∷ rows) ≡ Some z) is (ap (λ o. cond (is_eq o) (Some y) (look_up change_key (change_key y) rows)) (tied_itself key_total (change_key y)))
      | false ↦ λ later.
          let rest : look_up change_key (change_key x) rows ≡ Some x = found_stands p rows x (and_second _ _ up) later in
          elim (is_eq (key_cmp (change_key x) (change_key y))) as (λ b. is_eq (key_cmp (change_key x) (change_key y)) ≡ b → cond b (Some y) (look_up change_key (change_key x) rows) ≡ Some x) [
            | true ↦ λ t.
                let none = none_above change_key (change_key y) rows (and_first _ _ up) in
                let gone : look_up change_key (change_key x) rows ≡ None = ap (λ k. look_up change_key k rows) (key_exact _ _ (equal_from_is_eq _ t)) ∙ none in
                cc
            | false ↦ λ _. rest
          ] refl
    ] e

module _ (set : SetRecord) (at : ℤ) (index : List SetRow) (rows : List RowChange) (up : AreChanges rows) (kind : Kind) (after : Option (List ℕ)) where
  module _ (stored : RowChange) (here : Some stored ≡ find (λ change. is_next kind after change.row) rows) where
    pub rest_begins : rest_of kind after (rows_of rows) ≡ stored.row ∷ rest_of kind (Some stored.row.id) (rows_of rows)
    rest_begins = rest_at kind after (rows_of rows) stored.row (is_sorted-rows_of rows ∙ up) (find-rows_of (is_next kind after) rows ∙ ap (option_map (λ (c : RowChange). c.row)) (sym here))

    pub marks_begin : marks_of set at index rows (rest_of kind after (rows_of rows)) ≡ option_to_list (mark_of set at (look_up set_key (change_key stored) index) stored) ++ marks_of set at index rows (rest_of kind (Some stored.row.id) (rows_of rows))
    marks_begin =
        ap (marks_of set at index rows) rest_begins
        ∙ ap (λ o. option_to_list (option_and_then (mark_of set at (look_up set_key (change_key stored) index)) o) ++ marks_of set at index rows (rest_of kind (Some stored.row.id) (rows_of rows))) (found_stands (λ change. is_next kind after change.row) rows stored up (sym here))

  pub marks_end : None ≡ find (λ (change : RowChange). is_next kind after change.row) rows → marks_of set at index rows (rest_of kind after (rows_of rows)) ≡ []
  marks_end none = ap (marks_of set at index rows) (rest_none kind after (rows_of rows) (find-rows_of (is_next kind after) rows ∙ ap (option_map (λ (c : RowChange). c.row)) (sym none)))

-- where nothing is found, nothing stands
pub none_found : (o : Option SetRow) → is_some o ≡ false → o ≡ None
none_found None e = refl
none_found (Some x) e = cc

-- where no part of the set lists all rows of a kind none of them is marked
module _ (set : SetRecord) (at : ℤ) (index : List SetRow) (rows : List RowChange) (kind : Kind) (part : is_whole set.parts kind ≡ false) where
  left_in : (stored : RowChange) → place_of_kind stored.row.kind ≡ place_of_kind kind → (o : Option SetRow) → mark_of set at o stored ≡ None
  left_in stored same (Some listed) = refl
  left_in stored same None =
      let whole : is_whole set.parts stored.row.kind ≡ false = ap (λ (n : ℕ). list_any (λ (p : SetPart). (place_of_kind p.kind == n) && is_bulk p.mode) set.parts) same ∙ part in
      ap (λ b. cond (b && (is_own set.feed stored.owner && is_active stored.row.status)) (Some (marked at stored)) None) whole

  unmarked : (row : Record) → is_of_kind kind row ≡ true → mark_at set at index rows (row_key row) ≡ None
  unmarked row of = each (look_up change_key (row_key row) rows) refl
    where
      each : (o : Option RowChange) → look_up change_key (row_key row) rows ≡ o → option_and_then (mark_of set at (look_up set_key (row_key row) index)) o ≡ None
      each None e = refl
      each (Some stored) e =
          let key = found_key change_key (row_key row) rows stored e in
          let tested : eqb (place_of_kind row.kind) (place_of_kind kind) ≡ true = of in
          let here : place_of_kind row.kind ≡ place_of_kind kind = grind (arith, nat_tests) in
          left_in stored (ap (λ (k : Key). k.0) key ∙ here) (look_up set_key (row_key row) index)

  pub none_marked : (those : List Record) → marks_of set at index rows (filter (is_of_kind kind) those) ≡ []
  none_marked [] = refl
  none_marked (row ∷ those) =
      elim (is_of_kind kind row) as (λ b. is_of_kind kind row ≡ b → marks_of set at index rows (cond b (row ∷ filter (is_of_kind kind) those) (filter (is_of_kind kind) those)) ≡ []) [
        | true ↦ λ of. λ i. option_to_list (unmarked row of i) ++ none_marked those i
        | false ↦ λ _. none_marked those
      ] refl
