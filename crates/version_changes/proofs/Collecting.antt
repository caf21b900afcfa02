-- What is collected from rows, of each row one thing at most, which has the row's key.
use Rattle.std.proofs.Common.{◌≡◌, List, [], ◌∷◌, ◌++◌, true, false, cond, Option, Some, None, option_map, refl, sym}
use Rattle.std.proofs.Common.{ap, subst, ◌∙◌, ℤ}
use Rattle.std.specs.FinMap.Entries as entries
use Rattle.std.specs.List.{flat_map}
use Rattle.std.specs.Option.{option_and_then, option_to_list}
use Rattle.std.specs.Ordering.{is_eq, is_lt}
use Rattle.std.proofs.lemmas.Bool.{and_from}
use Rattle.reference_rules.proofs.KeyOrder.{and_first, and_second, equal_from_is_eq, found_key, key_exact}
use Rattle.roster_types.specs.Keys.{Ascends, Key, key_cmp, keyed, look_up, row_key}
use Rattle.roster_types.specs.Records.{Record}
use Rattle.roster_types.specs.Sets.{SetRecord}
use Rattle.roster_types.specs.declared.set_row.SetRow.{SetRow}
use Rattle.version_changes.specs.sets.Applying.{is_left_out, marked, set_key}
use Rattle.version_changes.specs.sets.Steps.{mark_at, mark_of, marks_of}
use Rattle.version_core.proofs.RowsOf.{is_sorted-rows_of, look_up-rows_of}
use Rattle.version_core.specs.Changes.{AreChanges, change_key, rows_of}
use Rattle.version_core.specs.declared.row_change.RowChange.{RowChange}

module _ (at : Key → Option RowChange) (has : (k : Key) (x : RowChange) → at k ≡ Some x → change_key x ≡ k) where
  abbrev pub collected : List Record → List RowChange
  collected rows = flat_map (λ row. option_to_list (at (row_key row))) rows

  below-collected : (k : Key) (rows : List Record) → entries.below_all key_cmp k (keyed row_key rows) ≡ true → entries.below_all key_cmp k (keyed change_key (collected rows)) ≡ true
  below-collected k [] below = refl
  below-collected k (row ∷ rows) below =
      let rest = below-collected k rows (and_second _ _ below) in
      elim (at (row_key row)) as (λ o. at (row_key row) ≡ o → entries.below_all key_cmp k (keyed change_key (option_to_list o ++ collected rows)) ≡ true) [
        | None ↦ λ _. rest
        | Some x ↦ λ e. and_from _ _ (ap (λ l. is_lt (key_cmp k l)) (has (row_key row) x e) ∙ and_first _ _ below) rest
      ] refl

  pub Ascends-collected : (rows : List Record) → Ascends row_key rows → AreChanges (collected rows)
  Ascends-collected [] up = refl
  Ascends-collected (row ∷ rows) up =
      let rest = Ascends-collected rows (and_second _ _ up) in
      elim (at (row_key row)) as (λ o. at (row_key row) ≡ o → AreChanges (option_to_list o ++ collected rows)) [
        | None ↦ λ _. rest
        | Some x ↦ λ e. and_from _ _ (subst (λ k. entries.below_all key_cmp k (keyed change_key (collected rows)) ≡ true) (sym (has (row_key row) x e)) (below-collected (row_key row) rows (and_first _ _ up))) rest
      ] refl

  look_up-collected : (k : Key) (rows : List Record) → look_up change_key k (collected rows) ≡ option_and_then (λ _. at k) (look_up row_key k rows)
  look_up-collected k [] = refl
  look_up-collected k (row ∷ rows) =
      let rest = look_up-collected k rows in
      elim (is_eq (key_cmp k (row_key row))) as (λ b. is_eq (key_cmp k (row_key row)) ≡ b → look_up change_key k (option_to_list (at (row_key row)) ++ collected rows) ≡ option_and_then (λ _. at k) (cond b (Some row) (look_up row_key k rows))) [
        | true ↦ λ t.
            let same : k ≡ row_key row = key_exact _ _ (equal_from_is_eq _ t) in
            elim (at (row_key row)) as (λ o. at (row_key row) ≡ o → look_up change_key k (option_to_list o ++ collected rows) ≡ at k) [
              | None ↦ λ e. rest ∙ elim (look_up row_key k rows) as (λ o. option_and_then (λ _. at k) o ≡ at k) [ None ↦ sym (ap at same ∙ e) | Some _ ↦ refl ]
              | Some x ↦ λ e. ap (λ b. cond b (Some x) (look_up change_key k (collected rows))) (ap (λ l. is_eq (key_cmp k l)) (has (row_key row) x e) ∙ t) ∙ sym (ap at same ∙ e)
            ] refl
        | false ↦ λ f. elim (at (row_key row)) as (λ o. at (row_key row) ≡ o → look_up change_key k (option_to_list o ++ collected rows) ≡ option_and_then (λ _. at k) (look_up row_key k rows)) [
          | None ↦ λ _. rest
          | Some x ↦ λ e. ap (λ b. cond b (Some x) (look_up change_key k (collected rows))) (ap (λ l. is_eq (key_cmp k l)) (has (row_key row) x e) ∙ f) ∙ rest
        ] refl
      ] refl

module _ (set : SetRecord) (at : ℤ) (index : List SetRow) (rows : List RowChange) where
  mark_key : (listed : Option SetRow) (stored mark : RowChange) → mark_of set at listed stored ≡ Some mark → change_key mark ≡ change_key stored
  mark_key (Some listed) stored mark e = cc
  mark_key None stored mark e =
      elim (is_left_out set stored) as (λ b. cond b (Some (marked at stored)) None ≡ Some mark → change_key mark ≡ change_key stored) [
        | true ↦ λ some. let is : marked at stored ≡ mark = cc in ap change_key (sym is)
        | false ↦ λ none. cc
      ] e

  mark_has : (k : Key) (mark : RowChange) → mark_at set at index rows k ≡ Some mark → change_key mark ≡ k
  mark_has k mark e =
      elim (look_up change_key k rows) as (λ o. look_up change_key k rows ≡ o → option_and_then (mark_of set at (look_up set_key k index)) o ≡ Some mark → change_key mark ≡ k) [
        | None ↦ λ _ none. cc
        | Some stored ↦ λ here some. mark_key (look_up set_key k index) stored mark some ∙ found_key change_key k rows stored here
      ] refl e

  pub marks_ascend : AreChanges rows → AreChanges (marks_of set at index rows (rows_of rows))
  marks_ascend up = Ascends-collected (mark_at set at index rows) mark_has (rows_of rows) (is_sorted-rows_of rows ∙ up)

  pub look_up-marks : (k : Key) → look_up change_key k (marks_of set at index rows (rows_of rows)) ≡ mark_at set at index rows k
  look_up-marks k =
      look_up-collected (mark_at set at index rows) mark_has k (rows_of rows) ∙ ap (option_and_then (λ _. mark_at set at index rows k)) (look_up-rows_of k rows)
      ∙ elim (look_up change_key k rows) as (λ o. option_and_then (λ _. option_and_then (mark_of set at (look_up set_key k index)) o) (option_map (λ change. change.row) o) ≡ option_and_then (mark_of set at (look_up set_key k index)) o) [ None ↦ refl | Some _ ↦ refl ]
