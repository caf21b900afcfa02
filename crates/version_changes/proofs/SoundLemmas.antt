-- Sound rows under changes.
use Rattle.std.proofs.Common.{◌≡◌, ◌==◌, ℕ, suc, arith, get_or, length, List, [], ◌∷◌, Bool, true, false, cond, Option}
use Rattle.std.proofs.Common.{Some, None, option_map, refl, sym, ap, subst, ◌∙◌}
use Rattle.std.specs.List.{flat_map, list_all, list_any}
use Rattle.std.specs.Option.{option_map_or, option_or}
use Rattle.std.specs.Ordering.{is_eq}
use Rattle.std.proofs.lemmas.Bool.Decides.{nat_tests}
use Rattle.std.proofs.lemmas.Cmp.{tied_itself}
use Rattle.std.proofs.lemmas.Slice.Eq.{bytes_eq-Decides}
use Rattle.reference_rules.proofs.KeyOrder.{and_first, and_second, found_key, key_total}
use Rattle.reference_rules.proofs.Sound.{faults_of_changed, in_no_cycle, none_passes_from}
use Rattle.reference_rules.specs.Faults.{AreAmong, faults_of, is_cycle, row_faults, type_in}
use Rattle.reference_rules.specs.declared.ref_fault.RefFault.{RefFault}
use Rattle.roster_types.specs.Keys.{Ascends, Key, key_cmp, look_up, row_key}
use Rattle.roster_types.specs.Records.{Record}
use Rattle.roster_values.specs.Kinds.{all_kinds}
use Rattle.version_changes.specs.sets.Applying.{too_many, unsound}
use Rattle.version_changes.specs.sets.Steps.{is_one_type, keeps_type, rows_refusal}
use Rattle.version_changes.specs.declared.sets.publish_fault.PublishFault.{PublishFault}
use Rattle.version_core.proofs.OrderLemmas.{Ascends-overlaid, look_up-overlaid, same_from_look_up}
use Rattle.version_core.proofs.Places.{look_up-at}
use Rattle.version_core.proofs.RowsOf.{is_sorted-rows_of, look_up-rows_of}
use Rattle.version_core.specs.Changes.{AreChanges, change_key, rows_of}
use Rattle.version_core.specs.Order.{overlaid}
use Rattle.version_core.specs.declared.row_change.RowChange.{RowChange}

pub none_from_empty : {X : Type 0} (xs : List X) → (length xs == 0) ≡ true → xs ≡ []
none_from_empty [] e = refl
none_from_empty (x ∷ xs) e = let no : (suc (length xs) == 0) ≡ false = grind (arith, nat_tests) in cc

one_type : (o p : Option (List ℕ)) → is_one_type o p ≡ true → o ≡ p
one_type None None e = refl
one_type None (Some p) e = cc
one_type (Some o) None e = cc
one_type (Some o) (Some p) e = ap (λ w. Some w) ((bytes_eq-Decides o p).0 e)

-- what all pass, one that is found passes
found_passes : (p : RowChange → Bool) (k : Key) (changes : List RowChange) (change : RowChange) → list_all p changes ≡ true → look_up change_key k changes ≡ Some change → p change ≡ true
found_passes p k [] change all e = cc
found_passes p k (x ∷ changes) change all e =
    elim (is_eq (key_cmp k (change_key x))) as (λ b. cond b (Some x) (look_up change_key k changes) ≡ Some change → p change ≡ true) [
      | true ↦ λ same. let is : x ≡ change = cc in subst (λ c. p c ≡ true) is (and_first _ _ all)
      | false ↦ λ later. found_passes p k changes change (and_second _ _ all) later
    ] e

module _ (rows changes : List RowChange) where
  abbrev new : List Record
  new = rows_of (overlaid change_key rows changes)

  under : (k : Key) → look_up row_key k new ≡ option_map (λ change. change.row) (option_or (look_up change_key k changes) (look_up change_key k rows))
  under k = look_up-rows_of k (overlaid change_key rows changes) ∙ ap (option_map (λ (change : RowChange). change.row)) (look_up-overlaid change_key k rows changes)

  -- a changed row stands among the new ones
  stands : (k : Key) (row : Record) → look_up row_key k (rows_of changes) ≡ Some row → look_up row_key k new ≡ Some row
  stands k row e =
      under k ∙ elim (look_up change_key k changes) as (λ o. option_map (λ (change : RowChange). change.row) o ≡ Some row → option_map (λ (change : RowChange). change.row) (option_or o (look_up change_key k rows)) ≡ Some row) [
        | None ↦ λ no. cc
        | Some change ↦ λ here. here
      ] (sym (look_up-rows_of k changes) ∙ e)

  -- and so does each of them
  pub among : AreChanges changes → AreAmong new (rows_of changes)
  among up i d lt =
      let rise : Ascends row_key (rows_of changes) = is_sorted-rows_of changes ∙ up in
      let row = get_or (rows_of changes) i d in
      stands (row_key row) row (look_up-at row_key (rows_of changes) (row_key row) i d rise lt (tied_itself key_total (row_key row)))

  module _ (keep : list_all (keeps_type rows) changes ≡ true) where
    keeps : (k : Key) (change : RowChange) (stored : Record) → look_up change_key k changes ≡ Some change → look_up row_key k (rows_of rows) ≡ Some stored → type_in change.row ≡ type_in stored
    keeps k change stored here stood =
        let at : look_up change_key (change_key change) rows ≡ look_up change_key k rows = ap (λ k. look_up change_key k rows) (found_key change_key k changes change here) in
        let kept : option_map_or (λ (stored : RowChange). is_one_type (type_in change.row) (type_in stored.row)) (look_up change_key k rows) true ≡ true =
        ap (λ o. option_map_or (λ (stored : RowChange). is_one_type (type_in change.row) (type_in stored.row)) o true) (sym at) ∙ found_passes (keeps_type rows) k changes change keep here in
        elim (look_up change_key k rows) as (λ o. option_map (λ (c : RowChange). c.row) o ≡ Some stored → option_map_or (λ (stored : RowChange). is_one_type (type_in change.row) (type_in stored.row)) o true ≡ true → type_in change.row ≡ type_in stored) [
          | None ↦ λ no _. cc
          | Some c ↦ λ is same. let e : c.row ≡ stored = cc in one_type (type_in change.row) (type_in c.row) same ∙ ap type_in e
        ] (sym (look_up-rows_of k rows) ∙ stood) kept

    type_stays : (k : Key) (row stored : Record) → look_up row_key k (rows_of changes) ≡ Some row → look_up row_key k (rows_of rows) ≡ Some stored → type_in row ≡ type_in stored
    type_stays k row stored here stood =
        elim (look_up change_key k changes) as (λ o. look_up change_key k changes ≡ o → option_map (λ (c : RowChange). c.row) o ≡ Some row → type_in row ≡ type_in stored) [
          | None ↦ λ _ no. cc
          | Some change ↦ λ at is. let e : change.row ≡ row = cc in ap type_in (sym e) ∙ keeps k change stored at stood
        ] refl (sym (look_up-rows_of k changes) ∙ here)

  either : (o p : Option RowChange) → option_map (λ (c : RowChange). c.row) (option_or o p) ≡ option_or (option_map (λ (c : RowChange). c.row) o) (option_map (λ (c : RowChange). c.row) p)
  either None p = refl
  either (Some c) p = refl

  over : (k : Key) → look_up row_key k new ≡ option_or (look_up row_key k (rows_of changes)) (look_up row_key k (rows_of rows))
  over k = under k ∙ either (look_up change_key k changes) (look_up change_key k rows) ∙ (λ i. option_or (sym (look_up-rows_of k changes) i) (sym (look_up-rows_of k rows) i))

  -- where the changed rows tell of no cycle, what is broken is of them
  pub told_by_changes : AreChanges changes → Ascends row_key new → list_all (keeps_type rows) changes ≡ true → faults_of (rows_of rows) ≡ []
      → list_any is_cycle (flat_map (row_faults new) (rows_of changes)) ≡ false → faults_of new ≡ flat_map (row_faults new) (rows_of changes)
  told_by_changes sorted up keep sound none =
      faults_of_changed (rows_of rows) new (rows_of changes) sound up (is_sorted-rows_of changes ∙ sorted) over (type_stays keep) (λ k row here.
      in_no_cycle new row (ap (λ l. look_up row_key l new) (found_key row_key k (rows_of changes) row here) ∙ stands k row here) (none_passes_from (row_faults new) is_cycle (rows_of changes) k row none here))

-- all rows change where none stood
pub all_change : (rows changes : List RowChange) → rows ≡ [] → AreChanges changes
    → faults_of (rows_of (overlaid change_key rows changes)) ≡ flat_map (row_faults (rows_of (overlaid change_key rows changes))) (rows_of changes)
all_change rows changes none sorted =
    let alone : overlaid change_key [] changes ≡ changes =
    same_from_look_up change_key (overlaid change_key [] changes) changes (Ascends-overlaid change_key [] changes refl) sorted (λ k. look_up-overlaid change_key k [] changes ∙ whole (look_up change_key k changes)) in
    ap (λ (listed : List RowChange). flat_map (row_faults (rows_of (overlaid change_key rows changes))) (rows_of listed)) (ap (λ base. overlaid change_key base changes) none ∙ alone)
  where
    whole : (o : Option RowChange) → option_or o None ≡ o
    whole None = refl
    whole (Some c) = refl

sound_from : (faults : List RefFault) → unsound faults ≡ None → faults ≡ []
sound_from [] e = refl
sound_from (fault ∷ faults) e = cc

-- rows that aren't refused are sound
pub sound_from_none : (rows : List Record) → rows_refusal rows ≡ None → faults_of rows ≡ []
sound_from_none rows e = sound_from (faults_of rows) (second (too_many rows all_kinds) (unsound (faults_of rows)) e)
  where
    second : (o p : Option PublishFault) → option_or o p ≡ None → p ≡ None
    second None p e = e
    second (Some fault) p e = cc
