-- Ids beside which two versions are the same cover what differs of them.
use Rattle.std.proofs.Common.{◌≡◌, ◌==◌, ℕ, List, Bool, true, false, cond, filter, option_map, Option, None, Some, refl}
use Rattle.std.proofs.Common.{sym, ap, ◌∙◌, arith}
use Rattle.std.specs.Prelude.{option_and_then}
use Rattle.std.proofs.lemmas.Bool.Decides.{nat_tests}
use Rattle.reference_rules.proofs.KeyOrder.{found_key}
use Rattle.roster_types.specs.Keys.{Ascends, Key, is_of_kind, look_up, row_key}
use Rattle.roster_types.specs.Records.{Record}
use Rattle.roster_values.specs.Kinds.{place_of_kind}
use Rattle.roster_values.specs.declared.kind.Kind.{Kind}
use Rattle.row_deltas.specs.Deltas.{Cover}
use Rattle.version_core.proofs.LookUps.{if_kept, look_up-filter}
use Rattle.version_core.proofs.RowsOf.{is_sorted-rows_of, look_up-rows_of}
use Rattle.version_core.specs.Changes.{change_key, rows_of}
use Rattle.version_core.specs.Spans.{AreSameBeside, key_in}
use Rattle.version_core.specs.declared.row_change.RowChange.{RowChange}

module _ (kind : Kind) where
  -- what is found under a key of the kind among the kind's rows is found among all
  found : (k : Key) (changes : List RowChange) → Ascends change_key changes → look_up row_key k (filter (is_of_kind kind) (rows_of changes)) ≡ option_and_then (if_kept row_key (is_of_kind kind)) (option_map (λ change. change.row) (look_up change_key k changes))
  found k changes up =
      look_up-filter row_key (is_of_kind kind) k (rows_of changes) (is_sorted-rows_of changes ∙ up)
      ∙ ap (option_and_then (if_kept row_key (is_of_kind kind))) (look_up-rows_of k changes)

  -- and none is found under a key of another
  none_found : (k : Key) (rows : List Record) → (k.0 == place_of_kind kind) ≡ false → Ascends row_key rows → look_up row_key k (filter (is_of_kind kind) rows) ≡ None
  none_found k rows other up = look_up-filter row_key (is_of_kind kind) k rows up ∙ by (look_up row_key k rows) refl
    where
      by : (o : Option Record) → look_up row_key k rows ≡ o → option_and_then (if_kept row_key (is_of_kind kind)) o ≡ None
      by None e = refl
      by (Some row) e = ap (λ b. cond b (Some row) None) (ap (λ (q : Key). q.0 == place_of_kind kind) (found_key row_key k rows row e) ∙ other)

  pub cover_of : (ids : List (List ℕ)) (before after : List RowChange) → Ascends change_key before → Ascends change_key after → AreSameBeside kind ids before after
      → Cover kind (filter (is_of_kind kind) (rows_of before)) (filter (is_of_kind kind) (rows_of after)) ids
  cover_of ids before after up up' same = λ k none. by k none (k.0 == place_of_kind kind) refl
    where
      by : (k : Key) → look_up (key_in kind) k ids ≡ None → (b : Bool) → (k.0 == place_of_kind kind) ≡ b
          → look_up row_key k (filter (is_of_kind kind) (rows_of before)) ≡ look_up row_key k (filter (is_of_kind kind) (rows_of after))
      by k none true of =
          let place : k.0 ≡ place_of_kind kind = grind (arith, nat_tests) in
          let is : k ≡ key_in kind k.1 = λ i. (place i, k.1) in
          let here : look_up change_key k before ≡ look_up change_key k after =
          ap (λ q. look_up change_key q before) is ∙ same k.1 (ap (λ q. look_up (key_in kind) q ids) (sym is) ∙ none) ∙ ap (λ q. look_up change_key q after) (sym is) in
          found k before up ∙ ap (λ o. option_and_then (if_kept row_key (is_of_kind kind)) (option_map (λ change. change.row) o)) here ∙ sym (found k after up')
      by k none false other =
          none_found k (rows_of before) other (is_sorted-rows_of before ∙ up) ∙ sym (none_found k (rows_of after) other (is_sorted-rows_of after ∙ up'))
