-- How many rows of a kind stand where changes lie over rows.
use Rattle.std.proofs.Common.{◌≡◌, ℕ, ◌+◌, List, [], ◌∷◌, not, ◌&&◌, ◌==◌, cond, Option, Some, None, refl, sym, ap, ◌∙◌}
use Rattle.std.proofs.Common.{add-zero, arith}
use Rattle.std.proofs.Math.Bool.{and-false, and-true}
use Rattle.std.specs.Prelude.{is_some}
use Rattle.std.specs.declared.cmp.Ordering.TheVariants.{Less, Equal, Greater}
use Rattle.std.specs.Ordering.{is_eq}
use Rattle.std.specs.Option.{option_or}
use Rattle.reference_rules.proofs.KeyOrder.{and_first, and_second, key_exact}
use Rattle.roster_types.specs.Keys.{Ascends, Key, count_of, is_of_kind, key_cmp, look_up}
use Rattle.roster_values.specs.Kinds.{place_of_kind}
use Rattle.roster_values.specs.declared.kind.Kind.{Kind}
use Rattle.version_changes.specs.sets.Steps.{added, is_added}
use Rattle.version_core.proofs.KindCounts.{count-cons}
use Rattle.version_core.proofs.LookUps.{below_trans, none_above}
use Rattle.version_core.proofs.OrderLemmas.{Ascends-overlaid, look_up-overlaid}
use Rattle.version_core.specs.Changes.{change_key, rows_of}
use Rattle.version_core.specs.Order.{by_order, overlaid, put}
use Rattle.version_core.specs.declared.row_change.RowChange.{RowChange}

-- 1 where a change is of the kind and no row has its key
abbrev newly : Kind → RowChange → Option RowChange → ℕ
newly kind change stored = cond (is_of_kind kind change.row && not (is_some stored)) 1 0

swapped : (a b : ℕ) → a + b ≡ b + a
swapped a b = omega arith

regrouped : (a b c d : ℕ) → b ≡ c + d → a + b ≡ (a + c) + d
regrouped a b c d e = omega arith

newly_none : (kind : Kind) (change : RowChange) → newly kind change None ≡ cond (is_of_kind kind change.row) 1 0
newly_none kind change = ap (λ b. cond b 1 0) (and-true (is_of_kind kind change.row))

newly_some : (kind : Kind) (change stored : RowChange) → newly kind change (Some stored) ≡ 0
newly_some kind change stored = ap (λ b. cond b 1 0) (and-false (is_of_kind kind change.row))

count-put : (kind : Kind) (change : RowChange) (rows : List RowChange) → Ascends change_key rows → count_of kind (rows_of (put change_key change rows)) ≡ count_of kind (rows_of rows) + newly kind change (look_up change_key (change_key change) rows)
count-put kind change [] up = count-cons (is_of_kind kind) change.row [] ∙ swapped _ _ ∙ ap (λ n. 0 + n) (sym (newly_none kind change))
count-put kind change (y ∷ rows) up =
    elim (key_cmp (change_key change) (change_key y)) as (λ o. key_cmp (change_key change) (change_key y) ≡ o → count_of kind (rows_of (by_order o (change ∷ y ∷ rows) (change ∷ rows) (y ∷ put change_key change rows))) ≡ count_of kind (rows_of (y ∷ rows)) + newly kind change (cond (is_eq o) (Some y) (look_up change_key (change_key change) rows))) [
      | Less ↦ λ less.
          let none = none_above change_key (change_key change) rows (below_trans change_key (change_key change) (change_key y) rows less (and_first _ _ up)) in
          count-cons (is_of_kind kind) change.row (rows_of (y ∷ rows)) ∙ swapped _ _ ∙ ap (λ n. count_of kind (rows_of (y ∷ rows)) + n) (sym (newly_none kind change) ∙ ap (newly kind change) (sym none))
      | Equal ↦ λ same.
          count-cons (is_of_kind kind) change.row (rows_of rows) ∙ ap (λ (k : Key). cond (k.0 == place_of_kind kind) 1 0 + count_of kind (rows_of rows)) (key_exact _ _ same)
          ∙ sym (count-cons (is_of_kind kind) y.row (rows_of rows)) ∙ sym (add-zero _) ∙ ap (λ n. count_of kind (rows_of (y ∷ rows)) + n) (sym (newly_some kind change y))
      | Greater ↦ λ _.
          count-cons (is_of_kind kind) y.row (rows_of (put change_key change rows)) ∙ regrouped _ _ _ _ (count-put kind change rows (and_second _ _ up)) ∙ ap (λ n. n + newly kind change (look_up change_key (change_key change) rows)) (sym (count-cons (is_of_kind kind) y.row (rows_of rows)))
    ] refl

-- the rows that stand, and those that the changes add
pub count-overlaid : (kind : Kind) (base changes : List RowChange) → Ascends change_key base → Ascends change_key changes → count_of kind (rows_of (overlaid change_key base changes)) ≡ count_of kind (rows_of base) + added kind base changes
count-overlaid kind base [] up up' = sym (add-zero _)
count-overlaid kind base (change ∷ changes) up up' =
    let k = change_key change in
    let under : look_up change_key k (overlaid change_key base changes) ≡ look_up change_key k base =
    look_up-overlaid change_key k base changes ∙ ap (λ (o : Option RowChange). option_or o (look_up change_key k base)) (none_above change_key k changes (and_first _ _ up')) in
    count-put kind change (overlaid change_key base changes) (Ascends-overlaid change_key base changes up)
    ∙ ap (λ o. count_of kind (rows_of (overlaid change_key base changes)) + newly kind change o) under
    ∙ later _ _ _ _ (count-overlaid kind base changes up (and_second _ _ up'))
    ∙ ap (λ n. count_of kind (rows_of base) + n) (sym (count-cons (is_added kind base) change changes))
  where
    later : (a b c d : ℕ) → a ≡ b + c → a + d ≡ b + (d + c)
    later a b c d e = omega arith
