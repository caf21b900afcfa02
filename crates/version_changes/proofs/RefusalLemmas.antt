-- The first refusal, part by part and kind by kind.
use Rattle.std.proofs.Common.{◌≡◌, ℕ, suc, ◌+◌, ◌<◌, ◌≤◌, List, [], ◌∷◌, ◌++◌, length, get_or, drop, drop-cons, false}
use Rattle.std.proofs.Common.{cond, Option, Some, None, refl, sym, ap, ◌∙◌, add-one, arith}
use Rattle.std.specs.Prelude.{nat_lt}
use Rattle.std.specs.List.{flat_map}
use Rattle.std.specs.Option.{option_or}
use Rattle.std.proofs.lemmas.Bool.Decides.{nat_tests}
use Rattle.roster_types.specs.Keys.{count_of, look_up}
use Rattle.roster_types.specs.Records.{Record}
use Rattle.roster_types.specs.declared.set.SetPart.{SetPart}
use Rattle.roster_types.specs.declared.set_row.SetRow.{SetRow}
use Rattle.roster_values.specs.declared.kind.Kind.{Kind}
use Rattle.version_changes.specs.sets.Applying.{fault_of_owner, owned_by_other, set_key, too_many}
use Rattle.version_changes.specs.declared.sets.publish_fault.PublishFault.{PublishFault}
use Rattle.version_changes.specs.declared.sets.publish_fault.PublishFault.TheVariants.{TooManyRows}
use Rattle.version_core.specs.Changes.{change_key}
use Rattle.version_core.specs.Version.{row_limit}
use Rattle.version_core.specs.declared.row_change.RowChange.{RowChange}

-- a kind with few rows is passed over
pub too_many_on : (rows : List Record) (kinds : List Kind) (n : ℕ) (kind d : Kind) → n < length kinds → kind ≡ get_or kinds n d → count_of kind rows ≤ row_limit → too_many rows (drop n kinds) ≡ too_many rows (drop (n + 1) kinds)
too_many_on rows kinds n kind d lt is few =
    let passed : nat_lt row_limit (count_of kind rows) ≡ false = grind (arith, nat_tests) in
    ap (too_many rows) (drop-cons kinds n d lt ∙ ap (λ k. k ∷ drop (suc n) kinds) (sym is))
    ∙ ap (λ b. cond b (Some (TooManyRows kind (count_of kind rows))) (too_many rows (drop (suc n) kinds))) passed
    ∙ ap (λ m. too_many rows (drop m kinds)) (sym (add-one n))

module _ (feed : List ℕ) (rows : List RowChange) where
  owned-append : (xs ys : List SetRow) → owned_by_other feed rows (xs ++ ys) ≡ option_or (owned_by_other feed rows xs) (owned_by_other feed rows ys)
  owned-append [] ys = refl
  owned-append (x ∷ xs) ys =
      elim (fault_of_owner feed x (look_up change_key (set_key x) rows)) as (λ o. option_or o (owned_by_other feed rows (xs ++ ys)) ≡ option_or (option_or o (owned_by_other feed rows xs)) (owned_by_other feed rows ys)) [ None ↦ owned-append xs ys | Some _ ↦ refl ]

  -- what is told of the parts from a place on is told of the part there, or else of those after it
  pub owned_on : (parts : List SetPart) (n : ℕ) (part : SetPart) (o : Option PublishFault) → n < length parts → part ≡ get_or parts n part → o ≡ owned_by_other feed rows part.rows
      → owned_by_other feed rows (flat_map (λ part. part.rows) (drop n parts)) ≡ option_or o (owned_by_other feed rows (flat_map (λ part. part.rows) (drop (n + 1) parts)))
  owned_on parts n part o lt is told =
      ap (λ (ps : List SetPart). owned_by_other feed rows (flat_map (λ part. part.rows) ps)) (drop-cons parts n part lt ∙ ap (λ p. p ∷ drop (suc n) parts) (sym is))
      ∙ owned-append part.rows (flat_map (λ part. part.rows) (drop (suc n) parts))
      ∙ (λ i. option_or (sym told i) (owned_by_other feed rows (flat_map (λ part. part.rows) (drop (sym (add-one n) i) parts))))
