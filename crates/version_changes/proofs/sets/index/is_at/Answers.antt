use Rattle.std.proofs.Common.{◌≡◌, ◌<◌, get_or, length, sym, ap, subst, ◌∙◌, arith}
use Rattle.std.proofs.lemmas.List.{get_or_default}
use Rattle.std.specs.declared.cmp.Ordering.TheVariants.{Equal}
use Rattle.reference_rules.proofs.KeyOrder.{equal_from_is_eq}
use Rattle.roster_types.specs.Keys.{Key, key_cmp}
use Rattle.roster_types.specs.declared.set_row.SetRow.{SetRow}
use Rattle.roster_values.specs.Kinds.{place_of_kind}
use Rattle.version_changes.proofs.IndexLemmas.{found_somewhere}
use Rattle.version_changes.specs.sets.Applying.{set_key}
use Rattle.version_changes.proofs.sets.index.is_at.Goals as goal

-- the row at the place has the key
pub returns-clause-listed : goal.returns-clause-listed
returns-clause-listed c = λ yes.
    let k : Key = (place_of_kind c.args.kind, c.args.id.now) in
    let rows = c.args.rows.now in
    let lt : c.args.place < length rows = omega arith in
    let found = get_or rows c.args.place c.index-rows-place.result in
    let key : (place_of_kind c.kind.result, c.id.result.now) ≡ set_key found = λ i. (place_of_kind (c.kind.ensures.kind i), c.id.ensures i) in
    let equal : key_cmp (set_key found) k ≡ Equal = ap (λ (j : Key). key_cmp j k) (sym key) ∙ sym c.compare.ensures ∙ equal_from_is_eq _ (sym c.is_eq.ensures ∙ yes) in
    found_somewhere rows k c.args.place c.requires lt (λ (d : SetRow). subst (λ (r : SetRow). key_cmp (set_key r) k ≡ Equal) (get_or_default rows c.args.place c.index-rows-place.result d lt) equal)
