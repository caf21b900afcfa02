use Rattle.roster_values.specs.Kinds.{place_of_kind}
use Rattle.std.proofs.Common.{◌≡◌, ◌<◌, length, sym, ap, subst, ◌∙◌, arith}
use Rattle.std.proofs.lemmas.List.{get_or_default}
use Rattle.std.specs.Ordering.{is_eq}
use Rattle.std.specs.declared.cmp.Ordering.TheVariants.{Equal}
use Rattle.reference_rules.proofs.KeyOrder.{equal_from_is_eq}
use Rattle.roster_types.specs.Keys.{Key, key_cmp}
use Rattle.version_core.specs.History.{history_key}
use Rattle.version_core.specs.declared.history.History.{History}
use Rattle.version_core.proofs.histories.is_at.Goals as goal

pub returns : goal.returns
returns c = λ yes.
    let k : Key = (place_of_kind c.args.kind, c.args.id.now) in
    let histories = c.args.histories.now in
    let found = c.index-histories-place.result in
    let lt : c.args.place < length histories = omega arith in
    let equal : key_cmp (history_key found) k ≡ Equal = equal_from_is_eq _ (ap is_eq (sym c.compare.ensures) ∙ sym c.is_eq.ensures ∙ yes) in
    record {
      bound = lt;
      same = λ (d : History). subst (λ (h : History). key_cmp (history_key h) k ≡ Equal) (c.index-histories-place.is ∙ get_or_default histories c.args.place found d lt) equal;
    }
