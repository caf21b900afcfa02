use Rattle.std.proofs.Common.{◌≡◌, sym, ap, subst, ◌∙◌}
use Rattle.std.specs.Prelude.{option_map}
use Rattle.std.specs.List.{AllByRecursion}
use Rattle.roster_types.specs.Keys.{Ascends}
use Rattle.roster_values.specs.Kinds.{place_of_kind}
use Rattle.bulk_export.specs.Steps.{earlier_at, earlier_key, set_row}
use Rattle.bulk_export.specs.declared.earlier.EarlierRow.{EarlierRow}
use Rattle.bulk_export.proofs.Ordering.{in_order_ascends, look_up-in_order}
use Rattle.bulk_export.proofs.EarlierRows.{kinds_ordered, earlier_at_is, kinds_of_earlier}
use Rattle.bulk_export.proofs.earlier.ordered.Goals as goal

pub returns-clause-order : goal.returns-clause-order
returns-clause-order c =
    let n = place_of_kind c.args.kind in
    let items = c.in_ok-earlier.earlier.items in
    subst (Ascends earlier_key) (sym c.in_ok-ordered.ensures.value) (in_order_ascends earlier_key (λ (e : EarlierRow). (set_row e).row.id) n items (kinds_of_earlier c.args.kind items c.args.rows.now c.in_ok-earlier.ensures c.requires))

pub returns-clause-rows : goal.returns-clause-rows
returns-clause-rows c k =
    let n = place_of_kind c.args.kind in
    let items = c.in_ok-earlier.earlier.items in
    ap (λ es. earlier_at es k) c.in_ok-ordered.ensures.value
    ∙ ap (option_map set_row) (look_up-in_order earlier_key (λ (e : EarlierRow). (set_row e).row.id) n k items (kinds_of_earlier c.args.kind items c.args.rows.now c.in_ok-earlier.ensures c.requires))
    ∙ earlier_at_is k items c.args.rows.now c.in_ok-earlier.ensures

pub returns-clause-kinds : goal.returns-clause-kinds
returns-clause-kinds c = subst (AllByRecursion (λ (e : EarlierRow). (set_row e).row.kind ≡ c.args.kind)) (sym c.in_ok-ordered.ensures.value)
    (kinds_ordered c.args.kind c.in_ok-earlier.earlier.items c.args.rows.now c.in_ok-earlier.ensures c.requires)
