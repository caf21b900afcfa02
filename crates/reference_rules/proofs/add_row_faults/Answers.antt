use Rattle.std.proofs.Common.{◌++◌, ◌+◌, subst, get_or, None, arith}
use Rattle.roster_types.specs.Records.{all_values}
use Rattle.roster_types.proofs.Sums.{are_infos, fields-values}
use Rattle.roster_values.specs.Table.{table}
use Rattle.reference_rules.proofs.FieldSteps.{Finds, finds_end, finds_on}
use Rattle.reference_rules.specs.Faults.{field_faults}
use Rattle.reference_rules.proofs.add_row_faults.Goals as goal

pub add_field_faults-requires-clause-info : goal.add_field_faults-requires-clause-info
add_field_faults-requires-clause-info g c =
    let infos = are_infos c.fields-infos.ensures c.kind.ensures.kind in
    infos.line _ _ c.loop-place-test.true

pub loop-place-preserved : goal.loop-place-preserved
loop-place-preserved g c =
    let infos = are_infos c.fields-infos.ensures c.kind.ensures.kind in
    let rows = g.R.Rows.rows c.args.rows.now in
    let row = c.args.row.now in
    let place = c.loop-place.place in
    let value = get_or (all_values row) place None in
    rw c.in_ok-add_field_faults.ensures
    (subst (λ info. Finds rows row (table row.kind) (all_values row) (place + 1) c.args.found.now.items
    (c.loop-place.found.items ++ field_faults rows row info value)) (infos.here place _ c.loop-place-test.true)
    (finds_on rows row (table row.kind) (all_values row) place _ _ _
    (omega (arith, infos.as_many, c.loop-place-test.true)) (fields-values row c.kind.ensures.row.fitting)
    c.loop-place.invariant))

pub returns : goal.returns
returns g c =
    let infos = are_infos c.fields-infos.ensures c.kind.ensures.kind in
    finds_end (g.R.Rows.rows c.args.rows.now) c.args.row.now _ _ c.loop-place.place _ _
    (omega (arith, infos.as_many, c.loop-place-test.false)) c.loop-place.invariant
