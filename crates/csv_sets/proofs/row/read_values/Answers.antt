use Rattle.std.proofs.Common.{◌<◌, arith, get_or, length, refl}
use Rattle.std.proofs.lemmas.Result.{err_from_is_err_and}
use Rattle.roster_types.proofs.Sums.{infos-length}
use Rattle.roster_values.specs.Table.{info_of}
use Rattle.roster_base.proofs.ListSteps.{next_item}
use Rattle.roster_values.proofs.FieldLaws.{next_field}
use Rattle.csv_sets.proofs.ValueSteps.{walks_end, walks_fail, walks_on}
use Rattle.csv_sets.proofs.row.read_values.Goals as goal

pub returns-in_err-read_field-clause-values : goal.returns-in_err-read_field-clause-values
returns-in_err-read_field-clause-values c =
    let whole = infos-length _ _ c.fields-infos.ensures in
    let within : c.loop-field.field < length c.args.places.now = omega arith in
    let p = err_from_is_err_and c.from_residual-in_err-read_field.result c.from_residual-in_err-read_field.ensures.1 in
    rw (p.1, p.2)
    (walks_fail (info_of (get_or c.fields-infos.result.now c.loop-field.field _))
    (get_or c.args.places.now c.loop-field.field _) _ _ c.in_err-read_field.field-0.0 c.loop-field.invariant
    (next_field _ _ _ _ _ c.fields-infos.ensures (omega arith) refl)
    (next_item _ _ _ _ within refl)
    (rw c.cell_at-cell.ensures at c.in_err-read_field.ensures))

pub loop-field-preserved : goal.loop-field-preserved
loop-field-preserved c =
    let whole = infos-length _ _ c.fields-infos.ensures in
    let within : c.loop-field.field < length c.args.places.now = omega arith in
    rw c.in_ok-push.ensures.items
    (walks_on (info_of (get_or c.fields-infos.result.now c.loop-field.field _))
    (get_or c.args.places.now c.loop-field.field _) c.in_ok-read_field.field-0 c.loop-field.invariant
    (next_field _ _ _ _ _ c.fields-infos.ensures (omega arith) refl)
    (next_item _ _ _ _ within refl)
    (rw c.cell_at-cell.ensures at c.in_ok-read_field.ensures))

pub returns-clause-values : goal.returns-clause-values
returns-clause-values c =
    let whole = infos-length _ _ c.fields-infos.ensures in
    (walks_end c.loop-field.invariant (omega arith)).0

pub returns-clause-fit : goal.returns-clause-fit
returns-clause-fit c =
    let whole = infos-length _ _ c.fields-infos.ensures in
    (walks_end c.loop-field.invariant (omega arith)).1
