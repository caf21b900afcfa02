use Rattle.std.proofs.Common.{arith, get_or, refl}
use Rattle.std.proofs.lemmas.Result.{err_from_is_err_and}
use Rattle.roster_types.proofs.Sums.{infos-length}
use Rattle.roster_values.specs.Table.{info_of}
use Rattle.roster_values.proofs.FieldLaws.{next_field}
use Rattle.row_json.proofs.FieldSteps.{fields-end, fields-fail, fields-on}
use Rattle.row_json.proofs.read.read_values.Goals as goal

pub returns-in_err-read_member-clause-values : goal.returns-in_err-read_member-clause-values
returns-in_err-read_member-clause-values c =
    let whole = infos-length _ _ c.fields-infos.ensures in
    let p = err_from_is_err_and c.from_residual.result c.from_residual.ensures.1 in
    rw (p.1, p.2)
    (fields-fail (info_of (get_or c.fields-infos.result.now c.loop-place.place _)) _ c.in_err-read_member.field-0.0 c.loop-place.invariant
    (next_field _ _ _ _ _ c.fields-infos.ensures (omega arith) refl) c.in_err-read_member.ensures)

pub loop-place-preserved : goal.loop-place-preserved
loop-place-preserved c =
    let whole = infos-length _ _ c.fields-infos.ensures in
    rw c.in_ok-push.ensures.items
    (fields-on (info_of (get_or c.fields-infos.result.now c.loop-place.place _)) c.in_ok-read_member.field-0 c.loop-place.invariant
    (next_field _ _ _ _ _ c.fields-infos.ensures (omega arith) refl) c.in_ok-read_member.ensures)

pub returns-clause-values : goal.returns-clause-values
returns-clause-values c =
    let whole = infos-length _ _ c.fields-infos.ensures in
    (fields-end c.loop-place.invariant (omega arith)).0

pub returns-clause-fit : goal.returns-clause-fit
returns-clause-fit c =
    let whole = infos-length _ _ c.fields-infos.ensures in
    (fields-end c.loop-place.invariant (omega arith)).1
