use Rattle.std.proofs.Common.{◌<◌, length, ap, sym, ◌∙◌, arith, min, get_or, None}
use Rattle.roster_types.specs.Lengths.{field_length}
use Rattle.roster_types.specs.Records.{all_values}
use Rattle.roster_types.specs.declared.status.Status.TheVariants.{ToBeDeleted}
use Rattle.roster_types.proofs.Sums.{are_infos, fields-values, sums-end, sums-on, sums-start}
use Rattle.roster_values.specs.Table.{Info, table}
use Rattle.roster_types.proofs.parts.RowParts.members_length.Goals as goal

pub loop-place-init : goal.loop-place-init
loop-place-init c = sums-start _ _

pub field_length-requires : goal.field_length-requires
field_length-requires c =
    let infos = are_infos c.fields-infos.ensures c.kind.ensures.kind in
    infos.line _ _ c.loop-place-test.true

pub loop-place-preserved : goal.loop-place-preserved
loop-place-preserved c =
    let infos = are_infos c.fields-infos.ensures c.kind.ensures.kind in
    let l : c.loop-place.place < length (table c.args.self.now.kind) =
    omega (arith, infos.as_many, c.loop-place-test.true) in
    let here = infos.here c.loop-place.place _ c.loop-place-test.true in
    sums-on _ _ c.loop-place.place c.loop-place.length c.in_ok-member.member c.add-length.result _ c.loop-place.invariant l (fields-values c.args.self.now c.kind.ensures.fitting)
    (c.in_ok-member.ensures ∙ ap (λ (i : Info). min (field_length i (get_or (all_values (record c.args.self.now { status = ToBeDeleted })) c.loop-place.place None)) 100000) (sym here)) c.add-length.ensures

pub returns : goal.returns
returns c =
    let infos = are_infos c.fields-infos.ensures c.kind.ensures.kind in
    sums-end _ _ c.loop-place.place c.loop-place.length c.loop-place.invariant
    (omega (arith, infos.as_many, c.loop-place-test.false))
