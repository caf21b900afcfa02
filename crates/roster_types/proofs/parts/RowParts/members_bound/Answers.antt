use Rattle.std.proofs.Common.{◌<◌, length, sym, subst, arith, get_or, None}
use Rattle.roster_types.specs.Bounds.{IsBound}
use Rattle.roster_types.specs.Lengths.{field_length}
use Rattle.roster_types.specs.Records.{all_values}
use Rattle.roster_types.specs.declared.status.Status.TheVariants.{ToBeDeleted}
use Rattle.roster_types.proofs.BoundLaws.{bounds-end, bounds-on, bounds-start}
use Rattle.roster_types.proofs.Sums.{are_infos, fields-values}
use Rattle.roster_values.specs.Table.{Info, table}
use Rattle.roster_types.proofs.parts.RowParts.members_bound.Goals as goal

pub loop-place-init : goal.loop-place-init
loop-place-init c = bounds-start _ _

pub field_bound-requires : goal.field_bound-requires
field_bound-requires c =
    let infos = are_infos c.fields-infos.ensures c.kind.ensures.kind in
    infos.line _ _ c.loop-place-test.true

pub loop-place-preserved : goal.loop-place-preserved
loop-place-preserved c =
    let infos = are_infos c.fields-infos.ensures c.kind.ensures.kind in
    let l : c.loop-place.place < length (table c.args.self.now.kind) =
    omega (arith, infos.as_many, c.loop-place-test.true) in
    let here = infos.here c.loop-place.place _ c.loop-place-test.true in
    bounds-on _ _ c.loop-place.place c.loop-place.bound c.field_bound.result _ _ c.loop-place.invariant l (fields-values c.args.self.now c.kind.ensures.fitting)
    (subst (λ (i : Info). IsBound c.field_bound.result (field_length i (get_or (all_values (record c.args.self.now { status = ToBeDeleted })) c.loop-place.place None))) (sym here) c.field_bound.ensures) c.add-bound.ensures

pub returns : goal.returns
returns c =
    let infos = are_infos c.fields-infos.ensures c.kind.ensures.kind in
    bounds-end _ _ c.loop-place.place c.loop-place.bound c.loop-place.invariant
    (omega (arith, infos.as_many, c.loop-place-test.false))
