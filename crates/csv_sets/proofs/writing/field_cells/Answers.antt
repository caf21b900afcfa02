use Rattle.std.proofs.Common.{◌<◌, length, map, ap, ◌∙◌, arith}
use Rattle.std.proofs.lemmas.List.{take_all}
use Rattle.roster_types.specs.Records.{all_values}
use Rattle.roster_types.proofs.Sums.{are_infos, fields-values}
use Rattle.csv_sets.specs.Written.{field_cell}
use Rattle.csv_sets.proofs.LineSteps.{cells_push}
use Rattle.csv_sets.proofs.writing.field_cells.Goals as goal

pub field_cell-requires : goal.field_cell-requires
field_cell-requires c =
    let infos = are_infos c.fields-infos.ensures c.kind.ensures.kind in
    infos.line _ _ c.loop-place-test.true

pub loop-place-preserved : goal.loop-place-preserved
loop-place-preserved c =
    let infos = are_infos c.fields-infos.ensures c.kind.ensures.kind in
    let v = fields-values c.args.row.now c.kind.ensures.row.fitting in
    let l : c.loop-place.place < length (all_values c.args.row.now) =
    omega (arith, infos.as_many, v, c.loop-place-test.true) in
    rw c.in_ok-push.ensures.items
    (cells_push c.loop-place.cells.items (all_values c.args.row.now) c.loop-place.place c.in_ok-field_cell.field-0
    c.loop-place.invariant l c.in_ok-field_cell.ensures)

pub returns-clause-cells : goal.returns-clause-cells
returns-clause-cells c =
    let infos = are_infos c.fields-infos.ensures c.kind.ensures.kind in
    let v = fields-values c.args.row.now c.kind.ensures.row.fitting in
    c.loop-place.invariant
    ∙ ap (map field_cell) (take_all c.loop-place.place (all_values c.args.row.now)
    (omega (arith, infos.as_many, v, c.loop-place-test.false)))
