use Rattle.std.proofs.Common.{◌<◌, length, arith, take, ◌∙◌, ap, ◌≡◌, ◌++◌, ◌∷◌, [], map, string_bytes, sym}
use Rattle.csv_sets.specs.Written.{written_cells}
use Rattle.csv_sets.proofs.LineSteps.{lines_end, lines_on}
use Rattle.roster_base.proofs.ListSteps.{next_item}
use Rattle.std.proofs.lemmas.List.{take_more}
use Rattle.csv_sets.proofs.writing.write_rows.Goals as goal

pub loop-row-preserved : goal.loop-row-preserved
loop-row-preserved c =
    let within : c.loop-row.row-index < length c.args.rows.now = omega arith in
    let more = take_more c.args.rows.now c.loop-row.row-index c.row-item.result within ∙ ap (λ r. take c.loop-row.row-index c.args.rows.now ++ r ∷ []) (sym c.row-item.is) in
    let cells : map string_bytes c.as_slice.result.now ≡ written_cells c.args.keys.now c.row-item.result = ap (map string_bytes) c.as_slice.ensures.value ∙ c.in_ok-cells.ensures.cells in
    lines_on c.row-item.result c.loop-row.invariant (next_item _ _ _ _ within c.row-item.is) more
    (rw cells at c.in_ok-write_line.ensures.text) c.in_ok-write_line.ensures.fresh (rw cells at c.in_ok-write_line.ensures.plain) c.in_ok-cells.ensures.row

pub returns-clause-text : goal.returns-clause-text
returns-clause-text c = lines_end c.loop-row.invariant (omega arith)
