use Rattle.std.proofs.Common.{◌<◌, ◌≤◌, length, arith, sym, ◌∙◌}
use Rattle.consumer_deltas.proofs.DeltaFitLemmas.{apart_end, apart_not, apart_on}
use Rattle.consumer_deltas.proofs.fitting.stand_apart.Goals as goal

pub returns-then-has_row : goal.returns-then-has_row
returns-then-has_row c =
    let within : c.loop-row.row-index < length c.args.rows.now = omega arith in
    sym (apart_not c.args.kind c.args.rows.now c.loop-row.row-index c.row-item.result _ c.args.ids.now within c.row-item.is (sym c.has_row.ensures ∙ c.if-has_row.true)) ∙ c.loop-row.invariant

pub loop-row-preserved : goal.loop-row-preserved
loop-row-preserved c =
    let within : c.loop-row.row-index < length c.args.rows.now = omega arith in
    apart_on c.args.kind c.args.rows.now c.loop-row.row-index c.row-item.result _ c.args.ids.now within c.row-item.is (sym c.has_row.ensures ∙ c.if-has_row.false) ∙ c.loop-row.invariant

pub returns : goal.returns
returns c =
    let le : length c.args.rows.now ≤ c.loop-row.row-index = omega arith in
    sym (apart_end c.args.kind c.args.rows.now c.loop-row.row-index c.args.ids.now le) ∙ c.loop-row.invariant
