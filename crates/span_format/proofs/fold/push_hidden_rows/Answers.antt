use Rattle.std.proofs.Common.{◌<◌, ◌∙◌, length, arith}
use Rattle.span_format.specs.Edits.{hidden_by}
use Rattle.span_format.proofs.Steps.{more_edits}
use Rattle.span_format.proofs.fold.push_hidden_rows.Goals as goal

pub loop-row-preserved : goal.loop-row-preserved
loop-row-preserved c =
    let rows = c.args.rows.now in
    let i = c.loop-row.row-index in
    let within : i < length rows = omega arith in
    c.in_ok-push.ensures.items ∙ more_edits (hidden_by c.args.version) c.args.edits.now.items c.loop-row.edits.items rows i c.row-item.result c.in_ok-hide_row.field-0 c.loop-row.invariant within c.row-item.is c.in_ok-hide_row.ensures
