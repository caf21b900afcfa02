use Rattle.std.proofs.Common.{◌<◌, ◌∙◌, length, arith}
use Rattle.hub_format.specs.Areas.{names_area}
use Rattle.hub_format.proofs.Steps.{more_puts}
use Rattle.span_format.specs.Format.{name_entry}
use Rattle.span_format.proofs.writing.put_names.Goals as goal

pub loop-row-preserved : goal.loop-row-preserved
loop-row-preserved c =
    let rows = c.args.rows.now in
    let i = c.loop-row.row-index in
    let within : i < length rows = omega arith in
    c.in_ok-push.ensures.items ∙ more_puts names_area (name_entry c.args.version) c.args.edits.now.items c.loop-row.edits.items rows i c.row-item.result c.in_ok-put_name.field-0 c.loop-row.invariant within c.row-item.is c.in_ok-put_name.ensures
