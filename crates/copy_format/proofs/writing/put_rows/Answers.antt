use Rattle.std.proofs.Common.{◌<◌, ◌∙◌, length, arith}
use Rattle.copy_format.specs.Areas.{area_number}
use Rattle.copy_format.specs.Format.{FitsRow, row_entry}
use Rattle.hub_format.proofs.Steps.{more_all, more_puts}
use Rattle.copy_format.proofs.writing.put_rows.Goals as goal

pub loop-row-preserved : goal.loop-row-preserved
loop-row-preserved c =
    let rows = c.args.rows.now in
    let i = c.loop-row.row-index in
    let within : i < length rows = omega arith in
    record {
      edits = c.in_ok-push.ensures.items ∙ more_puts (area_number c.args.area) row_entry c.args.edits.now.items c.loop-row.edits.items rows i c.row-item.result c.in_ok-put_row.field-0 c.loop-row.invariant.edits within c.row-item.is c.in_ok-put_row.ensures.edit;
      fit = more_all FitsRow rows i c.row-item.result c.loop-row.invariant.fit within c.row-item.is c.in_ok-put_row.ensures.fits;
    }
