use Rattle.std.proofs.Common.{◌≡◌, ◌++◌, take}
use Rattle.hub_format.specs.Edits.{puts}
use Rattle.copy_format.specs.Areas.{area_number}
use Rattle.copy_format.specs.Format.{FitRows, rows_under}
use Rattle.copy_format.proofs.writing.put_rows.Given as goal

abbrev pub invariant-loop-row : goal.invariant-loop-row
invariant-loop-row l = record {
  edits : l.edits.items ≡ l.fn.edits.items ++ puts (area_number l.area) (rows_under (take l.row-index l.rows));
  fit : FitRows (take l.row-index l.rows);
}
