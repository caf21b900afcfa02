use Rattle.std.proofs.Common.{◌≡◌, ◌++◌, map, take}
use Rattle.hub_format.specs.Areas.{names_area}
use Rattle.hub_format.specs.Edits.{puts}
use Rattle.span_format.specs.Format.{name_entry}
use Rattle.span_format.proofs.writing.put_names.Given as goal

abbrev pub invariant-loop-row : goal.invariant-loop-row
invariant-loop-row l = l.edits.items ≡ l.fn.edits.items ++ puts names_area (map (name_entry l.version) (take l.row-index l.rows))
