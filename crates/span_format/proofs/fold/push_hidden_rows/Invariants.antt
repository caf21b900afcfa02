use Rattle.std.proofs.Common.{◌≡◌, ◌++◌, map, take}
use Rattle.span_format.specs.Edits.{hidden_by}
use Rattle.span_format.proofs.fold.push_hidden_rows.Given as goal

abbrev pub invariant-loop-row : goal.invariant-loop-row
invariant-loop-row l = l.edits.items ≡ l.fn.edits.items ++ map (hidden_by l.version) (take l.row-index l.rows)
