use Rattle.std.proofs.Common.{◌≡◌, ◌++◌, map, take}
use Rattle.copy_format.specs.Edits.{clear_rows}
use Rattle.copy_format.proofs.writing.push_clears.Given as goal

abbrev pub invariant-loop-kind : goal.invariant-loop-kind
invariant-loop-kind l = l.edits.items ≡ l.fn.edits.items ++ map (clear_rows l.side) (take l.kind-index l.kinds)
