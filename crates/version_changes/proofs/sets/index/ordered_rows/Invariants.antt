use Rattle.std.proofs.Common.{◌≡◌, ◌++◌, length}
use Rattle.std.specs.Vec.Iter.{into_iter_items, into_iter_len}
use Rattle.version_changes.specs.sets.Steps.{indexed}
use Rattle.version_changes.proofs.sets.index.ordered_rows.Given as goal

abbrev pub invariant-loop-part : goal.invariant-loop-part
invariant-loop-part l = record {
  whole : l.yielded ++ into_iter_items l.part-iterator ≡ l.fn.parts;
  rows : l.all.items ≡ indexed l.yielded;
  left : into_iter_len l.part-iterator ≡ length (into_iter_items l.part-iterator);
}
