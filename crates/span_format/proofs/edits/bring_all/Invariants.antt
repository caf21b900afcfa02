use Rattle.std.proofs.Common.{◌≡◌, ◌++◌, length}
use Rattle.std.specs.List.{AllByRecursion}
use Rattle.std.specs.Vec.Iter.{into_iter_items, into_iter_len}
use Rattle.span_format.specs.Edits.{brought}
use Rattle.span_format.specs.Format.{HasPlainIds}
use Rattle.span_format.proofs.edits.bring_all.Given as goal

abbrev pub invariant-loop-change : goal.invariant-loop-change
invariant-loop-change l = record {
  whole : l.yielded ++ into_iter_items l.change-iterator ≡ l.fn.changes;
  left : into_iter_len l.change-iterator ≡ length (into_iter_items l.change-iterator);
  edits : l.edits.items ≡ l.fn.edits.items ++ brought l.yielded;
  plain : AllByRecursion HasPlainIds l.yielded;
}
