use Rattle.std.proofs.Common.{◌≡◌, ◌++◌, length, map}
use Rattle.std.specs.List.{AllByRecursion}
use Rattle.std.specs.Vec.Iter.{into_iter_items, into_iter_len}
use Rattle.hub_format.specs.Areas.{spans_area}
use Rattle.hub_format.specs.Edits.{puts}
use Rattle.span_format.specs.Format.{HasPlainId, span_entry, spans_from}
use Rattle.span_format.proofs.writing.move_spans.Given as goal

abbrev pub invariant-loop-row : goal.invariant-loop-row
invariant-loop-row l = record {
  whole : l.yielded ++ into_iter_items l.row-iterator ≡ l.fn.rows;
  left : into_iter_len l.row-iterator ≡ length (into_iter_items l.row-iterator);
  edits : l.edits.items ≡ l.fn.edits.items ++ puts spans_area (map span_entry (spans_from l.fn.first l.yielded));
  plain : AllByRecursion HasPlainId l.yielded;
}
