use Rattle.std.proofs.Common.{◌≡◌, ◌++◌, map, take}
use Rattle.std.specs.List.{AllByRecursion}
use Rattle.hub_format.specs.Areas.{spans_area}
use Rattle.hub_format.specs.Edits.{puts}
use Rattle.hub_format.specs.Pieces.{IsReadBack}
use Rattle.span_format.specs.Format.{HasPlainId, span_entry, spans_from}
use Rattle.span_format.proofs.writing.put_spans.Given as goal

abbrev pub invariant-loop-row : goal.invariant-loop-row
invariant-loop-row l = record {
  edits : l.edits.items ≡ l.fn.edits.items ++ puts spans_area (map span_entry (spans_from l.first (take l.row-index l.rows)));
  back : AllByRecursion IsReadBack (take l.row-index l.rows);
  plain : AllByRecursion HasPlainId (take l.row-index l.rows);
}
