use Rattle.std.proofs.Common.{◌≡◌, List, map}
use Rattle.std.specs.List.{AllByRecursion}
use Rattle.item_maps.specs.Edits.{entry_of}
use Rattle.hub_format.specs.Format.{where_label}
use Rattle.span_format.specs.Format.{Span, span_entry}
use Rattle.span_format.specs.Reading.{FitsSpan, came_within}
use Rattle.span_format.proofs.SpanReading.{AreLeft}
use Rattle.span_format.proofs.read_spans.rows_within.Given as goal

abbrev pub invariant-loop-item : goal.invariant-loop-item
invariant-loop-item l =
    (spans : List Span) → AllByRecursion FitsSpan spans → where_label (came_within l.low l.high) (map entry_of l.items) ≡ map span_entry spans → AreLeft (came_within l.low l.high) l.items l.item-index l.found.items spans
