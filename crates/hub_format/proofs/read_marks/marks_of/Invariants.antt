use Rattle.std.proofs.Common.{◌≡◌, List, map, take}
use Rattle.std.specs.List.{AllByRecursion}
use Rattle.item_maps.specs.Edits.{entry_of}
use Rattle.version_core.specs.declared.mark.MarkRow.{MarkRow}
use Rattle.hub_format.specs.Format.{FitsMark, mark_entry}
use Rattle.hub_format.proofs.read_marks.marks_of.Given as goal

abbrev pub invariant-loop-item : goal.invariant-loop-item
invariant-loop-item l =
    ((marks : List MarkRow) → AllByRecursion FitsMark marks → map entry_of l.items ≡ map mark_entry marks → l.found.items ≡ take l.item-index marks)
    × (map entry_of (take l.item-index l.items) ≡ map mark_entry l.found.items)
