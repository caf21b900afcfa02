use Rattle.std.specs.List.{prefix_len}
use Rattle.version_core.specs.Marks.{is_below}
use Rattle.version_core.proofs.MarkLemmas.{AreMarks-with_mark, mark_at-insert}
use Rattle.version_core.proofs.marks.marks_are_a_map.Goals as goal

pub returns : goal.returns
returns c = record {
  marks = AreMarks-with_mark;
  found = λ key marks mark free. mark_at-insert key mark marks (prefix_len (is_below mark) marks) free;
}
