use Rattle.version_core.proofs.MarkLemmas.{no_marks}
use Rattle.version_core.proofs.marks.Marks.new.Goals as goal

pub invariant_of-result : goal.invariant_of-result
invariant_of-result c = record { rise = rw c.new.ensures.items (no_marks 0).rise; room = λ no. cc }
