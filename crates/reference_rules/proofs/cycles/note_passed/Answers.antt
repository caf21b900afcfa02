use Rattle.std.proofs.Common.{arith}
use Rattle.std.proofs.lemmas.Grind.{text_groups}
use Rattle.reference_rules.proofs.cycles.note_passed.Goals as goal

pub loop-id-preserved : goal.loop-id-preserved
loop-id-preserved c = λ q. grind (arith, text_groups, c.loop-id.invariant q, c.in_ok-note_unless_known.ensures.notes q)
