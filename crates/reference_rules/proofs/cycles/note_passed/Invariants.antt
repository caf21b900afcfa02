use Rattle.std.proofs.Common.{take}
use Rattle.reference_rules.specs.Notes.{AreNotedBeside}
use Rattle.reference_rules.proofs.PassedLemmas.{among}
use Rattle.reference_rules.proofs.cycles.note_passed.Given as goal

-- the ids so far are noted
abbrev pub invariant-loop-id : goal.invariant-loop-id
invariant-loop-id l = AreNotedBeside (among (take l.id-index l.passed)) l.fn.notes l.notes
