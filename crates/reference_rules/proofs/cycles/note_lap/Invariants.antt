use Rattle.std.proofs.Common.{take}
use Rattle.reference_rules.specs.Notes.{AreNotedOver}
use Rattle.reference_rules.proofs.PassedLemmas.{among}
use Rattle.reference_rules.proofs.cycles.note_lap.Given as goal

-- the ids so far are noted
abbrev pub invariant-loop-id : goal.invariant-loop-id
invariant-loop-id l = AreNotedOver (among (take l.id-index l.passed)) l.fn.notes l.notes
