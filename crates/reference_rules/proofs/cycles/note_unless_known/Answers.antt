use Rattle.std.proofs.Common.{arith}
use Rattle.std.proofs.lemmas.Grind.{text_groups}
use Rattle.reference_rules.proofs.cycles.note_unless_known.Goals as goal

pub returns-clause-notes : goal.returns-clause-notes
returns-clause-notes c = λ q. grind (arith, text_groups)

pub returns-clause-known : goal.returns-clause-known
returns-clause-known c = grind (arith, text_groups)
