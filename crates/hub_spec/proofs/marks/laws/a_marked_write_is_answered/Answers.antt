use Rattle.hub_spec.proofs.AnswerLemmas.{marked_is, says_write}
use Rattle.hub_spec.proofs.marks.laws.a_marked_write_is_answered.Goals as goal

pub returns : goal.returns
returns c state wanted marked at reply next e said = says_write state wanted marked (marked_is wanted marked e) at reply next said
