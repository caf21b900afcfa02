use Rattle.version_changes.proofs.Outcomes.{one_outcome}
use Rattle.version_changes.proofs.sets.laws.a_set_makes_one_outcome.Goals as goal

pub returns : goal.returns
returns c = λ version set at one other. one_outcome set at version one other
