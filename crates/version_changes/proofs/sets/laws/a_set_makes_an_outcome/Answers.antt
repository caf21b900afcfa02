use Rattle.version_changes.proofs.SetOutcome.{has_outcome}
use Rattle.version_changes.proofs.sets.laws.a_set_makes_an_outcome.Goals as goal

pub returns : goal.returns
returns c = has_outcome
