use Rattle.version_changes.proofs.GrantsOutcome.{has_outcome}
use Rattle.version_changes.proofs.grants.laws.a_list_makes_an_outcome.Goals as goal

pub returns : goal.returns
returns c = has_outcome
