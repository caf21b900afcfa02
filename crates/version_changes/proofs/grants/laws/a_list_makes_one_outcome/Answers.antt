use Rattle.version_changes.proofs.Granted.{one_outcome}
use Rattle.version_changes.proofs.grants.laws.a_list_makes_one_outcome.Goals as goal

pub returns : goal.returns
returns c = one_outcome
