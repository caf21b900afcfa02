use Rattle.hub_spec.proofs.Once.{one_verdict}
use Rattle.hub_spec.proofs.rules.laws.a_write_has_one_verdict.Goals as goal

pub returns : goal.returns
returns c = one_verdict
