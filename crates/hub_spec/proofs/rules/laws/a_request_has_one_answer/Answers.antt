use Rattle.hub_spec.proofs.Once.{one_answer}
use Rattle.hub_spec.proofs.rules.laws.a_request_has_one_answer.Goals as goal

pub returns : goal.returns
returns c = one_answer
