use Rattle.hub_spec.proofs.HasAnswers.{has_answer}
use Rattle.hub_spec.proofs.rules.laws.a_request_has_an_answer.Goals as goal

pub returns : goal.returns
returns c = has_answer
