use Rattle.hub_spec.proofs.DeltaRequestLemmas.{delta_says}
use Rattle.hub_spec.proofs.requests.laws.a_delta_request_is_told_of_the_delta.Goals as goal

pub returns : goal.returns
returns c = delta_says
