use Rattle.hub_spec.proofs.DeltaRequestLemmas.{delta_read}
use Rattle.hub_spec.proofs.requests.laws.a_delta_request_wants_its_page.Goals as goal

pub returns : goal.returns
returns c = delta_read
