use Rattle.hub_spec.proofs.PageRequestLemmas.{page_read}
use Rattle.hub_spec.proofs.requests.laws.a_page_request_wants_its_page.Goals as goal

pub returns : goal.returns
returns c = page_read
