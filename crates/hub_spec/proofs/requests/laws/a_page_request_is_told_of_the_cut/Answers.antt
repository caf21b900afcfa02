use Rattle.hub_spec.proofs.PageRequestLemmas.{page_says}
use Rattle.hub_spec.proofs.requests.laws.a_page_request_is_told_of_the_cut.Goals as goal

pub returns : goal.returns
returns c = page_says
