use Rattle.hub_spec.proofs.PageLemmas.{pages-all}
use Rattle.hub_spec.proofs.views.laws.pages_join_to_their_list.Goals as goal

pub returns : goal.returns
returns c = pages-all
