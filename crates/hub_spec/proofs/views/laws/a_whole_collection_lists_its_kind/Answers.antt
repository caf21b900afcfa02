use Rattle.hub_spec.proofs.ListLemmas.{list_of-whole}
use Rattle.hub_spec.proofs.views.laws.a_whole_collection_lists_its_kind.Goals as goal

pub returns : goal.returns
returns c = list_of-whole
