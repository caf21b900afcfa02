use Rattle.hub_spec.proofs.ArrangedLemmas.{list-permutes}
use Rattle.hub_spec.proofs.views.laws.a_list_has_each_of_its_rows_once.Goals as goal

pub returns : goal.returns
returns c = list-permutes
