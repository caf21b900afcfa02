use Rattle.hub_spec.proofs.OnceLemmas.{list-distinct}
use Rattle.hub_spec.proofs.views.laws.a_list_has_no_row_twice.Goals as goal

pub returns : goal.returns
returns c = list-distinct
