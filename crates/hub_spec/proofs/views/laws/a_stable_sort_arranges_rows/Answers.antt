use Rattle.hub_spec.proofs.Sorting.{stable_sort_arranges}
use Rattle.hub_spec.proofs.views.laws.a_stable_sort_arranges_rows.Goals as goal

pub returns : goal.returns
returns c = stable_sort_arranges
