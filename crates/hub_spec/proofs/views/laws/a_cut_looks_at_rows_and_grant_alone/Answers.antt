use Rattle.hub_spec.proofs.PageLemmas.{same_cut}
use Rattle.hub_spec.proofs.views.laws.a_cut_looks_at_rows_and_grant_alone.Goals as goal

pub returns : goal.returns
returns c = same_cut
