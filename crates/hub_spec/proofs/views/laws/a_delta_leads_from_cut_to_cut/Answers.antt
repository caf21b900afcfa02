use Rattle.hub_spec.proofs.CutDeltas.{cut_to_cut}
use Rattle.hub_spec.proofs.views.laws.a_delta_leads_from_cut_to_cut.Goals as goal

pub returns : goal.returns
returns c = cut_to_cut
