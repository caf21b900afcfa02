use Rattle.consumer_deltas.proofs.DeltaToldLemmas.{first_leads}
use Rattle.consumer_deltas.proofs.laws.a_whole_delta_leads_to_the_pin.Goals as goal

pub returns : goal.returns
returns c = first_leads
