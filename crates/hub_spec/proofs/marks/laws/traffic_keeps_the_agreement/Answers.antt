use Rattle.hub_spec.proofs.AgreeLemmas.{traffic_keeps}
use Rattle.hub_spec.proofs.marks.laws.traffic_keeps_the_agreement.Goals as goal

pub returns : goal.returns
returns c = traffic_keeps
