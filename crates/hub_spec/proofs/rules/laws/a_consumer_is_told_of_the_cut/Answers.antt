use Rattle.hub_spec.proofs.Saying.{says}
use Rattle.hub_spec.proofs.rules.laws.a_consumer_is_told_of_the_cut.Goals as goal

pub returns : goal.returns
returns c = says
