use Rattle.hub_spec.proofs.DeltaSaying.{says_from}
use Rattle.hub_spec.proofs.rules.laws.a_consumer_is_told_of_the_delta.Goals as goal

pub returns : goal.returns
returns c = says_from
