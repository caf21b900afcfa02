use Rattle.hub_spec.proofs.Growing.{step_grows}
use Rattle.hub_spec.proofs.rules.laws.a_step_lets_the_state_grow.Goals as goal

pub returns : goal.returns
returns c = step_grows
