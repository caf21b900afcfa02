use Rattle.hub_spec.proofs.Growing.{run_grows}
use Rattle.hub_spec.proofs.rules.laws.a_run_lets_the_state_grow.Goals as goal

pub returns : goal.returns
returns c = run_grows
