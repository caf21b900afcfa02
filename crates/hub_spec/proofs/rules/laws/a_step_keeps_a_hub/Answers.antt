use Rattle.hub_spec.proofs.Keeping.{step_keeps}
use Rattle.hub_spec.proofs.rules.laws.a_step_keeps_a_hub.Goals as goal

pub returns : goal.returns
returns c = step_keeps
