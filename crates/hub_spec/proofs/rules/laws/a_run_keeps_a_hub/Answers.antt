use Rattle.hub_spec.proofs.Keeping.{run_keeps}
use Rattle.hub_spec.proofs.rules.laws.a_run_keeps_a_hub.Goals as goal

pub returns : goal.returns
returns c = run_keeps
