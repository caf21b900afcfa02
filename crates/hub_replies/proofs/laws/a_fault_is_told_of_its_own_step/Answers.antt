use Rattle.hub_replies.proofs.Blaming.{step_blames}
use Rattle.hub_replies.proofs.laws.a_fault_is_told_of_its_own_step.Goals as goal

pub returns : goal.returns
returns c = step_blames
