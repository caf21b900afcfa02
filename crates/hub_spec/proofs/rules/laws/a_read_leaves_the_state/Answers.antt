use Rattle.hub_spec.proofs.Once.{read_leaves}
use Rattle.hub_spec.proofs.rules.laws.a_read_leaves_the_state.Goals as goal

pub returns : goal.returns
returns c = read_leaves
