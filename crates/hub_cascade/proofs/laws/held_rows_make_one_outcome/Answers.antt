use Rattle.hub_cascade.proofs.Outcomes.{one_outcome}
use Rattle.hub_cascade.proofs.laws.held_rows_make_one_outcome.Goals as goal

pub returns : goal.returns
returns c = one_outcome
