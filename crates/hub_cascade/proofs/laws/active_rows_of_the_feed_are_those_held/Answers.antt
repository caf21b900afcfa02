use Rattle.hub_cascade.proofs.Serving.{served_next, served_same}
use Rattle.hub_cascade.proofs.laws.active_rows_of_the_feed_are_those_held.Goals as goal

pub returns-clause-leads : goal.returns-clause-leads
returns-clause-leads c = served_next

pub returns-clause-unchanged : goal.returns-clause-unchanged
returns-clause-unchanged c = served_same
