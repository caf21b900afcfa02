use Rattle.roster_types.proofs.Fitting.{rechanged}
use Rattle.roster_types.proofs.parts.RowParts.changed.Goals as goal

pub invariant_of-result : goal.invariant_of-result
invariant_of-result c = (rechanged _ c.args.status c.args.at c.milliseconds.ensures.range c.self.invariant.0, c.self.invariant.1)
