use Rattle.std.proofs.Common.{◌∙◌}
use Rattle.version_core.proofs.table.Table.oldest.Goals as goal

pub returns-clause-exact : goal.returns-clause-exact
returns-clause-exact c = rw (← c.self.view_is) (c.oldest.ensures ∙ c.self.invariant.oldest)
