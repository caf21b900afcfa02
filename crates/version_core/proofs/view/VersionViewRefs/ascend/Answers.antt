use Rattle.std.proofs.Common.{◌∙◌, arith}
use Rattle.version_core.specs.History.{pasts_of, rows_at}
use Rattle.version_core.proofs.RowsOf.{is_sorted-rows_of}
use Rattle.version_core.proofs.view.VersionViewRefs.ascend.Goals as goal

pub returns-clause-order : goal.returns-clause-order
returns-clause-order c = rw (← c.self.view_is) (is_sorted-rows_of (rows_at c.self.inside.version (pasts_of c.self.inside.histories.now)) ∙ c.self.invariant.version.rows)

pub returns-clause-few : goal.returns-clause-few
returns-clause-few c = rw (← c.self.view_is) (λ kind. let few = c.self.invariant.version.few kind in omega (arith, few))
