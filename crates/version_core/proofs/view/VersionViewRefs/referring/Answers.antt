use Rattle.std.proofs.Common.{◌∙◌}
use Rattle.version_core.specs.History.{pasts_of, rows_at}
use Rattle.version_core.proofs.RowsOf.{is_sorted-rows_of}
use Rattle.version_core.proofs.view.VersionViewRefs.referring.Goals as goal

pub next_referring-requires : goal.next_referring-requires
next_referring-requires c = rw (← c.self.view_is) (is_sorted-rows_of (rows_at c.self.inside.version (pasts_of c.self.inside.histories.now)) ∙ c.self.invariant.version.rows)

pub returns-clause-order : goal.returns-clause-order
returns-clause-order c = rw (← c.self.view_is) (is_sorted-rows_of (rows_at c.self.inside.version (pasts_of c.self.inside.histories.now)) ∙ c.self.invariant.version.rows)

pub indexed-requires-clause-indexed : goal.indexed-requires-clause-indexed
indexed-requires-clause-indexed c = c.self.invariant.index c.if-self.true

pub returns-then-self-clause-next : goal.returns-then-self-clause-next
returns-then-self-clause-next c = rw (← c.self.view_is) c.indexed.ensures

pub returns-then-self-clause-order : goal.returns-then-self-clause-order
returns-then-self-clause-order c = rw (← c.self.view_is) (is_sorted-rows_of (rows_at c.self.inside.version (pasts_of c.self.inside.histories.now)) ∙ c.self.invariant.version.rows)
