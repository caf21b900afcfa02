use Rattle.std.proofs.Common.{◌∙◌}
use Rattle.version_core.proofs.RowsOf.{is_sorted-rows_of}
use Rattle.version_core.proofs.sorted_rows.SortedRowsRefs.referring.Goals as goal

pub next_referring-requires : goal.next_referring-requires
next_referring-requires c = rw (← c.self.view_is) (is_sorted-rows_of c.self.inside.changes.items ∙ c.self.invariant)

pub returns-clause-order : goal.returns-clause-order
returns-clause-order c = rw (← c.self.view_is) (is_sorted-rows_of c.self.inside.changes.items ∙ c.self.invariant)
