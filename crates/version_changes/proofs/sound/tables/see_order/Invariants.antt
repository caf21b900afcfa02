use Rattle.std.proofs.Common.{drop}
use Rattle.std.specs.List.{AllByRecursion}
use Rattle.version_core.specs.Changes.{AreChanges}
use Rattle.version_changes.proofs.sound.tables.see_order.Given as goal

abbrev pub invariant-loop-change : goal.invariant-loop-change
invariant-loop-change l = AllByRecursion (λ change. AreChanges change.rows) (drop l.change-index l.changes) → AllByRecursion (λ change. AreChanges change.rows) l.changes
