use Rattle.std.proofs.Common.{◌≡◌, drop}
use Rattle.version_changes.specs.sets.Applying.{too_many}
use Rattle.version_changes.proofs.sets.refusals.too_many.Given as goal

-- what is told of all kinds is told of those that are left
abbrev pub invariant-loop-kind : goal.invariant-loop-kind
invariant-loop-kind g l = too_many (g.R.Rows.rows l.rows) l.kinds ≡ too_many (g.R.Rows.rows l.rows) (drop l.kind-index l.kinds)
