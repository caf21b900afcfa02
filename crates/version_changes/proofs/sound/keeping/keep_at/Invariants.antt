use Rattle.std.proofs.Common.{◌≤◌, drop}
use Rattle.std.specs.List.{AllByRecursion}
use Rattle.version_core.specs.Grants.{HasGrant}
use Rattle.version_changes.proofs.sound.keeping.keep_at.Given as goal

abbrev pub invariant-loop-row : goal.invariant-loop-row
invariant-loop-row l = AllByRecursion (λ row. row.grant.since ≤ l.number → HasGrant l.grants row) (drop l.row-index l.newest) → AllByRecursion (λ row. row.grant.since ≤ l.number → HasGrant l.grants row) l.newest
