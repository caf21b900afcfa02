use Rattle.std.proofs.Common.{◌≡◌, drop}
use Rattle.version_changes.specs.sound.Behind.{last_grants}
use Rattle.version_changes.proofs.sound.keeping.last_grants.Given as goal

abbrev pub invariant-loop-change : goal.invariant-loop-change
invariant-loop-change l = last_grants l.grants l.changes ≡ last_grants l.current (drop l.change-index l.changes)
