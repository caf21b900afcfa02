use Rattle.std.proofs.Common.{drop}
use Rattle.version_changes.specs.sound.Behind.{KeepBehind}
use Rattle.version_changes.proofs.sound.keeping.keep_behind.Given as goal

abbrev pub invariant-loop-change : goal.invariant-loop-change
invariant-loop-change l = KeepBehind l.newest l.current (drop l.change-index l.changes) → KeepBehind l.newest l.grants l.changes
