use Rattle.std.proofs.Common.{◌≡◌, ◌+◌, ◌≤◌, drop}
use Rattle.std.specs.Prelude.{count_by}
use Rattle.version_changes.specs.sets.Steps.{is_added}
use Rattle.version_changes.specs.sound.Behind.{rows_behind}
use Rattle.version_changes.proofs.sound.counts.added.Given as goal

abbrev pub invariant-loop-change : goal.invariant-loop-change
invariant-loop-change l = record {
  sum : l.count + count_by (is_added l.kind (rows_behind l.base l.earlier)) (drop l.change-index l.changes) ≡ count_by (is_added l.kind (rows_behind l.base l.earlier)) l.changes;
  small : l.count ≤ l.change-index;
}
