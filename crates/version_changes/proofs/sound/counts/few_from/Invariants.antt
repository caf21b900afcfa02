use Rattle.std.proofs.Common.{◌≡◌, ◌≤◌, ℕ, length, take}
use Rattle.roster_types.specs.Keys.{count_of}
use Rattle.version_core.specs.Changes.{rows_of}
use Rattle.version_core.specs.Version.{row_limit}
use Rattle.version_changes.specs.sound.Behind.{rows_behind}
use Rattle.version_changes.proofs.sound.counts.few_from.Given as goal

abbrev pub invariant-loop-place : goal.invariant-loop-place
invariant-loop-place l = record {
  in_range : l.place ≤ length l.changes;
  count : l.count ≡ count_of l.kind (rows_of (rows_behind l.base (take l.place l.changes)));
  few : (n : ℕ) → n ≤ l.place → count_of l.kind (rows_of (rows_behind l.base (take n l.changes))) ≤ row_limit;
}
