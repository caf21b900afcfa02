use Rattle.std.proofs.Common.{◌≡◌, ◌++◌, length, map}
use Rattle.std.specs.Vec.Iter.{into_iter_items, into_iter_len}
use Rattle.version_changes.specs.grants.Granting.{granted}
use Rattle.version_core.specs.Version.{newest_of}
use Rattle.version_changes.proofs.grants.granting.all_granted.Given as goal

abbrev pub invariant-loop-entry : goal.invariant-loop-entry
invariant-loop-entry l = record {
  whole : l.yielded ++ into_iter_items l.entry-iterator ≡ l.fn.entries.items;
  rows : l.rows.items ≡ map (granted (newest_of l.table)) l.yielded;
  left : into_iter_len l.entry-iterator ≡ length (into_iter_items l.entry-iterator);
}
