use Rattle.std.proofs.Common.{◌≡◌, ◌++◌, length}
use Rattle.std.specs.Vec.Iter.{into_iter_items, into_iter_len}
use Rattle.version_changes.proofs.ListedLemmas.{Changed}
use Rattle.version_changes.proofs.sets.listed.listed_changes.Given as goal

-- what the listed rows so far change
abbrev pub invariant-loop-listed : goal.invariant-loop-listed
invariant-loop-listed l = record {
  whole : l.yielded ++ into_iter_items l.listed-iterator ≡ l.fn.rows.items;
  changed : Changed l.feed l.at l.fn.rows.items l.view.rows (length l.yielded) l.changes;
  left : into_iter_len l.listed-iterator ≡ length (into_iter_items l.listed-iterator);
}
