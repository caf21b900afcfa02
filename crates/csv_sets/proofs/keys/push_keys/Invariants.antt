use Rattle.std.proofs.Common.{◌≡◌, ◌++◌, map, take}
use Rattle.csv_sets.specs.Written.{entry_key}
use Rattle.csv_sets.proofs.keys.push_keys.Given as goal

abbrev pub invariant-loop-entry : goal.invariant-loop-entry
invariant-loop-entry l = l.keys.items ≡ l.fn.keys.items ++ map entry_key (take l.entry-index l.entries)
