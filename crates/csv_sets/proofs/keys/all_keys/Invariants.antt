use Rattle.std.proofs.Common.{◌≡◌, ◌++◌, drop}
use Rattle.csv_sets.specs.Written.{all_keys}
use Rattle.csv_sets.proofs.keys.all_keys.Given as goal

abbrev pub invariant-loop-row : goal.invariant-loop-row
invariant-loop-row l = l.keys.items ++ all_keys (drop l.row-index l.rows) ≡ all_keys l.rows
