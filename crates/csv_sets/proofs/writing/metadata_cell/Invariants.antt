use Rattle.std.proofs.Common.{◌≡◌, drop}
use Rattle.csv_sets.specs.Written.{metadata_cell}
use Rattle.csv_sets.proofs.writing.metadata_cell.Given as goal

abbrev pub invariant-loop-entry : goal.invariant-loop-entry
invariant-loop-entry l = metadata_cell (drop l.entry-index l.entries) l.key ≡ metadata_cell l.entries l.key
