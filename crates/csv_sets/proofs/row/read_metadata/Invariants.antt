use Rattle.csv.specs.Records.{fields_of}
use Rattle.csv_sets.proofs.MetadataSteps.{Gathers}
use Rattle.csv_sets.proofs.row.read_metadata.Given as goal

abbrev pub invariant-loop-column : goal.invariant-loop-column
invariant-loop-column l = Gathers l.columns (fields_of l.cells) l.metadata l.column-index
