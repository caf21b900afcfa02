use Rattle.csv.specs.Records.{fields_of}
use Rattle.csv_sets.specs.Headers.{columns_of}
use Rattle.csv_sets.proofs.HeaderSteps.{Checks}
use Rattle.csv_sets.proofs.header.read_metadata.Given as goal

abbrev pub invariant-loop-place : goal.invariant-loop-place
invariant-loop-place l = Checks l.kind (columns_of (fields_of l.cells)) l.seen l.metadata.items l.place
