use Rattle.csv.specs.Records.{fields_of}
use Rattle.csv_sets.specs.Headers.{columns_of}
use Rattle.csv_sets.proofs.PlaceSteps.{Places}
use Rattle.csv_sets.proofs.header.read_places.Given as goal

abbrev pub invariant-loop-field : goal.invariant-loop-field
invariant-loop-field l = Places l.kind l.mode (columns_of (fields_of l.cells)) l.places.items l.field
