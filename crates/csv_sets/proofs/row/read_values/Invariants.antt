use Rattle.csv.specs.Records.{fields_of}
use Rattle.roster_values.specs.Table.{table}
use Rattle.csv_sets.proofs.ValueSteps.{Walks}
use Rattle.csv_sets.proofs.row.read_values.Given as goal

abbrev pub invariant-loop-field : goal.invariant-loop-field
invariant-loop-field l = Walks l.mode (table l.fn.kind) l.places (fields_of l.cells) l.values.items l.field
