use Rattle.std.proofs.Common.{◌≡◌, map, string_bytes, take}
use Rattle.roster_types.specs.Records.{all_values}
use Rattle.csv_sets.specs.Written.{field_cell}
use Rattle.csv_sets.proofs.writing.field_cells.Given as goal

abbrev pub invariant-loop-place : goal.invariant-loop-place
invariant-loop-place l = map string_bytes l.cells.items ≡ map field_cell (take l.place (all_values l.row))
