use Rattle.roster_types.specs.Records.{all_values}
use Rattle.roster_values.specs.Table.{table}
use Rattle.reference_rules.proofs.FieldSteps.{Finds}
use Rattle.reference_rules.proofs.add_row_faults.Given as goal

abbrev pub invariant-loop-place : goal.invariant-loop-place
invariant-loop-place g l = Finds (g.R.Rows.rows l.rows) l.row (table l.row.kind) (all_values l.row) l.place l.fn.found.items l.found.items
