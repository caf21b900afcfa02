use Rattle.serde_json.specs.View.{view}
use Rattle.roster_values.specs.Table.{table}
use Rattle.row_json.proofs.FieldSteps.{Fields}
use Rattle.row_json.proofs.read.read_values.Given as goal

abbrev pub invariant-loop-place : goal.invariant-loop-place
invariant-loop-place l = Fields l.mode l.first (table l.fn.kind) (view l.row) l.values.items l.place
