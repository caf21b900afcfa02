use Rattle.csv_sets.proofs.LineSteps.{Lines}
use Rattle.csv_sets.proofs.writing.write_rows.Given as goal

abbrev pub invariant-loop-row : goal.invariant-loop-row
invariant-loop-row l = Lines l.keys l.rows l.fn.writer l.writer l.row-index
