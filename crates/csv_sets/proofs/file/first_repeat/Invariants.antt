use Rattle.csv_sets.proofs.RepeatSteps.{Seeks}
use Rattle.csv_sets.proofs.file.first_repeat.Given as goal

abbrev pub invariant-loop-place : goal.invariant-loop-place
invariant-loop-place l = Seeks l.ids l.rows l.place
