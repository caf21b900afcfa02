use Rattle.row_deltas.proofs.DeltaLemmas.{same-delta}
use Rattle.row_deltas.proofs.laws.rows_of_which_nothing_differs_are_the_same.Goals as goal

pub returns : goal.returns
returns c = same-delta
