use Rattle.row_deltas.proofs.DeltaLemmas.{following-deltas}
use Rattle.row_deltas.proofs.laws.deltas_follow_one_another.Goals as goal

pub returns : goal.returns
returns c = following-deltas
