use Rattle.std.proofs.Common.{◌≡◌, drop}
use Rattle.consumer_deltas.specs.DeltaFits.{apart}
use Rattle.consumer_deltas.proofs.fitting.stand_apart.Given as goal

abbrev pub invariant-loop-row : goal.invariant-loop-row
invariant-loop-row l = apart l.kind (drop l.row-index l.rows) l.ids ≡ apart l.kind l.rows l.ids
