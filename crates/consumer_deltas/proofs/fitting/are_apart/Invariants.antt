use Rattle.std.proofs.Common.{◌≡◌, drop}
use Rattle.consumer_deltas.specs.DeltaFits.{apart}
use Rattle.consumer_deltas.proofs.fitting.are_apart.Given as goal

abbrev pub invariant-loop-id : goal.invariant-loop-id
invariant-loop-id l = apart l.kind l.rows (drop l.id-index l.ids) ≡ apart l.kind l.rows l.ids
