use Rattle.std.proofs.Common.{◌≡◌, drop, option_copied}
use Rattle.consumer_deltas.specs.DeltaJudging.{ids_ascend}
use Rattle.consumer_deltas.proofs.judging.are_ascending.Given as goal

abbrev pub invariant-loop-id : goal.invariant-loop-id
invariant-loop-id l = ids_ascend (option_copied l.below) (drop l.id-index l.ids) ≡ ids_ascend (option_copied l.fn.last) l.ids
