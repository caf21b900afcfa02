use Rattle.std.proofs.Common.{◌-◌, vec_len}
use Rattle.version_core.specs.History.{AreFresh}
use Rattle.version_core.proofs.reserved.reserve_fresh.Given as goal

abbrev pub invariant-loop-alloc : goal.invariant-loop-alloc
invariant-loop-alloc l = AreFresh l.fresh.items

abbrev pub decreases-loop-alloc : goal.decreases-loop-alloc
decreases-loop-alloc l = l.count - vec_len l.fresh
