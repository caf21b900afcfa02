use Rattle.std.proofs.Common.{◌+◌, sum_by, take}
use Rattle.roster_types.specs.Bounds.{IsBound}
use Rattle.roster_types.proofs.bounds.parts_bound.Given as goal

abbrev pub invariant-loop-item : goal.invariant-loop-item
invariant-loop-item g l = IsBound l.bound (sum_by (λ x. g.T.Bounded.length_of x + 1) (take l.item-index l.items))
