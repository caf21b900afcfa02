use Rattle.std.proofs.Common.{◌+◌, sum_by, take}
use Rattle.roster_types.specs.Bounds.{IsBound}
use Rattle.roster_types.specs.Lengths.{reference_length}
use Rattle.roster_types.proofs.bounds.references_bound.Given as goal

abbrev pub invariant-loop-id : goal.invariant-loop-id
invariant-loop-id l = IsBound l.bound (sum_by (λ t. reference_length l.kind t + 1) (take l.id-index l.ids))
