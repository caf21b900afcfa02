use Rattle.std.proofs.Common.{◌≡◌, ◌+◌, min, sum_by, take}
use Rattle.roster_types.specs.Lengths.{reference_length}
use Rattle.roster_types.proofs.lengths.references_length.Given as goal

abbrev pub invariant-loop-id : goal.invariant-loop-id
invariant-loop-id l = l.length ≡ min (sum_by (λ t. reference_length l.kind t + 1) (take l.id-index l.ids)) 100000
