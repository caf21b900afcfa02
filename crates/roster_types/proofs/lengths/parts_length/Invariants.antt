use Rattle.std.proofs.Common.{◌≡◌, ◌+◌, min, sum_by, take}
use Rattle.roster_types.proofs.lengths.parts_length.Given as goal

abbrev pub invariant-loop-item : goal.invariant-loop-item
invariant-loop-item g l = l.length ≡ min (sum_by (λ x. g.T.Measured.length_of x + 1) (take l.item-index l.items)) 100000
