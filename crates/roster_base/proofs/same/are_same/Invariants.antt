use Rattle.std.proofs.Common.{◌≡◌, take}
use Rattle.roster_base.proofs.same.are_same.Given as goal

abbrev pub invariant-loop-place : goal.invariant-loop-place
invariant-loop-place g l = take l.place l.left ≡ take l.place l.right
