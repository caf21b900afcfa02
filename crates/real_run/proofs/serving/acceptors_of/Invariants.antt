use Rattle.std.proofs.Common.{◌≡◌, length}
use Rattle.real_run.proofs.serving.acceptors_of.Given as goal

abbrev pub invariant-loop-address : goal.invariant-loop-address
invariant-loop-address l = length l.acceptors.items ≡ l.address-index
