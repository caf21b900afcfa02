use Rattle.std.proofs.Common.{◌≡◌, length}
use Rattle.real_run.proofs.serving.folders_of.Given as goal

abbrev pub invariant-loop : goal.invariant-loop
invariant-loop l = length l.folders.items ≡ l.index
