use Rattle.std.proofs.Common.{length}
use Rattle.csv_sets.proofs.ManifestSteps.{Says}
use Rattle.csv_sets.proofs.manifest.read_said.Given as goal

abbrev pub invariant-loop-cells : goal.invariant-loop-cells
invariant-loop-cells l = Says l.said.items l.number l.reader l.fn.reader

abbrev pub decreases-loop-cells : goal.decreases-loop-cells
decreases-loop-cells l = length l.reader
