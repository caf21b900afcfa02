use Rattle.csv_sets.proofs.ManifestSteps.{Lists}
use Rattle.csv_sets.proofs.manifest.files_said.Given as goal

abbrev pub invariant-loop-kind : goal.invariant-loop-kind
invariant-loop-kind l = Lists l.said l.kinds l.files.items l.kind-index
