use Rattle.std.proofs.Common.{[]}
use Rattle.reference_rules.proofs.ListSteps.{Collects}
use Rattle.reference_rules.specs.Faults.{kind_faults}
use Rattle.reference_rules.proofs.faults_of_kinds.Given as goal

abbrev pub invariant-loop-kind : goal.invariant-loop-kind
invariant-loop-kind g l = Collects (kind_faults (g.R.Rows.rows l.rows)) l.kinds l.kind-index [] l.found.items
