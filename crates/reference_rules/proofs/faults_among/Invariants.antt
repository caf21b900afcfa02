use Rattle.std.proofs.Common.{[]}
use Rattle.reference_rules.proofs.ListSteps.{Collects}
use Rattle.reference_rules.specs.Faults.{row_faults}
use Rattle.reference_rules.specs.Walks.{Fits}
use Rattle.reference_rules.proofs.faults_among.Given as goal

abbrev pub invariant-loop-item : goal.invariant-loop-item
invariant-loop-item g l =
    let rows = g.R.Rows.rows l.rows in
    record {
      found : Collects (λ item. row_faults rows (g.C.HasRow.row_of item)) l.among l.item-index [] l.found.items;
      walk : Fits rows l.walk;
    }
