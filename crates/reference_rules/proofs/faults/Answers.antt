use Rattle.std.proofs.Common.{◌≡◌, IfOk, subst}
use Rattle.reference_rules.specs.Faults.{row_faults}
use Rattle.reference_rules.proofs.Rest.{by_kinds}
use Rattle.reference_rules.proofs.faults.Goals as goal

-- kind by kind is row by row, since the rows ascend
pub returns : goal.returns
returns g c =
    let rows = g.R.Rows.rows c.args.rows.now in
    subst (λ all. IfOk c.faults_of_kinds.result (λ found. found.items ≡ all)) (by_kinds (row_faults rows) rows c.count.ensures.order) c.faults_of_kinds.ensures
