use Rattle.std.proofs.Common.{◌∙◌, arith}
use Rattle.std.proofs.lemmas.List.{length-map}
use Rattle.std.proofs.lemmas.List.Sums.{count_by-le-length}
use Rattle.roster_types.specs.Keys.{is_of_kind}
use Rattle.version_core.specs.Changes.{rows_of}
use Rattle.version_core.specs.declared.row_change.RowChange.{RowChange}
use Rattle.version_core.proofs.RowsOf.{is_sorted-rows_of}
use Rattle.version_core.proofs.sorted_rows.SortedRowsRefs.ascend.Goals as goal

pub returns-clause-order : goal.returns-clause-order
returns-clause-order c = rw (← c.self.view_is) (is_sorted-rows_of c.self.inside.changes.items ∙ c.self.invariant)

pub returns-clause-few : goal.returns-clause-few
returns-clause-few c = rw (← c.self.view_is) (λ kind.
    let changes = c.self.inside.changes.items in
    let most = count_by-le-length (is_of_kind kind) (rows_of changes) in
    let long = length-map changes (λ (change : RowChange). change.row) in
    omega (arith, most, long, c.len-count.ensures, c.len-count.type_inv))
