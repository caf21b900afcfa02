use Rattle.std.proofs.Common.{◌+◌, sym, ap, ◌∙◌, arith}
use Rattle.std.proofs.lemmas.List.Sums.{count_by-le-length}
use Rattle.version_changes.proofs.CountLemmas.{count-overlaid}
use Rattle.version_changes.specs.sets.Steps.{added, is_added}
use Rattle.version_core.proofs.OrderLemmas.{Ascends-overlaid}
use Rattle.version_core.proofs.RowsOf.{is_sorted-rows_of}
use Rattle.version_core.specs.Changes.{AreChanges, change_key}
use Rattle.version_core.specs.Order.{overlaid}
use Rattle.version_changes.proofs.sets.draft.DraftRows.count.Goals as goal

pub overflow_add-result : goal.overflow_add-result
overflow_add-result c =
    let few = c.args.self.now.few c.args.kind in
    let fits = count_by-le-length (is_added c.args.kind c.args.self.now.view.now.rows) c.as_slice.result.now in
    omega (arith, c.count.ensures.count, c.added.ensures, c.as_slice.type_inv.1)

pub returns-clause-count : goal.returns-clause-count
returns-clause-count c =
    let rows = c.args.self.now.view.now.rows in
    let changes = c.args.self.now.changes.now in
    let up : AreChanges rows = sym (is_sorted-rows_of rows) ∙ c.count.ensures.order in
    (λ i. c.count.ensures.count i + (c.added.ensures ∙ ap (added c.args.kind rows) c.as_slice.ensures.changes) i) ∙ sym (count-overlaid c.args.kind rows changes up c.as_slice.ensures.sorted)

pub returns-clause-order : goal.returns-clause-order
returns-clause-order c =
    let rows = c.args.self.now.view.now.rows in
    let changes = c.args.self.now.changes.now in
    let up : AreChanges rows = sym (is_sorted-rows_of rows) ∙ c.count.ensures.order in
    is_sorted-rows_of (overlaid change_key rows changes) ∙ Ascends-overlaid change_key rows changes up
