use Rattle.std.proofs.Common.{arith}
use Rattle.std.proofs.lemmas.Result.{err_from_is_err_and}
use Rattle.item_store.proofs.EditLemmas.{more_items, row_shown}
use Rattle.item_store.proofs.items.items_of.Goals as goal

pub loop-row-preserved : goal.loop-row-preserved
loop-row-preserved c items named =
    rw c.in_ok-push.ensures.items
    (more_items c.args.rows.now items c.loop-row.row-index c.row-item.result c.loop-row.items.items c.in_ok-item_of.field-0 (omega arith) c.row-item.is named (c.loop-row.invariant items named) c.in_ok-item_of.ensures.value)

pub returns-in_err-item_of-clause-memory : goal.returns-in_err-item_of-clause-memory
returns-in_err-item_of-clause-memory c items named =
    let p = err_from_is_err_and c.from_residual.result c.from_residual.ensures.1 in
    rw (p.1, p.2) (c.in_err-item_of.ensures.memory _ (row_shown c.args.rows.now items c.loop-row.row-index c.row-item.result (omega arith) c.row-item.is named))
