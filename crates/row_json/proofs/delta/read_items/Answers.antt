use Rattle.std.proofs.Common.{arith}
use Rattle.std.proofs.lemmas.List.{drop_all}
use Rattle.std.proofs.lemmas.Result.{err_from_is_err_and}
use Rattle.roster_base.proofs.ListSteps.{next_item}
use Rattle.row_json.specs.Deltas.{gone_item}
use Rattle.row_json.proofs.ItemSteps.{collects-end, collects-on, collects-start, reads-fail}
use Rattle.row_json.proofs.delta.read_items.Goals as goal

pub loop-item-init : goal.loop-item-init
loop-item-init c = collects-start gone_item _ c.args.items.now c.new-ids.ensures.items

pub loop-item-preserved : goal.loop-item-preserved
loop-item-preserved c =
    collects-on c.item-item.result _ _ c.loop-item.invariant (next_item c.args.items.now c.loop-item.item-index c.item-item.result c.item-item.result c.loop-item-test.true c.item-item.is)
    c.in_ok-id.ensures c.in_ok-push.ensures.items

pub returns : goal.returns
returns c = collects-end c.loop-item.invariant (drop_all c.loop-item.item-index c.args.items.now (omega arith))

pub returns-in_err-id : goal.returns-in_err-id
returns-in_err-id c =
    let p = err_from_is_err_and c.from_residual.result c.from_residual.ensures.1 in
    rw (p.1, p.2)
    (reads-fail c.item-item.result c.in_err-id.field-0.0 c.loop-item.invariant.reads
    (next_item c.args.items.now c.loop-item.item-index c.item-item.result c.item-item.result c.loop-item-test.true c.item-item.is) c.in_err-id.ensures)
