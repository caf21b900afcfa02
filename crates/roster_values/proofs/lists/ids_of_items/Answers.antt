use Rattle.std.proofs.Common.{◌≤◌, length, arith}
use Rattle.roster_values.specs.Lists.{id_of, read_all}
use Rattle.roster_values.proofs.ListSteps.{all_read, item_read, item_refused, passed_on}
use Rattle.roster_values.proofs.lists.ids_of_items.Goals as goal

pub loop-item-preserved : goal.loop-item-preserved
loop-item-preserved c = record {
  same = item_read id_of (read_all id_of c.args.items.now) c.loop-item.ids c.push.new.self c.args.items.now c.loop-item.item-index c.item-item.result c.as_str.result.now c.in_ok-id.id
      c.loop-item.invariant.same c.loop-item-test.true c.item-item.is c.as_str.ensures c.in_ok-id.ensures c.in_ok-push.ensures.ok;
}

pub returns : goal.returns
returns c =
    let past : length c.args.items.now ≤ c.loop-item.item-index = omega arith in
    all_read id_of (read_all id_of c.args.items.now) c.loop-item.ids c.args.items.now c.loop-item.item-index c.loop-item.invariant.same past

pub returns-in_err-id : goal.returns-in_err-id
returns-in_err-id c =
    passed_on (λ i. i) c.from_residual.result c.in_err-id.field-0.0 (read_all id_of c.args.items.now) c.from_residual.ensures.1
    (item_refused id_of (read_all id_of c.args.items.now) c.loop-item.ids c.args.items.now c.loop-item.item-index c.item-item.result c.as_str.result.now c.in_err-id.field-0.0
    c.loop-item.invariant.same c.loop-item-test.true c.item-item.is c.as_str.ensures c.in_err-id.ensures)
