use Rattle.std.proofs.Common.{◌≤◌, length, arith}
use Rattle.roster_values.specs.Lists.{read_all, user_id_of}
use Rattle.roster_values.proofs.ListSteps.{all_read, item_read, item_refused, passed_on}
use Rattle.roster_values.proofs.user_id.user_ids_of_items.Goals as goal

pub loop-item-preserved : goal.loop-item-preserved
loop-item-preserved c = record {
  same = item_read user_id_of (read_all user_id_of c.args.items.now) c.loop-item.user_ids c.push.new.self c.args.items.now c.loop-item.item-index c.item-item.result c.as_str.result.now c.in_ok-user_id.user_id
      c.loop-item.invariant.same c.loop-item-test.true c.item-item.is c.as_str.ensures c.in_ok-user_id.ensures c.in_ok-push.ensures.ok;
}

pub returns : goal.returns
returns c =
    let past : length c.args.items.now ≤ c.loop-item.item-index = omega arith in
    all_read user_id_of (read_all user_id_of c.args.items.now) c.loop-item.user_ids c.args.items.now c.loop-item.item-index c.loop-item.invariant.same past

pub returns-in_err-user_id : goal.returns-in_err-user_id
returns-in_err-user_id c =
    passed_on (λ i. i) c.from_residual.result c.in_err-user_id.field-0.0 (read_all user_id_of c.args.items.now) c.from_residual.ensures.1
    (item_refused user_id_of (read_all user_id_of c.args.items.now) c.loop-item.user_ids c.args.items.now c.loop-item.item-index c.item-item.result c.as_str.result.now c.in_err-user_id.field-0.0
    c.loop-item.invariant.same c.loop-item-test.true c.item-item.is c.as_str.ensures c.in_err-user_id.ensures)
