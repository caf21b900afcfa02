use Rattle.std.proofs.Common.{arith}
use Rattle.sync_world.proofs.DeliveryLemmas.{gives}
use Rattle.sync_world.proofs.ExchangeLemmas.{if_ok_each, is_own}
use Rattle.sync_world.proofs.WalkLemmas.{walk_take}
use Rattle.sync_world.proofs.delivery.answered.Goals as goal

pub returns-clause-walks : goal.returns-clause-walks
returns-clause-walks c = walk_take c.args.request.now c.args.at c.take-reply.result c.args.world.now c.take-reply.new.self (omega (arith, c.faults.ensures.faults)) c.take-reply.ensures.step c.take-reply.ensures.calls

pub returns-clause-own : goal.returns-clause-own
returns-clause-own c xs ys =
    let (failed, counts, step) = c.take-reply.ensures.step in
    if_ok_each _ _ c.own_text-text.result (λ text own. is_own c.args.request.now c.args.at c.take-reply.result text.items c.args.world.now c.take-reply.new.self failed xs ys c.requires c.faults.ensures.hub own step counts) c.own_text-text.ensures

pub returns-clause-gives : goal.returns-clause-gives
returns-clause-gives c =
    if_ok_each _ _ c.own_text-text.result (λ text own. gives c.args.request.now c.args.at c.take-reply.result text.items c.args.world.now c.take-reply.new.self (omega (arith, c.faults.ensures.faults)) c.take-reply.ensures.step c.take-reply.ensures.calls own) c.own_text-text.ensures
