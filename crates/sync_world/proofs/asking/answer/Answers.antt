use Rattle.std.proofs.Common.{arith}
use Rattle.sync_world.proofs.DoneLemmas.{if_done, took}
use Rattle.sync_world.proofs.WalkLemmas.{walk_take}
use Rattle.sync_world.proofs.asking.answer.Goals as goal

pub returns-clause-walks : goal.returns-clause-walks
returns-clause-walks c = walk_take c.args.request.now c.args.at c.take-reply.result c.args.world.now c.take-reply.new.self (omega (arith, c.faults.ensures.faults)) c.take-reply.ensures.step c.take-reply.ensures.calls

pub returns-clause-acted : goal.returns-clause-acted
returns-clause-acted c =
    if_done c.say_reply-told.result (took c.args.request.now c.args.at c.take-reply.result c.args.world.now c.take-reply.new.self c.args.said.now.items c.say_reply-told.new.said.items (omega (arith, c.faults.ensures.faults)) c.take-reply.ensures.step c.take-reply.ensures.calls) c.say_reply-told.ensures
