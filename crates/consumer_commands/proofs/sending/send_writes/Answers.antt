use Rattle.exchange_link.specs.Between.{copy_between, link_between}
use Rattle.consumer_commands.proofs.SameTasks.{sent_as}
use Rattle.consumer_commands.proofs.sending.send_writes.Goals as goal

pub returns-clause-sent : goal.returns-clause-sent
returns-clause-sent g c =
    sent_as c.args.task.now c.token.result.now c.tries.result c.token.ensures c.tries.ensures.value c.send.result
    (copy_between g.C.CopyKeeper.stands_for g.C.CopyKeeper.fault_count c.args.copy.now c.send.new.copy)
    (link_between g.L.Link.tells g.L.Link.asked g.L.Link.missed g.L.Link.kept g.L.Link.fault_count c.args.link.now c.send.new.link)
    (record {
      copy = c.send.ensures.copy;
      last_run = c.send.ensures.last_run;
      cause = c.send.ensures.cause;
      asks = c.send.ensures.asks;
      told = c.send.ensures.told;
      complete = c.send.ensures.complete;
    })
