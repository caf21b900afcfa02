use Rattle.exchange_link.specs.Between.{copy_between, link_between}
use Rattle.consumer_commands.proofs.SameTasks.{delta_as}
use Rattle.consumer_commands.proofs.run.synchronise_delta.Goals as goal

pub returns-clause-delta : goal.returns-clause-delta
returns-clause-delta g c =
    delta_as c.args.task.now c.token.result.now c.limit.result c.tries.result c.token.ensures c.limit.ensures.value c.tries.ensures.value c.delta_sync.result
    (copy_between g.C.CopyKeeper.stands_for g.C.CopyKeeper.fault_count c.args.copy.now c.delta_sync.new.copy)
    (link_between g.L.Link.tells g.L.Link.asked g.L.Link.missed g.L.Link.kept g.L.Link.fault_count c.args.link.now c.delta_sync.new.link)
    (record {
      copy = c.delta_sync.ensures.copy;
      base = c.delta_sync.ensures.base;
      faulted = c.delta_sync.ensures.faulted;
      last_run = c.delta_sync.ensures.last_run;
      cause = c.delta_sync.ensures.cause;
      later = c.delta_sync.ensures.later;
      link_later = c.delta_sync.ensures.link_later;
      asks = c.delta_sync.ensures.asks;
      told = c.delta_sync.ensures.told;
      bound = c.delta_sync.ensures.bound;
      cause_told = c.delta_sync.ensures.cause_told;
      complete = c.delta_sync.ensures.complete;
      marks = c.delta_sync.ensures.marks;
    })
