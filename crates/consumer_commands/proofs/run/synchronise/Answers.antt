use Rattle.consumer_commands.proofs.SameTasks.{synced_as}
use Rattle.consumer_commands.proofs.run.synchronise.Goals as goal

pub returns-clause-sync : goal.returns-clause-sync
returns-clause-sync g c =
    synced_as c.args.task.now c.token.result.now c.limit.result c.tries.result c.token.ensures c.limit.ensures.value c.tries.ensures.value _ _ _
    (record {
      copy = c.sync.ensures.copy;
      faulted = c.sync.ensures.faulted;
      last_run = c.sync.ensures.last_run;
      later = c.sync.ensures.later;
      cause = c.sync.ensures.cause;
      asks = c.sync.ensures.asks;
      told = c.sync.ensures.told;
      bound = c.sync.ensures.bound;
      cause_told = c.sync.ensures.cause_told;
      complete = c.sync.ensures.complete;
      marks = c.sync.ensures.marks;
    })
