use Rattle.std.proofs.Common.{◌-◌, ◌≤◌}
use Rattle.keeper_memory.specs.copy.Copies.{Copy}
use Rattle.consumer_outbox.specs.Sends.{SettledTo}
use Rattle.consumer_outbox.proofs.halves.settled_from.Given as goal

abbrev pub invariant-halves : goal.invariant-halves
invariant-halves g l =
    let S = g.C.CopyKeeper.stands_for in
    record {
      same : (c : Copy) → S l.copy c → S l.fn.copy c;
      settled : (c : Copy) → S l.copy c → SettledTo l.settled c.entries;
      above : l.fn.from ≤ l.settled;
      leads : g.C.CopyKeeper.leads l.fn.copy l.copy;
      later : g.C.CopyKeeper.fault_count l.fn.copy ≤ g.C.CopyKeeper.fault_count l.copy;
    }

abbrev pub decreases-halves : goal.decreases-halves
decreases-halves g l = l.waiting - l.settled
