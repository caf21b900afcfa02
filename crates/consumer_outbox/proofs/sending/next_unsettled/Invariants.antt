use Rattle.std.proofs.Common.{◌-◌, ◌≤◌}
use Rattle.keeper_memory.specs.copy.Copies.{Copy}
use Rattle.keeper_memory.specs.declared.copy.state.TheConstants.{LAST}
use Rattle.consumer_outbox.specs.Sends.{SettledTo}
use Rattle.consumer_outbox.proofs.sending.next_unsettled.Given as goal

abbrev pub invariant-settled : goal.invariant-settled
invariant-settled g l =
    let S = g.C.CopyKeeper.stands_for in
    record {
      same : (c : Copy) → S l.copy c → S l.fn.copy c;
      walked : (c : Copy) → S l.copy c → SettledTo l.at c.entries;
      low : l.fn.after ≤ l.at;
      leads : g.C.CopyKeeper.leads l.fn.copy l.copy;
      later : g.C.CopyKeeper.fault_count l.fn.copy ≤ g.C.CopyKeeper.fault_count l.copy;
    }

abbrev pub decreases-settled : goal.decreases-settled
decreases-settled g l = LAST - l.at
