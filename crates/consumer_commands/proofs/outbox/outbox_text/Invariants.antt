use Rattle.std.proofs.Common.{◌≡◌, ◌-◌, ◌≤◌, List, string_bytes}
use Rattle.std.specs.List.{flat_map}
use Rattle.keeper_memory.specs.copy.Copies.{Copy}
use Rattle.keeper_memory.specs.declared.copy.entry.OutEntry.{OutEntry}
use Rattle.keeper_memory.specs.declared.copy.state.TheConstants.{LAST}
use Rattle.consumer_commands.specs.SendLines.{entry_text}
use Rattle.consumer_commands.proofs.OutboxLemmas.{RiseTo, up_to}
use Rattle.consumer_commands.proofs.outbox.outbox_text.Given as goal

abbrev pub invariant-entries : goal.invariant-entries
invariant-entries g l =
    let S = g.C.CopyKeeper.stands_for in
    record {
      last : l.after ≤ LAST;
      done : (done : List OutEntry) × RiseTo 0 done l.after × (string_bytes l.text ≡ flat_map entry_text done) × ((c : Copy) → S l.copy c → done ≡ up_to l.after c.entries);
      same : (c : Copy) → S l.copy c → S l.fn.copy c;
      leads : g.C.CopyKeeper.leads l.fn.copy l.copy;
      faults : g.C.CopyKeeper.fault_count l.copy ≡ g.C.CopyKeeper.fault_count l.fn.copy;
    }

abbrev pub decreases-entries : goal.decreases-entries
decreases-entries g l = LAST - l.after
