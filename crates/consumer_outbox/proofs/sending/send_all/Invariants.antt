use Rattle.std.proofs.Common.{◌-◌, ◌*◌, ◌≤◌}
use Rattle.keeper_memory.specs.copy.Copies.{Copy, largest_tries}
use Rattle.keeper_memory.specs.declared.copy.state.TheConstants.{LAST}
use Rattle.exchange_link.specs.Asked.{IsWriteUnder, SendsOn}
use Rattle.exchange_link.specs.Causes.{IsMore, IsOwnReply}
use Rattle.exchange_link.specs.Exchanges.{LinkState}
use Rattle.http_wire.specs.declared.reply_reading.WireReply.{WireReply}
use Rattle.exchange_link.specs.Requests.{Moved}
use Rattle.consumer_outbox.specs.Sends.{Ready, SettledTo, SoFar}
use Rattle.consumer_outbox.specs.Verdicts.{Settled}
use Rattle.consumer_outbox.proofs.sending.send_all.Given as goal

abbrev pub invariant-entries : goal.invariant-entries
invariant-entries g l =
    let S = g.C.CopyKeeper.stands_for in
    let T = g.L.Link.tells in
    record {
      walked : (c : Copy) → S l.copy c → SettledTo l.after c.entries;
      few : l.settled ≤ l.after;
      room : l.count ≤ largest_tries * l.settled;
      bound : l.count ≤ l.by.tries * l.settled;
      asked : IsMore (g.L.Link.asked l.fn.link) l.count (g.L.Link.asked l.link);
      kept : (w : WireReply) → IsOwnReply (g.L.Link.kept l.link) l.by.run l.count w → Settled w;
      copy : (after : Copy) → S l.copy after → (before : Copy) × S l.fn.copy before × SoFar l.settled before after;
      link : (after : LinkState) → T l.link after → (before : LinkState) × T l.fn.link before × Moved before after;
      sends : (after : Copy) (t : LinkState) → S l.copy after → T l.link t → (before : Copy) × (first : LinkState) × S l.fn.copy before × T l.fn.link first × SoFar l.settled before after
          × SendsOn (IsWriteUnder l.by.token.now before.entries) l.by.run 0 l.count ⊥ first.sent t.sent;
      agree : ((c : Copy) (t : LinkState) → S l.fn.copy c → T l.fn.link t → Ready l.by.run 0 c t)
          → (c : Copy) (t : LinkState) → S l.copy c → T l.link t → Ready l.by.run l.count c t;
      heard : g.L.Link.fault_count l.fn.link ≤ g.L.Link.fault_count l.link;
      copy_leads : g.C.CopyKeeper.leads l.fn.copy l.copy;
      link_leads : g.L.Link.leads l.fn.link l.link;
      later : g.C.CopyKeeper.fault_count l.fn.copy ≤ g.C.CopyKeeper.fault_count l.copy;
    }

abbrev pub decreases-entries : goal.decreases-entries
decreases-entries g l = LAST - l.after
