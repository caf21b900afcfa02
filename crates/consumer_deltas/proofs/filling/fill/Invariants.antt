use Rattle.std.proofs.Common.{◌+◌, ◌-◌, ◌*◌, ◌≤◌}
use Rattle.keeper_memory.specs.copy.Lists.{kind_count}
use Rattle.exchange_link.specs.Agreement.{CopyFits}
use Rattle.exchange_link.specs.Asked.{SendsOn}
use Rattle.exchange_link.specs.Causes.{IsMore, IsOwnReply, IsPageStatus}
use Rattle.exchange_link.specs.Exchanges.{LinkState}
use Rattle.exchange_link.specs.Pairs.{AtEach, CopyFrom, LinkFrom}
use Rattle.exchange_link.specs.Places.{IsStaged, kinds_of}
use Rattle.exchange_link.specs.Requests.{Asks, IsReady}
use Rattle.http_wire.specs.declared.reply_reading.WireReply.{WireReply}
use Rattle.consumer_sync.specs.Filling.{Fills, HasToken, PinLaw}
use Rattle.consumer_sync.specs.Requests.{IsUnmarked}
use Rattle.consumer_deltas.proofs.DeltaBoundLemmas.{SoFar}
use Rattle.consumer_deltas.specs.DeltaGathering.{most_asked}
use Rattle.consumer_deltas.specs.DeltaAnswers.{HasBase}
use Rattle.consumer_deltas.specs.DeltaRequests.{IsDeltaUnder}
use Rattle.consumer_deltas.proofs.filling.fill.Given as goal

abbrev pub invariant-kinds : goal.invariant-kinds
invariant-kinds g l =
    let S = g.C.CopyKeeper.stands_for in
    let T = g.L.Link.tells in
    record {
      holds : IsStaged (S l.copy) l.stage;
      token : HasToken l.by.token.now l.stage;
      few : kinds_of l.stage ≤ kind_count;
      room : l.count + most_asked * (kind_count - kinds_of l.stage) ≤ most_asked * kind_count;
      copy : CopyFrom (S l.fn.copy) (S l.copy) (Fills l.by.token.now);
      asked : IsMore (g.L.Link.asked l.fn.link) l.count (g.L.Link.asked l.link);
      link : LinkFrom (T l.fn.link) (T l.link) (Asks l.by.run 0 l.count IsUnmarked);
      sends : LinkFrom (T l.fn.link) (T l.link) (λ before after.
          SendsOn (IsDeltaUnder l.by.token.now l.by.limit l.by.base) l.by.run 0 l.count ⊥ before.sent after.sent);
      page : (w : WireReply) → IsOwnReply (g.L.Link.kept l.link) l.by.run l.count w → IsPageStatus w.status;
      heard : g.L.Link.fault_count l.fn.link ≤ g.L.Link.fault_count l.link;
      later : g.C.CopyKeeper.fault_count l.fn.copy ≤ g.C.CopyKeeper.fault_count l.copy;
      copy_leads : g.C.CopyKeeper.leads l.fn.copy l.copy;
      link_leads : g.L.Link.leads l.fn.link l.link;
      told : AtEach (S l.fn.copy) (T l.fn.link) (λ c t.
          CopyFits c t.hub × IsReady l.by.run 0 t.sent × HasBase l.by.base l.by.token.now c)
          → AtEach (S l.copy) (T l.link) (λ c t.
          (start : LinkState) × T l.fn.link start × Asks l.by.run 0 l.count IsUnmarked start t × CopyFits c t.hub
          × HasBase l.by.base l.by.token.now c × PinLaw l.fn.stage start.hub l.stage
          × SoFar l.count l.by.tries l.by.limit l.by.token.now l.by.base l.fn.stage l.stage t.hub);
    }

abbrev pub decreases-kinds : goal.decreases-kinds
decreases-kinds g l = kind_count - kinds_of l.stage
