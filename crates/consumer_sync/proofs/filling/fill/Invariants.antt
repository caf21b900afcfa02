use Rattle.std.proofs.Common.{◌+◌, ◌*◌, ◌≤◌}
use Rattle.keeper_memory.specs.copy.Copies.{largest_tries}
use Rattle.keeper_memory.specs.copy.Lists.{kind_count}
use Rattle.exchange_link.specs.Agreement.{CopyFits}
use Rattle.exchange_link.specs.Asked.{IsPageUnder, SendsOn}
use Rattle.exchange_link.specs.Causes.{IsLast, IsMore, IsOwnReply, IsPageStatus}
use Rattle.exchange_link.specs.Exchanges.{LinkState}
use Rattle.exchange_link.specs.Pairs.{AtEach, CopyFrom, LinkFrom}
use Rattle.exchange_link.specs.Places.{IsStaged, kinds_of}
use Rattle.http_wire.specs.declared.reply_reading.WireReply.{WireReply}
use Rattle.keeper_memory.specs.declared.copy.state.StageState.{StageState}
use Rattle.std.specs.Prelude.{Option}
use Rattle.consumer_sync.specs.Filling.{AreReady, BoundSoFar, Fills, HasToken, IsSmall, PinLaw, request_of, weight}
use Rattle.exchange_link.specs.Requests.{Asks, IsReady}
use Rattle.consumer_sync.specs.Requests.{IsUnmarked}
use Rattle.consumer_sync.proofs.filling.fill.Given as goal

abbrev pub invariant-rounds : goal.invariant-rounds
invariant-rounds g l =
    let S = g.C.CopyKeeper.stands_for in
    let T = g.L.Link.tells in
    record {
      holds : IsStaged (S l.copy) l.stage;
      token : HasToken l.by.token.now l.stage;
      few : kinds_of l.stage ≤ kind_count;
      small : IsSmall l.fn.stage → IsSmall l.stage;
      room : l.count + largest_tries * weight l.stage ≤ 2000000000;
      copy : CopyFrom (S l.fn.copy) (S l.copy) (Fills l.by.token.now);
      link : (after : LinkState) → T l.link after → (before : LinkState) × T l.fn.link before × Asks l.by.run 0 l.count IsUnmarked before after
          × (IsSmall l.fn.stage → IsReady l.by.run 0 before.sent → PinLaw l.fn.stage before.hub l.stage);
      agree : AreReady l.by.run (S l.fn.copy) (T l.fn.link) → AtEach (S l.copy) (T l.link) (λ c t. CopyFits c t.hub);
      asked : IsMore (g.L.Link.asked l.fn.link) l.count (g.L.Link.asked l.link);
      bound : AreReady l.by.run (S l.fn.copy) (T l.fn.link)
          → AtEach (S l.copy) (T l.link) (λ c t. BoundSoFar l.count l.by.tries l.by.limit l.by.token.now l.fn.stage l.stage t.hub);
      heard : g.L.Link.fault_count l.fn.link ≤ g.L.Link.fault_count l.link;
      later : g.C.CopyKeeper.fault_count l.fn.copy ≤ g.C.CopyKeeper.fault_count l.copy;
      copy_leads : g.C.CopyKeeper.leads l.fn.copy l.copy;
      link_leads : g.L.Link.leads l.fn.link l.link;
      page : (w : WireReply) → IsOwnReply (g.L.Link.kept l.link) l.by.run l.count w → IsPageStatus w.status;
      sends : LinkFrom (T l.fn.link) (T l.link) (λ before after.
          SendsOn (IsPageUnder l.by.token.now l.by.limit) l.by.run 0 l.count ⊥ before.sent after.sent);
      last : (asked : Option StageState) × (1 ≤ l.count → (t : LinkState) → T l.link t → IsLast (request_of asked l.by.run l.count l.by.token.now l.by.limit) t.sent);
    }

abbrev pub decreases-rounds : goal.decreases-rounds
decreases-rounds g l = weight l.stage
