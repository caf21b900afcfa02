use Rattle.std.proofs.Common.{◌≡◌, ◌+◌, ◌-◌, ◌*◌, ◌^◌, ◌<◌, ◌≤◌, ℕ, true}
use Rattle.std.specs.Prelude.{IfSome}
use Rattle.consumer_deltas.proofs.DeltaGatherLemmas.{AreOpen, IsPinOf, left_of}
use Rattle.consumer_deltas.proofs.DeltaMeantLemmas.{GatheredBy}
use Rattle.consumer_deltas.specs.DeltaJudging.{count_in, entry_limit}
use Rattle.consumer_deltas.specs.DeltaRequests.{IsDeltaUnder}
use Rattle.consumer_deltas.specs.DeltaTelling.{MayAsk}
use Rattle.consumer_sync.specs.Judging.{agrees}
use Rattle.consumer_sync.specs.Requests.{IsUnmarked}
use Rattle.exchange_link.specs.Asked.{SendsOn}
use Rattle.exchange_link.specs.Causes.{IsMore}
use Rattle.exchange_link.specs.Exchanges.{LinkState}
use Rattle.exchange_link.specs.Pairs.{LinkFrom}
use Rattle.exchange_link.specs.Requests.{Asks, IsReady}
use Rattle.consumer_deltas.proofs.gathering.gather.Given as goal
use Rattle.keeper_memory.specs.copy.Copies.{largest_tries}

abbrev pub invariant-pages : goal.invariant-pages
invariant-pages g l =
    let T = g.L.Link.tells in
    record {
      kind : l.here.kind ≡ l.fn.place.kind;
      base : l.here.base ≡ l.fn.place.base;
      limit : l.here.limit ≡ l.fn.place.limit;
      pin : IfSome l.here.pin (λ n. n < 2 ^ 64);
      same : (pin : ℕ) → agrees l.here.pin pin ≡ true → agrees l.fn.place.pin pin ≡ true;
      asked_for : IsPinOf l.here.pin l.fn.place.pin;
      fresh : l.here.is_fresh ≡ true → l.fn.place.is_fresh ≡ true;
      entries : AreOpen l.fn.place.kind l.sofar;
      held : l.sofar.held ≡ l.fn.held;
      count : l.fn.count ≤ l.count;
      room : l.count + largest_tries * left_of l.sofar.total (count_in l.sofar) ≤ l.fn.count + largest_tries * (entry_limit + 1);
      asked : IsMore (g.L.Link.asked l.fn.link) (l.count - l.fn.count) (g.L.Link.asked l.link);
      later : g.L.Link.fault_count l.fn.link ≤ g.L.Link.fault_count l.link;
      link_leads : g.L.Link.leads l.fn.link l.link;
      told : (after : LinkState) → T l.link after
          → (before : LinkState) × T l.fn.link before × Asks l.by.run l.fn.count l.count IsUnmarked before after
          × (IsReady l.by.run l.fn.count before.sent → MayAsk before.hub l.by.token.now l.fn.place l.fn.held
          → GatheredBy before.hub after.hub l.by.token.now l.fn.place l.here l.sofar l.by.tries (l.count - l.fn.count));
      asks : LinkFrom (T l.fn.link) (T l.link) (λ before after.
          SendsOn (IsDeltaUnder l.by.token.now l.fn.place.limit l.fn.place.base) l.by.run l.fn.count l.count ⊥
          before.sent after.sent);
    }

abbrev pub decreases-pages : goal.decreases-pages
decreases-pages g l = left_of l.sofar.total (count_in l.sofar)
