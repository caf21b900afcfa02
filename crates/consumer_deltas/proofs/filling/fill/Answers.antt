use Rattle.std.proofs.Common.{arith, ◌≡◌, ◌⊎◌, ◌+◌, ◌-◌, ◌<◌, Option, None, refl, sym, subst, ap, ◌∙◌, inl}
use Rattle.std.proofs.lemmas.Option.{none-some}
use Rattle.keeper_memory.specs.copy.Copies.{Copy}
use Rattle.keeper_memory.specs.copy.Lists.{kind_count}
use Rattle.keeper_memory.specs.declared.copy.state.StageState.{StageState}
use Rattle.exchange_link.proofs.AskLemmas.{asks_refl, asks_trans}
use Rattle.exchange_link.proofs.AskedLemmas.{sends_refl, sends_trans, sends_weaker}
use Rattle.exchange_link.specs.Agreement.{CopyFits}
use Rattle.exchange_link.specs.Causes.{IsMore}
use Rattle.exchange_link.specs.Exchanges.{LinkState}
use Rattle.exchange_link.specs.Pairs.{AtEach}
use Rattle.exchange_link.specs.Places.{kinds_of}
use Rattle.exchange_link.specs.Requests.{Asks, IsReady}
use Rattle.exchange_link.specs.Synchronised.{StageOn}
use Rattle.consumer_sync.proofs.FillLemmas.{token_on}
use Rattle.consumer_sync.specs.Faulted.{SaysGone}
use Rattle.consumer_sync.specs.Filling.{Fills, HasToken}
use Rattle.consumer_sync.specs.Requests.{IsUnmarked}
use Rattle.consumer_deltas.proofs.DeltaBoundLemmas.{BeforeKind, SoFar, all_told, count_same, held_on, kind_end_if, kind_on}
use Rattle.consumer_deltas.proofs.DeltaBoundLemmas.{kinds_paged, none_told, same_pin}
use Rattle.consumer_deltas.proofs.DeltaFillLemmas.{ends_behind, fills_from, fills_refl, fills_trans, stage_behind}
use Rattle.consumer_deltas.proofs.DeltaStopLemmas.{halts_if, replies_on, some_if}
use Rattle.consumer_deltas.specs.DeltaAnswers.{HasBase}
use Rattle.consumer_deltas.specs.DeltaFilling.{DeltaEnds, KindTold, first_place, no_page}
use Rattle.consumer_deltas.specs.DeltaRequests.{IsDeltaUnder}
use Rattle.consumer_deltas.specs.declared.answer.DeltaAnswer.{DeltaAnswer}
use Rattle.consumer_deltas.proofs.filling.fill.Given.{Over}
use Rattle.consumer_deltas.proofs.filling.fill.Goals.{After-fill_kind}
use Rattle.consumer_deltas.proofs.filling.fill.Goals as goal

-- where the copy that a kind left comes from: the one of the call's beginning, and the one of the kind's
record Left (g : Over) (c : After-fill_kind g) (after : Copy) : Type 0 where
  pub first : Copy
  pub stood : g.C.CopyKeeper.stands_for c.args.copy.now first
  pub begun : Copy
  pub begun_stands : g.C.CopyKeeper.stands_for c.kinds.copy begun
  pub so_far : Fills c.args.by.token.now first begun
  pub ends : DeltaEnds c.args.by.token.now c.args.by.base c.fill_kind.result begun after
  pub stage : StageOn c.args.by.token.now begun.stage after.stage ⊎ SaysGone (g.L.Link.kept c.fill_kind.new.link)

-- what the kind told, and the kinds before it
record Said (g : Over) (c : After-fill_kind g) (after : Copy) (told : LinkState) : Type 0 where
  pub start : LinkState
  pub started : g.L.Link.tells c.args.link.now start
  pub begun : Copy
  pub mid : LinkState
  pub mid_tells : g.L.Link.tells c.kinds.link mid
  pub asked_before : Asks c.args.by.run 0 c.kinds.count IsUnmarked start mid
  pub asked_now : Asks c.args.by.run c.kinds.count c.fill_kind.new.count IsUnmarked mid told
  pub before : BeforeKind c.args.by.token.now c.args.by.limit c.args.by.tries c.args.by.base c.kinds.count
      c.args.stage.now c.kinds.stage start mid begun
  pub kind : KindTold c.args.by.token.now c.args.by.limit c.args.by.tries c.args.by.base
      (c.fill_kind.new.count - c.kinds.count) c.kinds.stage c.fill_kind.new.stage c.fill_kind.result mid told after

-- copy and link fit at entry, and the copy has the base
abbrev AtEntry : (g : Over) → After-fill_kind g → Type 0
AtEntry g c = AtEach (g.C.CopyKeeper.stands_for c.args.copy.now) (g.L.Link.tells c.args.link.now) (λ copy told.
    CopyFits copy told.hub × IsReady c.args.by.run 0 told.sent × HasBase c.args.by.base c.args.by.token.now copy)

module _ (g : Over) (c : After-fill_kind g) where
  -- a kind is still to be filled
  room : kinds_of c.kinds.stage < kind_count
  room = omega (arith, c.kinds-test.true, c.kinds_done.ensures)

  -- how many exchanges there were
  counted : IsMore (g.L.Link.asked c.args.link.now) c.fill_kind.new.count (g.L.Link.asked c.fill_kind.new.link)
  counted = record {
    least = omega (arith, c.kinds.invariant.asked.least, c.fill_kind.ensures.asked.least, c.fill_kind.ensures.count.0);
    most = omega (arith, c.kinds.invariant.asked.most, c.fill_kind.ensures.asked.most, c.fill_kind.ensures.count.0);
  }

  left : (after : Copy) → g.C.CopyKeeper.stands_for c.fill_kind.new.copy after → Left g c after
  left after stands =
      let kind = c.fill_kind.ensures.copy after stands in
      let first = c.kinds.invariant.copy kind.0 kind.1 in
      record { first = first.0; stood = first.1; begun = kind.0; begun_stands = kind.1; so_far = first.2; ends = kind.2.0; stage = kind.2.1 }

  said : AtEntry g c → AtEach (g.C.CopyKeeper.stands_for c.fill_kind.new.copy) (g.L.Link.tells c.fill_kind.new.link) (Said g c)
  said entry after told stands tells =
      let kind = c.fill_kind.ensures.told after told stands tells in
      let start = c.kinds.invariant.told entry kind.0 kind.1 kind.2 kind.3 in
      let first = c.kinds.invariant.copy kind.0 kind.2 in
      let ready = start.2.ready (entry first.0 start.0 first.1 start.1).1 in
      record {
        start = start.0;
        started = start.1;
        begun = kind.0;
        mid = kind.1;
        mid_tells = kind.3;
        asked_before = start.2;
        asked_now = kind.4;
        before = record {
          stage_is = c.kinds.invariant.holds kind.0 kind.2;
          fits = start.3;
          has = start.4;
          room = room;
          law = start.5;
          so_far = start.6;
          moved = start.2.moved;
        };
        kind = kind.5 ready start.3 start.4;
      }

  -- where the kinds go on, one more is done
  one_more : c.fill_kind.result ≡ None → kinds_of c.fill_kind.new.stage ≡ kinds_of c.kinds.stage + 1
  one_more none =
      let on = c.fill_kind.ensures.on none in
      ap (λ (s : Option StageState). kinds_of s) on.1 ∙ kinds_paged c.kinds.stage on.0 c.args.by.token.now

pub kinds-init : goal.kinds-init
kinds-init g c = record {
  holds = c.requires.holds;
  token = c.requires.token;
  few = c.requires.few;
  room = omega arith;
  copy = λ after stands. (after, stands, fills_refl c.args.by.token.now after);
  asked = record { least = omega arith; most = omega arith };
  link = λ after tells. (after, tells, asks_refl c.args.by.run 0 IsUnmarked after);
  sends = λ after tells. (after, tells, sends_refl (IsDeltaUnder c.args.by.token.now c.args.by.limit c.args.by.base) c.args.by.run 0 ⊥ after.sent);
  page = λ w own. absurd (let from = own.from in omega (arith, from));
  heard = omega arith;
  later = omega arith;
  copy_leads = g.met.C.CopyKeeper.stays _;
  link_leads = g.met.L.Link.stays _;
  told = λ entry d t stands tells.
      let e = entry d t stands tells in
      (t, tells, asks_refl c.args.by.run 0 IsUnmarked t, e.0, e.2, same_pin c.args.stage.now t.hub, none_told c.args.by.tries c.args.by.limit c.args.by.token.now c.args.by.base c.args.stage.now t.hub);
}

pub fill_kind-requires-clause-few : goal.fill_kind-requires-clause-few
fill_kind-requires-clause-few g c = omega (arith, c.kinds.invariant.room)

pub kinds-preserved : goal.kinds-preserved
kinds-preserved g c =
    let here = (goal.at.kinds-preserved g c).After-fill_kind in
    let lt = room g here in
    let token = c.args.by.token.now in
    let on = c.fill_kind.ensures.on c.in-None.is in
    let next : kinds_of c.fill_kind.new.stage ≡ kinds_of c.kinds.stage + 1 = one_more g here c.in-None.is in
    record {
      holds = c.fill_kind.ensures.holds c.in-None.is;
      token = subst (λ (s : Option StageState). HasToken token s) (sym on.1) (token_on c.kinds.stage token (no_page on.0) c.kinds.invariant.token);
      few = omega (arith, next, lt);
      room = omega (arith, next, lt, c.fill_kind.ensures.count.1, c.kinds.invariant.room);
      copy = λ after stands.
          let from = left g here after stands in
          (from.first, from.stood, fills_trans token from.first from.begun after from.so_far (fills_from token c.args.by.base _ from.begun after c.in-None.is from.ends));
      asked = counted g here;
      link = λ after tells.
          let y = c.fill_kind.ensures.link after tells in
          let z = c.kinds.invariant.link y.0 y.1 in
          (z.0, z.1, asks_trans z.2 y.2);
      sends = λ after tells.
          let y = c.fill_kind.ensures.asks after tells in
          let z = c.kinds.invariant.sends y.0 y.1 in
          (z.0, z.1, sends_trans _ _ _ _ _ ⊥ ⊥ _ _ _ (λ no. no) z.2 (sends_weaker _ _ _ _ _ _ ⊥ _ _ (λ n q h. h) (λ e. absurd (none-some _ (sym c.in-None.is ∙ e))) y.2));
      page = c.fill_kind.ensures.page c.in-None.is;
      heard = omega (arith, c.kinds.invariant.heard, c.fill_kind.ensures.link_later);
      later = omega (arith, c.kinds.invariant.later, c.fill_kind.ensures.later);
      copy_leads = g.met.C.CopyKeeper.leads_on _ _ _ c.kinds.invariant.copy_leads c.fill_kind.ensures.copy_leads;
      link_leads = g.met.L.Link.leads_on _ _ _ c.kinds.invariant.link_leads c.fill_kind.ensures.link_leads;
      told = λ entry after told stands tells.
          let now = said g here entry after told stands tells in
          let from = left g here after stands in
          let other = c.kinds.invariant.told entry from.begun now.mid from.begun_stands now.mid_tells in
          let kind = subst (λ (r : Option DeltaAnswer). KindTold token c.args.by.limit c.args.by.tries c.args.by.base (c.fill_kind.new.count - c.kinds.count) c.kinds.stage c.fill_kind.new.stage r now.mid told after) c.in-None.is now.kind in
          let more = kind_on now.before kind now.asked_now.moved.grew next in (
            now.start,
            now.started,
            asks_trans now.asked_before now.asked_now,
            kind.fits,
            held_on c.args.by.base token from.begun after (fills_from token c.args.by.base _ from.begun after c.in-None.is from.ends).held other.4,
            more.0,
            count_same c.kinds.count c.fill_kind.new.count c.fill_kind.ensures.count.0 (λ n. SoFar n c.args.by.tries c.args.by.limit token c.args.by.base c.args.stage.now c.fill_kind.new.stage told.hub) more.1,
          );
    }

pub kinds-smaller : goal.kinds-smaller
kinds-smaller g c =
    let here = (goal.at.kinds-smaller g c).After-fill_kind in
    let lt = room g here in
    let next : kinds_of c.fill_kind.new.stage ≡ kinds_of c.kinds.stage + 1 = one_more g here c.in-None.is in
    omega (arith, next, lt)

pub returns-in_default-clause-holds : goal.returns-in_default-clause-holds
returns-in_default-clause-holds g c e = absurd (c.in_default.not-None e)

pub returns-in_default-clause-done : goal.returns-in_default-clause-done
returns-in_default-clause-done g c e = absurd (c.in_default.not-None e)

pub returns-in_default-clause-copy : goal.returns-in_default-clause-copy
returns-in_default-clause-copy g c after stands =
    let from = left g (goal.at.returns-in_default-clause-copy g c).After-fill_kind after stands in (
      from.first,
      from.stood,
      (
        ends_behind c.args.by.token.now c.args.by.base c.fill_kind.result from.first from.begun after from.so_far from.ends,
        stage_behind c.args.by.token.now _ from.first from.begun after from.so_far from.stage,
      ),
    )

pub returns-in_default-clause-cause : goal.returns-in_default-clause-cause
returns-in_default-clause-cause g c = (
  first_place c.kinds.stage c.args.by.base c.args.by.limit,
  c.fill_kind.new.count,
  refl,
  refl,
  counted g (goal.at.returns-in_default-clause-cause g c).After-fill_kind,
  halts_if _ _ _ _ _ _ _ _ _ c.fill_kind.result (λ m. (m.0, m.1, (let rose = m.2 in omega (arith, rose, c.kinds.invariant.heard)))) (λ rose. omega (arith, rose, c.kinds.invariant.later)) c.fill_kind.ensures.cause,
  replies_on (g.L.Link.kept c.fill_kind.new.link) c.args.by.run c.fill_kind.new.count (first_place c.kinds.stage c.args.by.base c.args.by.limit) c.fill_kind.result c.in_default.not-None c.fill_kind.ensures.exact,
)

pub returns-in_default-clause-link : goal.returns-in_default-clause-link
returns-in_default-clause-link g c after tells =
    let y = c.fill_kind.ensures.link after tells in
    let z = c.kinds.invariant.link y.0 y.1 in
    (z.0, z.1, c.fill_kind.new.count, asks_trans z.2 y.2)

pub returns-in_default-clause-asks : goal.returns-in_default-clause-asks
returns-in_default-clause-asks g c = (
  c.fill_kind.new.count,
  counted g (goal.at.returns-in_default-clause-asks g c).After-fill_kind,
  some_if _ _ c.fill_kind.new.count _ _ _ _ c.fill_kind.result c.fill_kind.ensures.cause,
  λ after tells.
      let y = c.fill_kind.ensures.asks after tells in
      let z = c.kinds.invariant.sends y.0 y.1 in
      (z.0, z.1, sends_trans _ _ _ _ _ ⊥ _ _ _ _ (λ no. no) z.2 y.2),
)

pub returns-in_default-clause-later : goal.returns-in_default-clause-later
returns-in_default-clause-later g c = omega (arith, c.kinds.invariant.later, c.fill_kind.ensures.later)

pub returns-in_default-clause-link_later : goal.returns-in_default-clause-link_later
returns-in_default-clause-link_later g c = omega (arith, c.kinds.invariant.heard, c.fill_kind.ensures.link_later)

pub returns-in_default-clause-copy_leads : goal.returns-in_default-clause-copy_leads
returns-in_default-clause-copy_leads g c = g.met.C.CopyKeeper.leads_on _ _ _ c.kinds.invariant.copy_leads c.fill_kind.ensures.copy_leads

pub returns-in_default-clause-link_leads : goal.returns-in_default-clause-link_leads
returns-in_default-clause-link_leads g c = g.met.L.Link.leads_on _ _ _ c.kinds.invariant.link_leads c.fill_kind.ensures.link_leads

pub returns-in_default-clause-told : goal.returns-in_default-clause-told
returns-in_default-clause-told g c entry after told stands tells =
    let here = (goal.at.returns-in_default-clause-told g c).After-fill_kind in
    let now = said g here entry after told stands tells in
    let from = left g here after stands in (
      now.start,
      now.started,
      c.fill_kind.new.count,
      (counted g here).most,
      asks_trans now.asked_before now.asked_now,
      kind_end_if now.before c.fill_kind.new.count c.fill_kind.result c.in_default.not-None now.kind
          c.fill_kind.ensures.count.0 now.asked_now.moved.grew from.begun
          (c.kinds.invariant.holds from.begun from.begun_stands) from.ends,
    )

pub returns-clause-holds : goal.returns-clause-holds
returns-clause-holds g c e = c.kinds.invariant.holds

pub returns-clause-done : goal.returns-clause-done
returns-clause-done g c e = omega (arith, c.kinds-test.false, c.kinds_done.ensures, c.kinds.invariant.few)

pub returns-clause-copy : goal.returns-clause-copy
returns-clause-copy g c after stands =
    let w = c.kinds.invariant.copy after stands in
    (w.0, w.1, (w.2, inl w.2.stage))

pub returns-clause-cause : goal.returns-clause-cause
returns-clause-cause g c = (first_place c.kinds.stage c.args.by.base c.args.by.limit, c.kinds.count, refl, refl, c.kinds.invariant.asked, tt, λ w own. c.kinds.invariant.page w own)

pub returns-clause-link : goal.returns-clause-link
returns-clause-link g c after tells =
    let z = c.kinds.invariant.link after tells in
    (z.0, z.1, c.kinds.count, z.2)

pub returns-clause-asks : goal.returns-clause-asks
returns-clause-asks g c = (
  c.kinds.count,
  c.kinds.invariant.asked,
  tt,
  λ after tells.
      let z = c.kinds.invariant.sends after tells in
      (z.0, z.1, sends_weaker _ _ _ _ _ ⊥ _ _ _ (λ n q h. h) (λ no. absurd no) z.2),
)

pub returns-clause-later : goal.returns-clause-later
returns-clause-later g c = c.kinds.invariant.later

pub returns-clause-told : goal.returns-clause-told
returns-clause-told g c entry d t stands tells =
    let z = c.kinds.invariant.told entry d t stands tells in
    (z.0, z.1, c.kinds.count, c.kinds.invariant.asked.most, z.2, all_told c.args.by.token.now c.args.by.limit c.args.by.tries c.args.by.base c.kinds.count c.args.stage.now c.kinds.stage z.0 t d (c.kinds.invariant.holds d stands) z.3 z.5 z.6)
