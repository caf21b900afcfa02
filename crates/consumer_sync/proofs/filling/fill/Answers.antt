use Rattle.std.proofs.Common.{arith, ◌≡◌, ◌≢◌, ◌+◌, ◌<◌, ◌≤◌, ℕ, None, Some, refl, sym, subst, ◌∙◌, ap, ⊎_elim}
use Rattle.std.proofs.Common.{inl, inr}
use Rattle.std.specs.Prelude.{Option, ⊤}
use Rattle.keeper_memory.specs.copy.Copies.{Copy}
use Rattle.keeper_memory.specs.copy.Lists.{kind_count}
use Rattle.keeper_memory.specs.copy.States.{stage_of}
use Rattle.keeper_memory.specs.declared.copy.state.StageState.{StageState}
use Rattle.exchange_link.specs.Agreement.{CopyFits}
use Rattle.exchange_link.specs.Bounds.{Bounded, HasPin}
use Rattle.exchange_link.specs.Exchanges.{LinkState}
use Rattle.exchange_link.specs.Owning.{IsOwnRead}
use Rattle.exchange_link.specs.Pairs.{AtEach, LinkFrom}
use Rattle.exchange_link.specs.Places.{kinds_of, next_kind, next_page, staged_of}
use Rattle.exchange_link.specs.Requests.{Asks, IsReady, Moved}
use Rattle.exchange_link.specs.declared.answer.SyncAnswer.{SyncAnswer}
use Rattle.exchange_link.specs.declared.answer.SyncAnswer.TheVariants as answer
use Rattle.exchange_link.specs.declared.asking.Outcome.TheVariants as outcome
use Rattle.http_wire.specs.declared.reply_reading.WireReply.{WireReply}
use Rattle.http_wire.proofs.AnswerLemmas.{one_answer}
use Rattle.hub_spec.specs.rules.Growth.{Grew}
use Rattle.hub_spec.specs.rules.States.{IsHub}
use Rattle.version_core.specs.HubStates.{HubState}
use Rattle.consumer_sync.specs.Filling.{AreReady, BoundSoFar, CauseIf, HasToken, IsCallPinIf, IsDoneIf, IsSmall}
use Rattle.consumer_sync.specs.Filling.{LastAsked, PinLaw, ToldIf, TriedIf, last_asked, request_of, weight}
use Rattle.consumer_sync.specs.Judging.{judged}
use Rattle.consumer_sync.specs.Requests.{IsUnmarked}
use Rattle.consumer_sync.specs.Staging.{IsBroken, Performs, answer_of}
use Rattle.consumer_sync.specs.declared.judging.Act.{Act}
use Rattle.consumer_sync.proofs.AgreeLemmas.{IsSaid, own_page, performs_agrees, said_of}
use Rattle.exchange_link.proofs.AskLemmas.{asks_trans, missed_other, none_other, own_other}
use Rattle.exchange_link.proofs.AskedLemmas.{sends_weaker}
use Rattle.exchange_link.proofs.FitLemmas.{copy_on}
use Rattle.exchange_link.specs.Asked.{IsPageUnder, SendsOn, TriedFor}
use Rattle.exchange_link.specs.Between.{call_with}
use Rattle.exchange_link.specs.Causes.{IsMore, IsPageStatus, kept_of}
use Rattle.consumer_sync.proofs.BoundLemmas.{StandingIf, bound_done, bound_end, bound_on, call_pin, pin_performs}
use Rattle.consumer_sync.proofs.BoundLemmas.{pin_same, standing_if}
use Rattle.consumer_sync.proofs.CauseLemmas.{answer_cause, broken_cause, exact_own, page_status, performs_on}
use Rattle.consumer_sync.proofs.DoneLemmas.{broken_told, own_done, own_told}
use Rattle.consumer_sync.proofs.FaultLemmas.{says_gone}
use Rattle.consumer_sync.proofs.FillLemmas.{can_next, ends_on, fault_stage, fills_end, fills_on, kinds_on, pin_on}
use Rattle.consumer_sync.proofs.FillLemmas.{small_fits, small_on, token_on, weight_falls}
use Rattle.consumer_sync.proofs.JudgeLemmas.{taken_page}
use Rattle.consumer_sync.proofs.SyncLemmas.{cause_end}
use Rattle.consumer_sync.proofs.TriedLemmas.{sends_page, tried_own, tried_page}
use Rattle.exchange_link.proofs.TextLemmas.{version_low}
use Rattle.consumer_sync.proofs.filling.fill.Given.{Over}
use Rattle.consumer_sync.proofs.filling.fill.Goals.{After-fetch, After-take_reply}
use Rattle.consumer_sync.proofs.filling.fill.Goals as goal

-- the numbers of the stage at entry are small, where a copy with that stage fits a hub's state
small_first : (first : Option StageState) (copy : Copy) (h : HubState) → IsHub h → CopyFits copy h
    → stage_of copy ≡ first → IsSmall first
small_first first copy h hub fits is = subst (λ (s : Option StageState). IsSmall s) is
    (small_fits h hub copy.stage fits.stage)

-- ---- a round in which a page was asked for

-- copy and link fit at entry
abbrev Fitted : (g : Over) → After-fetch g → Type 0
Fitted g c = AreReady c.args.by.run (g.C.CopyKeeper.stands_for c.args.copy.now) (g.L.Link.tells c.args.link.now)

-- what holds when the round began, of a copy for which the keeper stood and of what the link told then
record Began (g : Over) (c : After-fetch g) (copy : Copy) (told : LinkState) : Type 0 where
  pub start : LinkState
  pub started : g.L.Link.tells c.args.link.now start
  pub moved : Moved start told
  pub is_hub : IsHub told.hub
  pub small : IsSmall c.args.stage.now
  pub ready : IsReady c.args.by.run c.rounds.count told.sent
  pub law : PinLaw c.args.stage.now start.hub c.rounds.stage
  pub fits : CopyFits copy told.hub
  pub standing : StandingIf c.rounds.stage told.hub
  pub bound : BoundSoFar c.rounds.count c.args.by.tries c.args.by.limit c.args.by.token.now c.args.stage.now
      c.rounds.stage told.hub

-- there were so many exchanges, within the bound; this holds of the call's pin
abbrev InBound : (g : Over) → After-fetch g → (ℕ → Type 0) → HubState → Type 0
InBound g c is_pin h = (n : ℕ) × (g.L.Link.asked c.fetch.new.link ≤ g.L.Link.asked c.args.link.now + n)
    × Bounded n c.args.by.tries c.args.by.limit c.args.by.token.now c.args.stage.now is_pin h

module _ (g : Over) (c : After-fetch g) where
  began : Fitted g c → AtEach (g.C.CopyKeeper.stands_for c.rounds.copy) (g.L.Link.tells c.rounds.link) (Began g c)
  began fitted copy told stands tells =
      let start = c.rounds.invariant.link told tells in
      let first = c.rounds.invariant.copy copy stands in
      let at_entry = fitted first.0 start.0 first.1 start.1 in
      let hub = g.met.L.Link.is_hub c.args.link.now start.0 start.1 in
      let small = small_first c.args.stage.now first.0 start.0.hub hub at_entry.0 (c.requires.holds first.0 first.1) in
      let fits = c.rounds.invariant.agree fitted copy told stands tells in
      record {
        start = start.0;
        started = start.1;
        moved = (start.2).moved;
        is_hub = g.met.L.Link.is_hub c.rounds.link told tells;
        small = small;
        ready = (start.2).ready at_entry.1;
        law = start.3 small at_entry.1;
        fits = fits;
        standing = subst (λ (s : Option StageState). StandingIf s told.hub) (c.rounds.invariant.holds copy stands)
            (standing_if copy.stage told.hub fits.stage);
        bound = c.rounds.invariant.bound fitted copy told stands tells;
      }

  -- a kind is left
  kind_left : kinds_of c.rounds.stage < kind_count
  kind_left = omega (arith, c.rounds-test.true, c.kinds_done.ensures)

  -- how many exchanges there were
  counted : IsMore (g.L.Link.asked c.args.link.now) c.fetch.new.count (g.L.Link.asked c.fetch.new.link)
  counted = record {
    least = omega (arith, c.rounds.invariant.asked.least, c.fetch.ensures.asked.least, c.fetch.ensures.count.0);
    most = omega (arith, c.rounds.invariant.asked.most, c.fetch.ensures.asked.most, c.fetch.ensures.count.0);
  }

  link_led : g.L.Link.leads c.args.link.now c.fetch.new.link
  link_led = g.met.L.Link.leads_on _ _ _ c.rounds.invariant.link_leads c.fetch.ensures.link_leads

  -- what the link told at entry, and what was asked since
  asked_since : LinkFrom (g.L.Link.tells c.args.link.now) (g.L.Link.tells c.fetch.new.link)
      (Asks c.args.by.run 0 c.fetch.new.count IsUnmarked)
  asked_since after tells =
      let mid = c.fetch.ensures.told after tells in
      let start = c.rounds.invariant.link mid.0 mid.1 in
      (start.0, start.1, asks_trans start.2 mid.2)

  -- the requests since then; the last may be left out where the request wanted memory
  sends_on : (left_out : Type 0) (tried : LinkState → Type 0) → (c.fetch.result ≡ outcome.NoMemory → left_out)
      → ((after : LinkState) → g.L.Link.tells c.fetch.new.link after → tried after)
      → (after : LinkState) → g.L.Link.tells c.fetch.new.link after → (before : LinkState)
      × g.L.Link.tells c.args.link.now before
      × SendsOn (IsPageUnder c.args.by.token.now c.args.by.limit) c.args.by.run 0 c.fetch.new.count left_out
      before.sent after.sent
      × tried after
  sends_on left_out tried wants is_tried after tells =
      let mid = c.fetch.ensures.asks after tells in
      let start = c.rounds.invariant.sends mid.0 mid.1 in
      let more = sends_page c.args.by.token.now c.args.by.limit c.args.by.run 0 c.rounds.count c.fetch.new.count
      c.rounds.stage _ left_out _ _ _ wants start.2 mid.2 in
      (start.0, start.1, more, is_tried after tells)

  -- a copy that is as the round found it still fits
  still_fits : Fitted g c
      → AtEach (g.C.CopyKeeper.stands_for c.rounds.copy) (g.L.Link.tells c.fetch.new.link)
      (λ copy told. CopyFits copy told.hub)
  still_fits fitted copy told stands tells =
      let mid = c.fetch.ensures.told told tells in
      copy_on copy mid.0.hub told.hub (mid.2).moved.grew (c.rounds.invariant.agree fitted copy mid.0 stands mid.1)

  -- the bound where the pages end after this request; of the stage's pin holds what is said of the call's
  bound_where : (P : ℕ → Type 0) (copy : Copy) (mid told : LinkState) → Began g c copy mid → Grew mid.hub told.hub
      → ((s : StageState) → c.rounds.stage ≡ Some s → P s.pin)
      → InBound g c P told.hub
  bound_where P copy mid told here grew pin = (
    c.fetch.new.count,
    counted.most,
    bound_end c.rounds.count c.fetch.new.count c.args.by.tries c.args.by.limit c.args.by.token.now c.args.stage.now
        c.rounds.stage P
        here.start.hub mid.hub told.hub here.bound c.fetch.ensures.count.1 grew here.standing here.law kind_left pin,
  )

  -- the same where the copy is as the round found it
  bound_kept : Fitted g c → AtEach (g.C.CopyKeeper.stands_for c.rounds.copy) (g.L.Link.tells c.fetch.new.link)
      (λ copy told. InBound g c (λ v. HasPin v copy.stage) told.hub)
  bound_kept fitted copy told stands tells =
      let mid = c.fetch.ensures.told told tells in
      bound_where (λ v. HasPin v copy.stage) copy mid.0 told (began fitted copy mid.0 stands mid.1) (mid.2).moved.grew
      (pin_same copy.stage c.rounds.stage (c.rounds.invariant.holds copy stands))

-- ---- a round in which the own reply came, and was taken

-- the same round, when the page was asked for
abbrev fetched : (g : Over) → After-take_reply g → After-fetch g
fetched g c = c.before.before.before.before.before

-- what the reply means for the stage
abbrev act : (g : Over) → After-take_reply g → Act
act g c = judged c.rounds.stage c.args.by.limit c.in-Own.reply

-- the answer that it gives
abbrev given : (g : Over) → After-take_reply g → Option SyncAnswer
given g c = answer_of (act g c) (next_kind c.rounds.stage) (staged_of c.rounds.stage)

-- the request for the page
abbrev page_asked : (g : Over) → After-take_reply g → LastAsked
page_asked g c =
    last_asked c.rounds.stage c.args.by.limit (kept_of (g.L.Link.kept c.fetch.new.link) c.args.by.run c.fetch.new.count)

-- where a copy for which the keeper stands now comes from, with what the link tells now
record Took (g : Over) (c : After-take_reply g) (copy : Copy) (told : LinkState) : Type 0 where
  pub old : Copy
  pub mid : LinkState
  pub began : Began g (fetched g c) old mid
  pub stage_is : stage_of old ≡ c.rounds.stage
  pub moved : Moved mid told
  pub said : IsSaid mid told (next_page c.args.by.token.now c.args.by.limit c.rounds.stage) c.in-Own.reply
  pub performs : Performs (act g c) c.args.by.token.now c.take_reply.result old copy

module _ (g : Over) (c : After-take_reply g) where
  -- memory sufficed for the request
  in_memory : c.fetch.result ≢ outcome.NoMemory
  in_memory none = own_other c.in-Own.reply (sym c.in-Own.is ∙ none)

  -- what the hub said in the reply
  hub_said : (mid told : LinkState) → IsSmall c.args.stage.now
      → IsOwnRead mid told (request_of c.rounds.stage c.args.by.run c.fetch.new.count c.args.by.token.now
      c.args.by.limit) c.in-Own.reply
      → IsSaid mid told (next_page c.args.by.token.now c.args.by.limit c.rounds.stage) c.in-Own.reply
  hub_said mid told small read =
      let can = can_next c.rounds.stage c.args.by.token.now c.args.by.limit c.requires.limit.0 c.requires.limit.1
      (c.rounds.invariant.small small) in
      said_of mid told c.rounds.stage c.args.by.run c.fetch.new.count c.args.by.token.now c.args.by.limit
      c.in-Own.reply can read

  took : Fitted g (fetched g c) → AtEach (g.C.CopyKeeper.stands_for c.take_reply.new.copy)
      (g.L.Link.tells c.fetch.new.link) (Took g c)
  took fitted copy told stands tells =
      let old = c.take_reply.ensures.told copy stands in
      let mid = c.in-Own.ensures.told told tells in
      let here = began g (fetched g c) fitted old.0 mid.0 old.1 mid.1 in
      record {
        old = old.0;
        mid = mid.0;
        began = here;
        stage_is = c.rounds.invariant.holds old.0 old.1;
        moved = (mid.2).moved;
        said = hub_said mid.0 told here.small (mid.3 here.ready);
        performs = old.2;
      }

  -- whatever the reply makes of the copy, it fits
  took_fits : Fitted g (fetched g c)
      → AtEach (g.C.CopyKeeper.stands_for c.take_reply.new.copy) (g.L.Link.tells c.fetch.new.link)
      (λ copy told. CopyFits copy told.hub)
  took_fits fitted copy told stands tells =
      let taken = took fitted copy told stands tells in
      performs_agrees taken.old copy taken.mid told c.rounds.stage c.args.by.token.now c.args.by.limit c.in-Own.reply
      _ taken.stage_is c.rounds.invariant.token
      taken.moved.grew taken.began.fits taken.said (kind_left g (fetched g c)) taken.performs

  -- what holds of a broken answer, and of the one that the reply gives, holds of the answer
  by_answer : (P : Option SyncAnswer → Type 0) → (IsBroken c.take_reply.result → P c.take_reply.result) → P (given g c)
      → P c.take_reply.result
  by_answer P broken here =
      ⊎_elim broken (λ (e : c.take_reply.result ≡ given g c). subst P (sym e) here) c.take_reply.ensures.answer

  -- the cause of the answer
  cause : (missed broke : Type 0) → (c.take_reply.result ≡ Some answer.KeeperFault → broke)
      → CauseIf (page_asked g c) missed broke c.take_reply.result
  cause missed broke fault =
      by_answer (CauseIf (page_asked g c) missed broke)
      (broken_cause (page_asked g c) missed broke c.take_reply.result fault)
      (answer_cause (page_asked g c) c.in-Own.reply (given g c) missed broke c.in-Own.ensures.own refl)

  -- where the call goes on, less is left than before
  fell : c.take_reply.result ≡ None → weight c.take_reply.new.stage < weight c.rounds.stage
  fell none =
      let on = c.take_reply.ensures.on none in
      let page = taken_page c.rounds.stage c.args.by.limit c.in-Own.reply on.0 on.1 in
      subst (λ (s : Option StageState). weight s < weight c.rounds.stage) (sym on.2)
      (weight_falls c.rounds.stage c.args.by.limit c.args.by.token.now on.0 c.requires.limit.0
      (kind_left g (fetched g c)) page.0)

-- ---- the pages end, and the copy is as the round found it

pub returns-in-NoReply-clause-holds : goal.returns-in-NoReply-clause-holds
returns-in-NoReply-clause-holds g c e d s = cc

pub returns-in-NoReply-clause-done : goal.returns-in-NoReply-clause-done
returns-in-NoReply-clause-done g c e = cc

pub returns-in-NoReply-clause-copy : goal.returns-in-NoReply-clause-copy
returns-in-NoReply-clause-copy g c after stands =
    let first = c.rounds.invariant.copy after stands in
    (first.0, first.1, fills_end _ _ _ _ tt first.2)

pub returns-in-NoReply-clause-link : goal.returns-in-NoReply-clause-link
returns-in-NoReply-clause-link g c after tells =
    let asked = asked_since g (goal.at.returns-in-NoReply-clause-link g c).After-fetch after tells in
    (asked.0, asked.1, c.fetch.new.count, asked.2, λ e. cc)

pub returns-in-NoReply-clause-agree : goal.returns-in-NoReply-clause-agree
returns-in-NoReply-clause-agree g c = still_fits g (goal.at.returns-in-NoReply-clause-agree g c).After-fetch

pub returns-in-NoReply-clause-bound : goal.returns-in-NoReply-clause-bound
returns-in-NoReply-clause-bound g c = bound_kept g (goal.at.returns-in-NoReply-clause-bound g c).After-fetch

pub returns-in-NoReply-clause-complete : goal.returns-in-NoReply-clause-complete
returns-in-NoReply-clause-complete g c fitted quiet kept copy told stands tells =
    let asked = asked_since g (goal.at.returns-in-NoReply-clause-complete g c).After-fetch told tells in
    (asked.0, asked.1, λ hub at. absurd ((c.in-NoReply.ensures.none refl).2 told tells))

pub returns-in-NoReply-clause-told : goal.returns-in-NoReply-clause-told
returns-in-NoReply-clause-told g c fitted copy told stands tells =
    let asked = asked_since g (goal.at.returns-in-NoReply-clause-told g c).After-fetch told tells in
    (asked.0, asked.1, absurd ((c.in-NoReply.ensures.none refl).2 told tells))

pub returns-in-NoReply-clause-later : goal.returns-in-NoReply-clause-later
returns-in-NoReply-clause-later g c = c.rounds.invariant.later

pub returns-in-NoReply-clause-ends : goal.returns-in-NoReply-clause-ends
returns-in-NoReply-clause-ends g c = tt

pub returns-in-NoReply-clause-link_leads : goal.returns-in-NoReply-clause-link_leads
returns-in-NoReply-clause-link_leads g c = link_led g (goal.at.returns-in-NoReply-clause-link_leads g c).After-fetch

pub returns-in-NoReply-clause-cause : goal.returns-in-NoReply-clause-cause
returns-in-NoReply-clause-cause g c =
    let none = c.in-NoReply.ensures.none refl in (
      c.rounds.stage,
      c.fetch.new.count,
      counted g (goal.at.returns-in-NoReply-clause-cause g c).After-fetch,
      (inl none.1, c.kind.ensures, c.staged.ensures.staged),
      λ w own. absurd (none.1 w own.text),
      λ some other told tells. absurd (none.2 told tells),
      λ on. (none.0, c.rounds.invariant.holds),
    )

pub returns-in-NoReply-clause-asks : goal.returns-in-NoReply-clause-asks
returns-in-NoReply-clause-asks g c =
    let here = (goal.at.returns-in-NoReply-clause-asks g c).After-fetch in (
      c.fetch.new.count,
      counted g here,
      sends_on g here _ (λ _. ⊤)
          (λ e. absurd (none_other (sym c.in-NoReply.is ∙ e))) (λ after tells. tt),
    )

pub returns-in-Missed-clause-holds : goal.returns-in-Missed-clause-holds
returns-in-Missed-clause-holds g c e d s = cc

pub returns-in-Missed-clause-done : goal.returns-in-Missed-clause-done
returns-in-Missed-clause-done g c e = cc

pub returns-in-Missed-clause-copy : goal.returns-in-Missed-clause-copy
returns-in-Missed-clause-copy g c after stands =
    let first = c.rounds.invariant.copy after stands in
    (first.0, first.1, fills_end _ _ _ _ tt first.2)

pub returns-in-Missed-clause-link : goal.returns-in-Missed-clause-link
returns-in-Missed-clause-link g c after tells =
    let asked = asked_since g (goal.at.returns-in-Missed-clause-link g c).After-fetch after tells in
    (asked.0, asked.1, c.fetch.new.count, asked.2, λ e. cc)

pub returns-in-Missed-clause-agree : goal.returns-in-Missed-clause-agree
returns-in-Missed-clause-agree g c = still_fits g (goal.at.returns-in-Missed-clause-agree g c).After-fetch

pub returns-in-Missed-clause-bound : goal.returns-in-Missed-clause-bound
returns-in-Missed-clause-bound g c = bound_kept g (goal.at.returns-in-Missed-clause-bound g c).After-fetch

pub returns-in-Missed-clause-complete : goal.returns-in-Missed-clause-complete
returns-in-Missed-clause-complete g c fitted quiet kept copy told stands tells =
    let asked = asked_since g (goal.at.returns-in-Missed-clause-complete g c).After-fetch told tells in
    let rose = (c.in-Missed.ensures.missed refl).2 in
    (asked.0, asked.1, λ hub at. quiet (omega (arith, rose, c.requires.tries.0, c.rounds.invariant.heard)))

pub returns-in-Missed-clause-told : goal.returns-in-Missed-clause-told
returns-in-Missed-clause-told g c fitted copy told stands tells =
    let asked = asked_since g (goal.at.returns-in-Missed-clause-told g c).After-fetch told tells in
    (asked.0, asked.1, tt)

pub returns-in-Missed-clause-later : goal.returns-in-Missed-clause-later
returns-in-Missed-clause-later g c = c.rounds.invariant.later

pub returns-in-Missed-clause-ends : goal.returns-in-Missed-clause-ends
returns-in-Missed-clause-ends g c = tt

pub returns-in-Missed-clause-link_leads : goal.returns-in-Missed-clause-link_leads
returns-in-Missed-clause-link_leads g c = link_led g (goal.at.returns-in-Missed-clause-link_leads g c).After-fetch

pub returns-in-Missed-clause-cause : goal.returns-in-Missed-clause-cause
returns-in-Missed-clause-cause g c =
    let missed = c.in-Missed.ensures.missed refl in
    let many : c.args.by.tries ≤ c.fetch.new.count = omega (arith, missed.0) in (
      c.rounds.stage,
      c.fetch.new.count,
      counted g (goal.at.returns-in-Missed-clause-cause g c).After-fetch,
      (
        (missed.1, many, (let rose = missed.2 in omega (arith, rose, c.rounds.invariant.heard))),
        c.kind-in-Missed.ensures,
        c.staged-in-Missed.ensures.staged,
      ),
      λ w own. absurd (missed.3 w own.text own.number),
      λ some other. c.fetch.ensures.last (λ e. missed_other (sym c.in-Missed.is ∙ e)),
      λ on. (omega (arith, many, c.requires.tries.0), c.rounds.invariant.holds),
    )

pub returns-in-Missed-clause-asks : goal.returns-in-Missed-clause-asks
returns-in-Missed-clause-asks g c =
    let here = (goal.at.returns-in-Missed-clause-asks g c).After-fetch in (
      c.fetch.new.count,
      counted g here,
      sends_on g here _
          (λ after. TriedFor (answer.Interrupted c.kind-in-Missed.result c.staged-in-Missed.result)
          (call_with c.args.by.token.now c.args.by.limit c.args.by.tries) c.args.by.run c.fetch.new.count after.sent)
          (λ e. absurd (missed_other (sym c.in-Missed.is ∙ e)))
          (λ after tells. tried_page c.args.by.token.now c.args.by.limit c.args.by.run c.rounds.count
          c.fetch.new.count c.args.by.tries c.rounds.stage _ _ _ _ _
          c.kind-in-Missed.ensures c.staged-in-Missed.ensures.staged (c.in-Missed.ensures.missed refl).0
          (λ e. missed_other (sym c.in-Missed.is ∙ e)) (c.fetch.ensures.asks after tells).2),
    )

pub returns-in-NoMemory-clause-holds : goal.returns-in-NoMemory-clause-holds
returns-in-NoMemory-clause-holds g c e d s = cc

pub returns-in-NoMemory-clause-done : goal.returns-in-NoMemory-clause-done
returns-in-NoMemory-clause-done g c e = cc

pub returns-in-NoMemory-clause-copy : goal.returns-in-NoMemory-clause-copy
returns-in-NoMemory-clause-copy g c after stands =
    let first = c.rounds.invariant.copy after stands in
    (first.0, first.1, fills_end _ _ _ _ tt first.2)

pub returns-in-NoMemory-clause-link : goal.returns-in-NoMemory-clause-link
returns-in-NoMemory-clause-link g c after tells =
    let asked = asked_since g (goal.at.returns-in-NoMemory-clause-link g c).After-fetch after tells in
    (asked.0, asked.1, c.fetch.new.count, asked.2, λ e. cc)

pub returns-in-NoMemory-clause-agree : goal.returns-in-NoMemory-clause-agree
returns-in-NoMemory-clause-agree g c = still_fits g (goal.at.returns-in-NoMemory-clause-agree g c).After-fetch

pub returns-in-NoMemory-clause-bound : goal.returns-in-NoMemory-clause-bound
returns-in-NoMemory-clause-bound g c = bound_kept g (goal.at.returns-in-NoMemory-clause-bound g c).After-fetch

pub returns-in-NoMemory-clause-complete : goal.returns-in-NoMemory-clause-complete
returns-in-NoMemory-clause-complete g c fitted quiet kept copy told stands tells =
    let asked = asked_since g (goal.at.returns-in-NoMemory-clause-complete g c).After-fetch told tells in
    (asked.0, asked.1, λ hub at. tt)

pub returns-in-NoMemory-clause-told : goal.returns-in-NoMemory-clause-told
returns-in-NoMemory-clause-told g c fitted copy told stands tells =
    let asked = asked_since g (goal.at.returns-in-NoMemory-clause-told g c).After-fetch told tells in
    (asked.0, asked.1, tt)

pub returns-in-NoMemory-clause-later : goal.returns-in-NoMemory-clause-later
returns-in-NoMemory-clause-later g c = c.rounds.invariant.later

pub returns-in-NoMemory-clause-ends : goal.returns-in-NoMemory-clause-ends
returns-in-NoMemory-clause-ends g c = tt

pub returns-in-NoMemory-clause-link_leads : goal.returns-in-NoMemory-clause-link_leads
returns-in-NoMemory-clause-link_leads g c = link_led g (goal.at.returns-in-NoMemory-clause-link_leads g c).After-fetch

pub returns-in-NoMemory-clause-cause : goal.returns-in-NoMemory-clause-cause
returns-in-NoMemory-clause-cause g c = (
  c.rounds.stage,
  c.fetch.new.count,
  counted g (goal.at.returns-in-NoMemory-clause-cause g c).After-fetch,
  tt,
  λ w
      own. inl tt,
  λ some other. absurd (other refl),
  λ on. absurd on,
)

pub returns-in-NoMemory-clause-asks : goal.returns-in-NoMemory-clause-asks
returns-in-NoMemory-clause-asks g c =
    let here = (goal.at.returns-in-NoMemory-clause-asks g c).After-fetch in (
      c.fetch.new.count,
      counted g here,
      sends_on g here (Some answer.NoMemory ≡ Some answer.NoMemory) (λ _. ⊤)
          (λ e. refl) (λ after tells. tt),
    )

-- ---- the pages go on

pub take_reply-requires-clause-version : goal.take_reply-requires-clause-version
take_reply-requires-clause-version g c = version_low _ c.in-Own.reply c.in-Own.ensures.own.text

pub rounds-preserved : goal.rounds-preserved
rounds-preserved g c =
    let here = (goal.at.rounds-preserved g c).After-take_reply in
    let lt = kind_left g (fetched g here) in
    let less = fell g here c.in-None.is in
    let on = c.take_reply.ensures.on c.in-None.is in
    let page = taken_page c.rounds.stage c.args.by.limit c.in-Own.reply on.0 on.1 in
    record {
      holds = c.take_reply.ensures.holds c.in-None.is;
      token = subst (λ (s : Option StageState). HasToken c.args.by.token.now s) (sym on.2)
          (token_on c.rounds.stage c.args.by.token.now on.0 c.rounds.invariant.token);
      small = λ small. subst (λ (s : Option StageState). IsSmall s) (sym on.2)
          (small_on c.rounds.stage c.args.by.limit c.args.by.token.now c.in-Own.reply on.0 page.0 page.1
          (version_low _ c.in-Own.reply c.in-Own.ensures.own.text) (c.rounds.invariant.small small));
      few = subst (λ (s : Option StageState). kinds_of s ≤ kind_count) (sym on.2)
          (kinds_on c.rounds.stage c.args.by.token.now on.0 lt);
      room = omega (arith, less, c.fetch.ensures.count.1, c.requires.tries.1, c.rounds.invariant.room);
      copy = λ after stands.
          let old = c.take_reply.ensures.told after stands in
          let first = c.rounds.invariant.copy old.0 old.1 in
          (first.0, first.1, fills_on _ _ _ _ _ _ c.in-None.is first.2 old.2);
      link = λ after tells.
          let mid = c.in-Own.ensures.told after tells in
          let start = c.rounds.invariant.link mid.0 mid.1 in (
            start.0,
            start.1,
            asks_trans start.2 mid.2,
            λ small ready.
                let said = hub_said g here mid.0 after small (mid.3 ((start.2).ready ready)) in
                let stands = own_page mid.0 after c.rounds.stage c.args.by.token.now c.args.by.limit c.in-Own.reply
                on.0 said lt on.1 in
                subst (λ (s : Option StageState). PinLaw c.args.stage.now start.0.hub s) (sym on.2)
                (pin_on c.args.stage.now c.rounds.stage start.0.hub mid.0.hub c.args.by.token.now on.0
                (start.3 small ready) (start.2).moved.grew stands.pin),
          );
      agree = took_fits g here;
      asked = counted g (fetched g here);
      bound = λ fitted copy told stands tells.
          let taken = took g here fitted copy told stands tells in
          let stands_in = own_page taken.mid told c.rounds.stage c.args.by.token.now c.args.by.limit c.in-Own.reply
          on.0 taken.said lt on.1 in
          subst (λ (s : Option StageState). BoundSoFar c.fetch.new.count c.args.by.tries c.args.by.limit
          c.args.by.token.now c.args.stage.now s told.hub) (sym on.2)
          (bound_on c.rounds.count c.fetch.new.count c.args.by.tries c.args.by.limit c.args.by.token.now
          c.args.stage.now c.rounds.stage
          taken.began.start.hub taken.mid.hub told.hub on.0 c.requires.limit.0 taken.began.bound
          c.fetch.ensures.count.1 taken.moved.grew
          taken.began.standing taken.began.law page.0 stands_in);
      heard = omega (arith, c.rounds.invariant.heard, c.fetch.ensures.later);
      later = omega (arith, c.rounds.invariant.later, c.take_reply.ensures.later);
      copy_leads = g.met.C.CopyKeeper.leads_on _ _ _ c.rounds.invariant.copy_leads c.take_reply.ensures.copy_leads;
      link_leads = link_led g (fetched g here);
      page = λ w own. subst (λ (r : WireReply). IsPageStatus r.status)
          (one_answer _ c.in-Own.reply w c.in-Own.ensures.own.text own.text)
          (page_status c.rounds.stage c.args.by.limit c.in-Own.reply on.0 on.1);
      sends = λ after tells.
          let sent = sends_on g (fetched g here) ⊥ (λ _. ⊤) (in_memory g here) (λ _ _. tt) after tells in
          (sent.0, sent.1, sent.2);
      last = (c.rounds.stage, λ some. c.fetch.ensures.last (in_memory g here));
    }

pub rounds-smaller : goal.rounds-smaller
rounds-smaller g c = fell g (goal.at.rounds-smaller g c).After-take_reply c.in-None.is

-- ---- the pages end at what the own reply gives, or as keeper or memory gave up

pub returns-in_default-clause-holds : goal.returns-in_default-clause-holds
returns-in_default-clause-holds g c e = absurd (c.in_default.not-None e)

pub returns-in_default-clause-done : goal.returns-in_default-clause-done
returns-in_default-clause-done g c e = absurd (c.in_default.not-None e)

pub returns-in_default-clause-later : goal.returns-in_default-clause-later
returns-in_default-clause-later g c = omega (arith, c.rounds.invariant.later, c.take_reply.ensures.later)

pub returns-in_default-clause-copy : goal.returns-in_default-clause-copy
returns-in_default-clause-copy g c after stands =
    let old = c.take_reply.ensures.told after stands in
    let first = c.rounds.invariant.copy old.0 old.1 in (
      first.0,
      first.1,
      ends_on c.args.by.token.now
          (act g (goal.at.returns-in_default-clause-copy g c).After-take_reply) c.take_reply.result first.0 old.0 after
          first.2 old.2,
    )

pub returns-in_default-clause-faulted : goal.returns-in_default-clause-faulted
returns-in_default-clause-faulted g c is after stands =
    let meant = act g (goal.at.returns-in_default-clause-faulted g c).After-take_reply in
    let old = c.take_reply.ensures.told after stands in
    let first = c.rounds.invariant.copy old.0 old.1 in (
      first.0,
      first.1,
      (
        ends_on c.args.by.token.now meant c.take_reply.result first.0 old.0 after first.2 old.2,
        ⊎_elim (λ on. inl on)
            (λ gone. inr (says_gone c.rounds.stage c.args.by.limit c.in-Own.reply _ c.args.by.run c.fetch.new.count
            c.in-Own.ensures.own gone))
            (fault_stage c.args.by.token.now meant c.take_reply.result first.0 old.0 after first.2 old.2),
      ),
    )

pub returns-in_default-clause-link : goal.returns-in_default-clause-link
returns-in_default-clause-link g c after tells =
    let asked = asked_since g (fetched g (goal.at.returns-in_default-clause-link g c).After-take_reply) after tells in
    (asked.0, asked.1, c.fetch.new.count, asked.2, λ e. absurd (c.in_default.not-None e))

pub returns-in_default-clause-agree : goal.returns-in_default-clause-agree
returns-in_default-clause-agree g c = took_fits g (goal.at.returns-in_default-clause-agree g c).After-take_reply

pub returns-in_default-clause-bound : goal.returns-in_default-clause-bound
returns-in_default-clause-bound g c fitted copy told stands tells =
    let here = (goal.at.returns-in_default-clause-bound g c).After-take_reply in
    let taken = took g here fitted copy told stands tells in
    let caused = cause g here (Unit {0}) (Unit {0}) (λ e. tt) in
    let last = c.fetch.ensures.last (in_memory g here) told tells in
    bound_where g (fetched g here) (λ v. IsCallPinIf c.take_reply.result copy told.sent v) taken.old taken.mid told
    taken.began taken.moved.grew (λ s e.
    let left = pin_performs _ c.args.by.token.now _ taken.old copy c.rounds.stage taken.stage_is taken.performs s
    e in
    call_pin c.take_reply.result copy told.sent (page_asked g here) c.args.by.token.now _ _ caused last s e left)

pub returns-in_default-clause-complete : goal.returns-in_default-clause-complete
returns-in_default-clause-complete g c fitted quiet kept copy told stands tells =
    let here = (goal.at.returns-in_default-clause-complete g c).After-take_reply in
    let taken = took g here fitted copy told stands tells in
    let counts = taken.began.moved.counts in (
      taken.began.start,
      taken.began.started,
      λ hub at. by_answer g here (λ r. IsDoneIf r)
          (λ b. ⊎_elim
          (λ (e : c.take_reply.result ≡ Some answer.KeeperFault). absurd
          (kept (let rose = c.take_reply.ensures.cause e in omega (arith, rose, c.rounds.invariant.later))))
          (λ (e : c.take_reply.result ≡ Some answer.NoMemory). subst (λ (r : Option SyncAnswer). IsDoneIf r)
          (sym e) tt) b)
          (own_done taken.old c.rounds.stage c.args.stage.now taken.mid told taken.began.start.hub c.args.by.token.now
          c.args.by.limit c.in-Own.reply _ _
          taken.stage_is c.rounds.invariant.token taken.began.fits.stage (kind_left g (fetched g here)) taken.said
          taken.began.moved.grew
          taken.began.is_hub (g.met.L.Link.is_hub c.fetch.new.link told tells) taken.began.law
          (λ rose. hub (omega (arith, rose, counts))) at),
    )

pub returns-in_default-clause-told : goal.returns-in_default-clause-told
returns-in_default-clause-told g c fitted copy told stands tells =
    let here = (goal.at.returns-in_default-clause-told g c).After-take_reply in
    let taken = took g here fitted copy told stands tells in (
      taken.began.start,
      taken.began.started,
      by_answer g here (λ r. ToldIf c.args.by.token.now taken.began.start told r)
          (broken_told c.args.by.token.now taken.began.start told c.take_reply.result)
          (own_told taken.old c.rounds.stage taken.began.start taken.mid told c.args.by.token.now c.args.by.limit
          c.in-Own.reply _ _ taken.began.moved
          taken.stage_is c.rounds.invariant.token taken.began.fits.stage (kind_left g (fetched g here)) taken.said),
    )

pub returns-in_default-clause-cause : goal.returns-in_default-clause-cause
returns-in_default-clause-cause g c =
    let here = (goal.at.returns-in_default-clause-cause g c).After-take_reply in
    let own = c.in-Own.ensures.own in (
      c.rounds.stage,
      c.fetch.new.count,
      counted g (fetched g here),
      cause g here _ _ (λ e. let rose = c.take_reply.ensures.cause e in omega (arith, rose, c.rounds.invariant.later)),
      λ w other. exact_own c.rounds.stage c.args.by.limit _ _ _ c.in-Own.reply w (next_kind c.rounds.stage)
          (staged_of c.rounds.stage) c.take_reply.result own other c.take_reply.ensures.answer,
      λ some other. c.fetch.ensures.last (in_memory g here),
      λ on. (
        own.from,
        λ copy stands.
            let old = c.take_reply.ensures.told copy stands in
            ap stage_of (performs_on (act g here) c.args.by.token.now c.take_reply.result old.0 copy old.2 on) ∙
            c.rounds.invariant.holds old.0 old.1,
      ),
    )

pub returns-in_default-clause-asks : goal.returns-in_default-clause-asks
returns-in_default-clause-asks g c =
    let here = (goal.at.returns-in_default-clause-asks g c).After-take_reply in (
      c.fetch.new.count,
      counted g (fetched g here),
      sends_on g (fetched g here) _
          (λ after. TriedIf c.take_reply.result
          (call_with c.args.by.token.now c.args.by.limit c.args.by.tries) c.args.by.run c.fetch.new.count after.sent)
          (λ e. absurd (in_memory g here e))
          (λ after tells. tried_own c.rounds.stage c.take_reply.result (act g here)
          (call_with c.args.by.token.now c.args.by.limit c.args.by.tries) c.args.by.run c.fetch.new.count after.sent
          c.take_reply.ensures.answer),
    )

pub returns-in_default-clause-ends : goal.returns-in_default-clause-ends
returns-in_default-clause-ends g c =
    let here = (goal.at.returns-in_default-clause-ends g c).After-take_reply in
    cause_end (page_asked g here) (Unit {0}) (Unit {0}) c.take_reply.result
    (cause g here (Unit {0}) (Unit {0}) (λ e. tt))

pub returns-in_default-clause-link_leads : goal.returns-in_default-clause-link_leads
returns-in_default-clause-link_leads g c = link_led g
    (fetched g (goal.at.returns-in_default-clause-link_leads g c).After-take_reply)

pub returns-in_default-clause-copy_leads : goal.returns-in_default-clause-copy_leads
returns-in_default-clause-copy_leads g c = g.met.C.CopyKeeper.leads_on _ _ _ c.rounds.invariant.copy_leads
    c.take_reply.ensures.copy_leads

-- ---- all kinds are staged

pub returns-clause-holds : goal.returns-clause-holds
returns-clause-holds g c e = c.rounds.invariant.holds

pub returns-clause-copy : goal.returns-clause-copy
returns-clause-copy g c after stands =
    let first = c.rounds.invariant.copy after stands in
    (first.0, first.1, fills_end _ _ _ _ tt first.2)

pub returns-clause-link : goal.returns-clause-link
returns-clause-link g c after tells =
    let start = c.rounds.invariant.link after tells in
    (start.0, start.1, c.rounds.count, start.2, λ e small ready. start.3 small ready)

pub returns-clause-agree : goal.returns-clause-agree
returns-clause-agree g c fitted copy told stands tells = c.rounds.invariant.agree fitted copy told stands tells

pub returns-clause-bound : goal.returns-clause-bound
returns-clause-bound g c fitted copy told stands tells =
    let start = c.rounds.invariant.link told tells in
    let first = c.rounds.invariant.copy copy stands in
    let at_entry = fitted first.0 start.0 first.1 start.1 in
    let hub = g.met.L.Link.is_hub c.args.link.now start.0 start.1 in
    let small = small_first c.args.stage.now first.0 start.0.hub hub at_entry.0 (c.requires.holds first.0 first.1) in (
      c.rounds.count,
      c.rounds.invariant.asked.most,
      bound_done c.rounds.count c.args.by.tries c.args.by.limit c.args.by.token.now c.args.stage.now c.rounds.stage
          (λ v. HasPin v copy.stage)
          start.0.hub told.hub (c.rounds.invariant.bound fitted copy told stands tells) (start.3 small at_entry.1)
          (pin_same copy.stage c.rounds.stage (c.rounds.invariant.holds copy stands)),
    )

pub returns-clause-complete : goal.returns-clause-complete
returns-clause-complete g c fitted quiet kept copy told stands tells =
    let start = c.rounds.invariant.link told tells in
    (start.0, start.1, λ hub at. tt)

pub returns-clause-told : goal.returns-clause-told
returns-clause-told g c fitted copy told stands tells =
    let start = c.rounds.invariant.link told tells in
    (start.0, start.1, tt)

pub returns-clause-later : goal.returns-clause-later
returns-clause-later g c = c.rounds.invariant.later

pub returns-clause-cause : goal.returns-clause-cause
returns-clause-cause g c =
    let last = c.rounds.invariant.last in (
      last.0,
      c.rounds.count,
      c.rounds.invariant.asked,
      tt,
      λ w own. c.rounds.invariant.page w own,
      λ some other told
          tells. last.1 some told tells,
      λ on. absurd on,
    )

pub returns-clause-asks : goal.returns-clause-asks
returns-clause-asks g c = (
  c.rounds.count,
  c.rounds.invariant.asked,
  λ after tells.
      let pages = IsPageUnder c.args.by.token.now c.args.by.limit in
      let start = c.rounds.invariant.sends after tells in (
        start.0,
        start.1,
        sends_weaker pages pages c.args.by.run 0 c.rounds.count ⊥ _ _ _ (λ n q h. h) (λ h. absurd h)
            start.2,
        tt,
      ),
)

pub returns-clause-ends : goal.returns-clause-ends
returns-clause-ends g c = tt
