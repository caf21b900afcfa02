use Rattle.std.proofs.Common.{arith, ◌≡◌, ◌-◌, ◌≤◌, Some, Ok, Err, sym, subst, ap, ◌∙◌, inl}
use Rattle.std.proofs.lemmas.Option.{none-some}
use Rattle.std.specs.Prelude.{Result}
use Rattle.exchange_link.proofs.AskLemmas.{asks_refl}
use Rattle.exchange_link.proofs.AskedLemmas.{sends_refl, sends_weaker}
use Rattle.exchange_link.proofs.FitLemmas.{copy_on}
use Rattle.exchange_link.specs.Agreement.{CopyFits}
use Rattle.exchange_link.specs.Asked.{SendsOn}
use Rattle.exchange_link.specs.Causes.{RoseBy}
use Rattle.exchange_link.specs.Exchanges.{LinkState}
use Rattle.exchange_link.specs.Pairs.{LinkFrom}
use Rattle.exchange_link.specs.Places.{next_kind}
use Rattle.exchange_link.specs.Requests.{Asks}
use Rattle.keeper_memory.specs.copy.Copies.{Copy, held_list}
use Rattle.roster_base.specs.Faults.{Rose}
use Rattle.consumer_sync.specs.Requests.{IsUnmarked}
use Rattle.consumer_deltas.proofs.DeltaAgreeLemmas.{may_ask}
use Rattle.consumer_deltas.proofs.DeltaFillLemmas.{broken_ends, broken_halts, broken_replies, can_stage, fills_refl}
use Rattle.consumer_deltas.proofs.DeltaFillLemmas.{gathered_on, go_ends, go_stage, kind_fills, merge_ends, merge_halts}
use Rattle.consumer_deltas.proofs.DeltaFillLemmas.{stands_behind, unstaged_end}
use Rattle.consumer_deltas.proofs.DeltaKindLemmas.{broken_told, goes_held, staged_told, stopped_told, unstaged_told}
use Rattle.consumer_deltas.proofs.DeltaMergeLemmas.{same_list}
use Rattle.consumer_deltas.proofs.DeltaStopLemmas.{halt_replies, halts_map, page_replies, sends_at, stops_at, stops_end}
use Rattle.consumer_deltas.proofs.DeltaStopLemmas.{stops_gone, stops_halt}
use Rattle.consumer_deltas.specs.DeltaAnswers.{HasBase}
use Rattle.consumer_deltas.specs.DeltaFilling.{IsPinGone, StagesKind, StandsOn, first_place, pin_in}
use Rattle.consumer_deltas.specs.DeltaGathering.{IsGathered, Stops}
use Rattle.consumer_deltas.specs.DeltaRequests.{IsDeltaUnder}
use Rattle.consumer_deltas.specs.DeltaTelling.{MayAsk, PagesTold}
use Rattle.consumer_deltas.specs.declared.answer.DeltaAnswer.{DeltaAnswer}
use Rattle.consumer_deltas.specs.declared.answer.DeltaAnswer.TheVariants.{Ended}
use Rattle.consumer_deltas.specs.declared.gathering.Delta.{Delta}
use Rattle.exchange_link.specs.declared.answer.SyncAnswer.TheVariants as answer
use Rattle.consumer_deltas.specs.declared.judging.Place.{Place}
use Rattle.consumer_deltas.proofs.filling.fill_kind.Given.{Over}
use Rattle.consumer_deltas.proofs.filling.fill_kind.Goals.{After-gather, In-Err-gather, In-Ok-gather}
use Rattle.consumer_deltas.proofs.filling.fill_kind.Goals as goal

err_same : {a b : DeltaAnswer} → (let x : Result Delta DeltaAnswer = Err a in let y : Result Delta DeltaAnswer = Err
    b in x ≡ y) → a ≡ b
err_same e = cc

ok_err : {d : Delta} {a : DeltaAnswer} {K : Type 0} → (let x : Result Delta DeltaAnswer = Ok d in let y : Result Delta
    DeltaAnswer = Err a in x ≡ y) → K
ok_err e = cc

-- ---- what the pages of the next kind told

module _ (g : Over) (c : After-gather g) where
  abbrev next_place : Place
  next_place = first_place c.args.stage.now c.args.by.base c.args.by.limit

  -- the entries were judged by what is held of the kind
  shown : (copy : Copy) → g.C.CopyKeeper.stands_for c.held.new.self copy → c.in-Ok.held ≡ held_list copy next_place.kind
  shown copy stands =
      c.in-Ok.ensures.shown copy stands ∙ ap (λ (p : Place). held_list copy p.kind) c.first_page-place.ensures.place

  -- where copy and link agreed before, the pages tell what is gathered
  pages_told : (result : Result Delta DeltaAnswer) → c.gather.result ≡ result → (copy : Copy)
      → g.C.CopyKeeper.stands_for c.held.new.self copy → (before after : LinkState)
      → (MayAsk before.hub c.args.by.token.now c.first_page-place.result c.in-Ok.held
      → PagesTold before after c.args.by.token.now c.first_page-place.result c.args.by.tries
      (c.gather.new.count - c.args.count.now) c.gather.result)
      → CopyFits copy before.hub → HasBase c.args.by.base c.args.by.token.now copy
      → PagesTold before after c.args.by.token.now next_place c.args.by.tries (c.gather.new.count - c.args.count.now)
      result
  pages_told result is copy stands before after tells fits has =
      let token = c.args.by.token.now in
      let n = c.gather.new.count - c.args.count.now in
      let place_is = c.first_page-place.ensures.place in
      let holds = c.requires.holds copy (c.held.ensures.same copy stands) in
      let may = may_ask copy c.args.stage.now before.hub token c.args.by.base c.args.by.limit c.in-Ok.held holds
      c.requires.token
      c.requires.room fits has (shown copy stands) in
      subst (λ r. PagesTold before after token next_place c.args.by.tries n r) is
      (subst (λ p. PagesTold before after token p c.args.by.tries n c.gather.result) place_is
      (tells (subst (λ p. MayAsk before.hub token p c.in-Ok.held) (sym place_is) may)))

  asked : LinkFrom (g.L.Link.tells c.args.link.now) (g.L.Link.tells c.gather.new.link)
      (Asks c.args.by.run c.args.count.now c.gather.new.count IsUnmarked)
  asked after tells = let asks = c.gather.ensures.told after tells in (asks.0, asks.1, asks.2)

  -- each request is for a page of what differs from the base on
  sends : (wants : Type 0) → ((let out : Result Delta DeltaAnswer = Err (Ended answer.NoMemory) in c.gather.result ≡
      out) → wants)
      → (after : LinkState) → g.L.Link.tells c.gather.new.link after
      → (before : LinkState) × g.L.Link.tells c.args.link.now before
      × SendsOn (IsDeltaUnder c.args.by.token.now c.args.by.limit c.args.by.base) c.args.by.run c.args.count.now
      c.gather.new.count wants before.sent after.sent
  sends wants given after tells =
      let asks = c.gather.ensures.asks after tells in (
        asks.0,
        asks.1,
        sends_weaker _ _ _ _ _ _ _ _ _ (λ n q h. h) given
            (sends_at c.args.by.token.now c.first_page-place.result next_place c.args.by.run c.args.count.now
            c.gather.new.count
            _ asks.0.sent after.sent c.first_page-place.ensures.place asks.2),
      )

-- what was gathered is a whole delta of the kind
module _ (g : Over) (c : In-Ok-gather g) where
  gathered : IsGathered (first_place c.args.stage.now c.args.by.base c.args.by.limit) c.in-Ok.held c.in-Ok-gather.delta
  gathered =
      subst (λ p. IsGathered p c.in-Ok.held c.in-Ok-gather.delta) c.first_page-place.ensures.place
      c.in-Ok-gather.ensures.whole

-- the pages stopped, at the place of the next kind
module _ (g : Over) (c : In-Err-gather g) where
  stopped : Stops (g.L.Link.kept c.gather.new.link) c.args.by.run c.gather.new.count
      ((c.args.by.tries ≤ g.L.Link.missed c.gather.new.link) × (c.args.by.tries ≤ c.gather.new.count)
      × RoseBy c.args.by.tries (g.L.Link.fault_count c.args.link.now) (g.L.Link.fault_count c.gather.new.link))
      (first_place c.args.stage.now c.args.by.base c.args.by.limit) c.in-Ok.held c.in-Err-gather.answer
  stopped = stops_at _ _ _ _ _ _ c.in-Ok.held c.in-Err-gather.answer c.first_page-place.ensures.place
      c.in-Err-gather.ensures.cause

pub gather-requires-clause-limit : goal.gather-requires-clause-limit
gather-requires-clause-limit g c =
    let is = ap (λ (p : Place). p.limit) c.first_page-place.ensures.place in
    (omega (arith, is, c.requires.limit.0), omega (arith, is, c.requires.limit.1))

pub gather-requires-clause-base : goal.gather-requires-clause-base
gather-requires-clause-base g c =
    let is = ap (λ (p : Place). p.base) c.first_page-place.ensures.place in omega (arith, is, c.requires.base)

pub stage_kind-requires-clause-gathered : goal.stage_kind-requires-clause-gathered
stage_kind-requires-clause-gathered g c =
    let at = goal.at.stage_kind-requires-clause-gathered g c in
    can_stage (next_place g at.After-gather) c.in-Ok.held c.in-Ok-gather.delta (gathered g at.In-Ok-gather)

pub stage_kind-requires-clause-held : goal.stage_kind-requires-clause-held
stage_kind-requires-clause-held g c copy stands =
    let at = goal.at.stage_kind-requires-clause-held g c in
    let place = next_place g at.After-gather in
    gathered_on place c.in-Ok.held (held_list copy place.kind) c.in-Ok-gather.delta (gathered g at.In-Ok-gather)
    (shown g at.After-gather copy stands)

-- ---- the keeper gave up

pub returns-in-Err-clause-on : goal.returns-in-Err-clause-on
returns-in-Err-clause-on g c e = absurd (none-some _ (sym e))

pub returns-in-Err-clause-holds : goal.returns-in-Err-clause-holds
returns-in-Err-clause-holds g c e = absurd (none-some _ (sym e))

pub returns-in-Err-clause-page : goal.returns-in-Err-clause-page
returns-in-Err-clause-page g c e = absurd (none-some _ (sym e))

pub returns-in-Err-clause-copy : goal.returns-in-Err-clause-copy
returns-in-Err-clause-copy g c after stands = (
  after,
  c.held.ensures.same after stands,
  (
    broken_ends c.args.by.token.now c.args.by.base c.in-Err.error c.broken.result c.ended.result after c.broken.ensures
        c.ended.ensures,
    inl (fills_refl c.args.by.token.now after).stage,
  ),
)

pub returns-in-Err-clause-cause : goal.returns-in-Err-clause-cause
returns-in-Err-clause-cause g c =
    broken_halts _ _ _ _ _ _ _ _ c.in-Err.error c.broken.result c.ended.result c.in-Err.ensures.cause c.broken.ensures
    c.ended.ensures

pub returns-in-Err-clause-exact : goal.returns-in-Err-clause-exact
returns-in-Err-clause-exact g c w own =
    broken_replies (first_place c.args.stage.now c.args.by.base c.args.by.limit) w c.in-Err.error c.broken.result
    c.ended.result c.broken.ensures c.ended.ensures

pub returns-in-Err-clause-asked : goal.returns-in-Err-clause-asked
returns-in-Err-clause-asked g c = record { least = omega arith; most = omega arith }

pub returns-in-Err-clause-link : goal.returns-in-Err-clause-link
returns-in-Err-clause-link g c after tells = (after, tells, asks_refl _ _ _ _)

pub returns-in-Err-clause-asks : goal.returns-in-Err-clause-asks
returns-in-Err-clause-asks g c after tells = (after, tells, sends_refl _ _ _ _ _)

pub returns-in-Err-clause-link_leads : goal.returns-in-Err-clause-link_leads
returns-in-Err-clause-link_leads g c = g.met.L.Link.stays _

pub returns-in-Err-clause-told : goal.returns-in-Err-clause-told
returns-in-Err-clause-told g c after t stands tells = (
  after,
  t,
  c.held.ensures.same after stands,
  tells,
  asks_refl _ _ _ _,
  λ ready fits has.
      broken_told c.args.by.token.now c.args.by.limit c.args.by.tries c.args.by.base
      (c.args.count.now - c.args.count.now)
      c.args.stage.now c.args.stage.now t after (c.requires.holds after (c.held.ensures.same after stands)) fits
      (omega arith)
      c.in-Err.error c.broken.result c.ended.result c.broken.ensures c.ended.ensures,
)

-- ---- the pages stopped

pub returns-in-Err-gather-clause-on : goal.returns-in-Err-gather-clause-on
returns-in-Err-gather-clause-on g c e = absurd (none-some _ (sym e))

pub returns-in-Err-gather-clause-holds : goal.returns-in-Err-gather-clause-holds
returns-in-Err-gather-clause-holds g c e = absurd (none-some _ (sym e))

pub returns-in-Err-gather-clause-page : goal.returns-in-Err-gather-clause-page
returns-in-Err-gather-clause-page g c e = absurd (none-some _ (sym e))

pub returns-in-Err-gather-clause-copy : goal.returns-in-Err-gather-clause-copy
returns-in-Err-gather-clause-copy g c after stands =
    let at = goal.at.returns-in-Err-gather-clause-copy g c in
    let from = c.let_go.ensures.told after stands in
    let place = next_place g at.After-gather in
    let given = c.in-Err-gather.answer in
    let stops = stopped g at.In-Err-gather in (
      from.0,
      c.held.ensures.same from.0 from.1,
      (
        go_ends c.args.by.token.now c.args.by.base given c.let_go.result from.0 after
            (stops_end _ _ _ _ place c.in-Ok.held given stops) from.2,
        go_stage c.args.by.token.now _ given c.let_go.result from.0 after
            (stops_gone _ _ _ _ place c.in-Ok.held given stops) from.2,
      ),
    )

pub returns-in-Err-gather-clause-cause : goal.returns-in-Err-gather-clause-cause
returns-in-Err-gather-clause-cause g c =
    let at = goal.at.returns-in-Err-gather-clause-cause g c in
    let place = next_place g at.After-gather in
    let given = c.in-Err-gather.answer in
    let still : (copy : Copy) → g.C.CopyKeeper.stands_for c.let_go.new.copy copy → c.in-Ok.held ≡ held_list copy
    place.kind =
    λ copy stands.
    let from = c.let_go.ensures.told copy stands in
    shown g at.After-gather from.0 from.1
    ∙ same_list place.kind from.0 copy (goes_held given c.let_go.result from.0 copy from.2) in
    halts_map _ _ _ _ _ _ _ _ place c.let_go.result (λ m. m)
    (λ (rose : Rose (g.C.CopyKeeper.fault_count c.held.new.self) (g.C.CopyKeeper.fault_count c.let_go.new.copy)).
    omega (arith, rose, c.held.ensures.later))
    (stops_halt _ _ _ _ _ place c.in-Ok.held given c.let_go.result (stopped g at.In-Err-gather) c.let_go.ensures.ends _
    still)

pub returns-in-Err-gather-clause-exact : goal.returns-in-Err-gather-clause-exact
returns-in-Err-gather-clause-exact g c w own =
    let at = goal.at.returns-in-Err-gather-clause-exact g c in
    halt_replies _ _ _ _ _ (next_place g at.After-gather) c.in-Ok.held c.in-Err-gather.answer c.let_go.result
    (stopped g at.In-Err-gather) c.let_go.ensures.ends w own

pub returns-in-Err-gather-clause-link : goal.returns-in-Err-gather-clause-link
returns-in-Err-gather-clause-link g c = asked g (goal.at.returns-in-Err-gather-clause-link g c).After-gather

pub returns-in-Err-gather-clause-asks : goal.returns-in-Err-gather-clause-asks
returns-in-Err-gather-clause-asks g c =
    let given = c.in-Err-gather.answer in
    sends g (goal.at.returns-in-Err-gather-clause-asks g c).After-gather _ (λ out.
    let wants = err_same {a = given} {b = Ended answer.NoMemory} (sym c.in-Err-gather.is ∙ out) in
    ap Some (c.let_go.ensures.keeps (λ gone. subst IsPinGone wants gone) ∙ wants))

pub returns-in-Err-gather-clause-told : goal.returns-in-Err-gather-clause-told
returns-in-Err-gather-clause-told g c after t stands tells =
    let at = (goal.at.returns-in-Err-gather-clause-told g c).After-gather in
    let from = c.let_go.ensures.told after stands in
    let asks = c.gather.ensures.told t tells in
    let stage = c.args.stage.now in (
      from.0,
      asks.0,
      c.held.ensures.same from.0 from.1,
      asks.1,
      asks.2,
      λ ready fits has.
          let pages = pages_told g at (Err c.in-Err-gather.answer) c.in-Err-gather.is from.0 from.1 asks.0 t
          (asks.3 ready)
          fits has in
          stopped_told c.args.by.token.now c.args.by.limit c.args.by.tries c.args.by.base
          (c.gather.new.count - c.args.count.now) stage asks.0 t from.0
          (c.requires.holds from.0 (c.held.ensures.same from.0 from.1))
          (copy_on from.0 asks.0.hub t.hub asks.2.moved.grew fits) stage c.in-Err-gather.answer c.let_go.result after
          pages
          from.2,
    )

pub returns-in-None-clause-on : goal.returns-in-None-clause-on
returns-in-None-clause-on g c e = (pin_in c.in-Ok-gather.delta, c.stage_kind.ensures.on c.in-None.is)

pub returns-in-None-clause-holds : goal.returns-in-None-clause-holds
returns-in-None-clause-holds g c e = c.stage_kind.ensures.holds c.in-None.is

pub returns-in-None-clause-page : goal.returns-in-None-clause-page
returns-in-None-clause-page g c e = c.in-Ok-gather.ensures.page

pub returns-in-None-clause-copy : goal.returns-in-None-clause-copy
returns-in-None-clause-copy g c after stands =
    let from = c.stage_kind.ensures.told after stands in
    let kind = next_kind c.args.stage.now in
    let fills = kind_fills c.in-Ok-gather.delta kind c.args.stage.now c.args.by.token.now c.stage_kind.result from.0
    after
    from.2 in
    (from.0, c.held.ensures.same from.0 from.1, (fills, inl fills.stage))

pub returns-in-None-clause-link : goal.returns-in-None-clause-link
returns-in-None-clause-link g c = asked g (goal.at.returns-in-None-clause-link g c).After-gather

pub returns-in-None-clause-asks : goal.returns-in-None-clause-asks
returns-in-None-clause-asks g c =
    sends g (goal.at.returns-in-None-clause-asks g c).After-gather _
    (λ out. ok_err {d = c.in-Ok-gather.delta} {a = Ended answer.NoMemory} (sym c.in-Ok-gather.is ∙ out))

pub returns-in-None-clause-told : goal.returns-in-None-clause-told
returns-in-None-clause-told g c after t stands tells =
    let at = (goal.at.returns-in-None-clause-told g c).After-gather in
    let delta = c.in-Ok-gather.delta in
    let kind = next_kind c.args.stage.now in
    let from = c.stage_kind.ensures.told after stands in
    let asks = c.gather.ensures.told t tells in (
      from.0,
      asks.0,
      c.held.ensures.same from.0 from.1,
      asks.1,
      asks.2,
      λ ready fits has.
          let pages = pages_told g at (Ok delta) c.in-Ok-gather.is from.0 from.1 asks.0 t (asks.3 ready) fits has in
          staged_told c.args.by.token.now c.args.by.limit c.args.by.tries c.args.by.base
          (c.gather.new.count - c.args.count.now)
          c.args.stage.now asks.0 t from.0 after delta (c.requires.holds from.0 (c.held.ensures.same from.0 from.1))
          c.requires.token c.requires.room (g.met.L.Link.is_hub c.gather.new.link t tells) fits asks.2.moved.grew has
          pages
          c.stage_kind.new.stage (c.stage_kind.ensures.on c.in-None.is)
          (subst (λ r. StagesKind delta kind c.args.stage.now c.args.by.token.now r from.0 after) c.in-None.is from.2),
    )

pub returns-in-Some-clause-on : goal.returns-in-Some-clause-on
returns-in-Some-clause-on g c e = absurd (none-some _ (sym e))

pub returns-in-Some-clause-holds : goal.returns-in-Some-clause-holds
returns-in-Some-clause-holds g c e = absurd (none-some _ (sym e))

pub returns-in-Some-clause-page : goal.returns-in-Some-clause-page
returns-in-Some-clause-page g c e = absurd (none-some _ (sym e))

pub returns-in-Some-clause-copy : goal.returns-in-Some-clause-copy
returns-in-Some-clause-copy g c after stands =
    let from = c.stage_kind.ensures.told after stands in
    let kind = next_kind c.args.stage.now in
    let fills = kind_fills c.in-Ok-gather.delta kind c.args.stage.now c.args.by.token.now c.stage_kind.result from.0
    after
    from.2 in
    let end = unstaged_end _ _ kind c.in-Ok-gather.delta c.in-Some.answer c.in-Some.ensures.ends in (
      from.0,
      c.held.ensures.same from.0 from.1,
      (merge_ends c.args.by.token.now c.args.by.base c.in-Some.answer from.0 after end fills, inl fills.stage),
    )

pub returns-in-Some-clause-cause : goal.returns-in-Some-clause-cause
returns-in-Some-clause-cause g c =
    let at = goal.at.returns-in-Some-clause-cause g c in
    let delta = c.in-Ok-gather.delta in
    let place = next_place g at.After-gather in
    let whole = gathered g at.In-Ok-gather in
    let stands : (copy : Copy) → g.C.CopyKeeper.stands_for c.stage_kind.new.copy copy
    → StandsOn (held_list copy place.kind) delta = λ copy stands.
    let from = c.stage_kind.ensures.told copy stands in
    let on = gathered_on place c.in-Ok.held (held_list from.0 place.kind) delta whole
    (shown g at.After-gather from.0 from.1) in
    stands_behind delta place.kind c.args.stage.now c.args.by.token.now c.stage_kind.result from.0 copy on from.2 in
    halts_map _ _ _ _ _ _ _ _ place (Ended c.in-Some.answer) (λ m. m)
    (λ (rose : Rose (g.C.CopyKeeper.fault_count c.held.new.self) (g.C.CopyKeeper.fault_count c.stage_kind.new.copy)).
    omega (arith, rose, c.held.ensures.later))
    (merge_halts _ _ _ _ _ _ place delta c.in-Some.answer (can_stage place c.in-Ok.held delta whole) stands
    c.in-Some.ensures.ends)

pub returns-in-Some-clause-exact : goal.returns-in-Some-clause-exact
returns-in-Some-clause-exact g c w own =
    page_replies (next_place g (goal.at.returns-in-Some-clause-exact g c).After-gather) w _
    (c.in-Ok-gather.ensures.page w own)

pub returns-in-Some-clause-link : goal.returns-in-Some-clause-link
returns-in-Some-clause-link g c = asked g (goal.at.returns-in-Some-clause-link g c).After-gather

pub returns-in-Some-clause-asks : goal.returns-in-Some-clause-asks
returns-in-Some-clause-asks g c =
    sends g (goal.at.returns-in-Some-clause-asks g c).After-gather _
    (λ out. ok_err {d = c.in-Ok-gather.delta} {a = Ended answer.NoMemory} (sym c.in-Ok-gather.is ∙ out))

pub returns-in-Some-clause-told : goal.returns-in-Some-clause-told
returns-in-Some-clause-told g c after t stands tells =
    let at = (goal.at.returns-in-Some-clause-told g c).After-gather in
    let delta = c.in-Ok-gather.delta in
    let kind = next_kind c.args.stage.now in
    let from = c.stage_kind.ensures.told after stands in
    let asks = c.gather.ensures.told t tells in (
      from.0,
      asks.0,
      c.held.ensures.same from.0 from.1,
      asks.1,
      asks.2,
      λ ready fits has.
          let pages = pages_told g at (Ok delta) c.in-Ok-gather.is from.0 from.1 asks.0 t (asks.3 ready) fits has in
          unstaged_told c.args.by.token.now c.args.by.limit c.args.by.tries c.args.by.base
          (c.gather.new.count - c.args.count.now)
          c.args.stage.now asks.0 t from.0 after delta (c.requires.holds from.0 (c.held.ensures.same from.0 from.1))
          c.requires.token c.requires.room (g.met.L.Link.is_hub c.gather.new.link t tells) fits asks.2.moved.grew has
          pages
          c.stage_kind.new.stage c.in-Some.answer
          (subst (λ r. StagesKind delta kind c.args.stage.now c.args.by.token.now r from.0 after) c.in-Some.is from.2),
    )
