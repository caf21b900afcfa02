use Rattle.std.proofs.Common.{arith, ◌≡◌, ◌+◌, ◌≤◌, ◌⊎◌, sym, subst, None, Some, ◌∙◌, ap, inl, inr}
use Rattle.std.proofs.lemmas.Option.{none-some, same_Some}
use Rattle.std.specs.Prelude.{Option}
use Rattle.keeper_memory.specs.copy.Copies.{Copy}
use Rattle.keeper_memory.specs.copy.Lists.{kind_count}
use Rattle.keeper_memory.specs.copy.States.{stage_of}
use Rattle.keeper_memory.specs.declared.copy.state.StageState.{StageState}
use Rattle.exchange_link.specs.Agreement.{StagesAgree}
use Rattle.exchange_link.specs.Bounds.{Bounded, HasPin, IsCallPin}
use Rattle.exchange_link.specs.Causes.{AnswersTo, AsksOn, CauseOf, IsAside, LastLaw, RoseBy, ToldCause, kept_of}
use Rattle.exchange_link.specs.Completeness.{IsDone, StandsAt, first_pin}
use Rattle.exchange_link.specs.Places.{IsStaged, kinds_of, pin_of}
use Rattle.exchange_link.specs.Synchronised.{Leaves, Synchronised, own_state}
use Rattle.exchange_link.specs.declared.answer.SyncAnswer.{SyncAnswer}
use Rattle.exchange_link.specs.declared.answer.SyncAnswer.TheVariants as answer
use Rattle.roster_base.specs.Faults.{Rose}
use Rattle.consumer_sync.specs.Filling.{AreReady, Ends, HasToken, IsSmall, PinLaw, last_asked}
use Rattle.consumer_sync.specs.Starting.{run_begun}
use Rattle.consumer_sync.proofs.FaultLemmas.{abort_faults, enter_faults, fill_faults, swap_faults}
use Rattle.consumer_sync.proofs.FillLemmas.{small_fits, small_own}
use Rattle.consumer_sync.proofs.BoundLemmas.{bounded_map, bounded_zero, swap_pin}
use Rattle.consumer_sync.proofs.CauseLemmas.{exact_page}
use Rattle.consumer_sync.proofs.DoneLemmas.{start_told}
use Rattle.consumer_sync.proofs.MarkLemmas.{marks_asked, marks_dropped, marks_kept}
use Rattle.consumer_sync.proofs.SyncLemmas.{begun_is, cause_whole, drop_done, drop_fails, drop_sync}
use Rattle.consumer_sync.proofs.SyncLemmas.{enter_done, enter_leaves, enter_sync, entry, fill_leaves, fill_sync}
use Rattle.consumer_sync.proofs.SyncLemmas.{finish_by, finish_other, last_dropped, last_ended, last_entered, last_low}
use Rattle.consumer_sync.proofs.SyncLemmas.{own_few, own_token, start_cause, start_on, swap_leaves, swap_run, swap_sync}
use Rattle.consumer_sync.proofs.SyncLemmas.{unentered_cause}
use Rattle.consumer_sync.proofs.TriedLemmas.{tried_entered, tried_start}
use Rattle.exchange_link.proofs.AskedLemmas.{sends_refl, sends_weaker}
use Rattle.exchange_link.specs.Asked.{IsPageUnder, TriedFor}
use Rattle.exchange_link.specs.Between.{call_with}
use Rattle.exchange_link.proofs.RunLemmas.{ready_from}
use Rattle.consumer_sync.proofs.run.sync.Given.{Over}
use Rattle.consumer_sync.proofs.run.sync.Goals.{After-fill, After-finish}
use Rattle.consumer_sync.proofs.run.sync.Goals as goal

-- the copy that stood at entry, where the keeper stood for this one when the pages began
record Entered (g : Over) (c : After-fill g) (begun : Copy) : Type 0 where
  pub first : Copy
  pub stood : g.C.CopyKeeper.stands_for c.args.copy.now first
  pub run_is : c.in-Ok.state.run ≡ first.run + 1
  pub begun_is : begun ≡ run_begun c.args.token.now first
  pub begun_run : begun.run ≡ c.in-Ok.state.run
  pub stage_is : c.in-Ok-drop_other.begun ≡ own_state c.args.token.now (stage_of first)

module _ (g : Over) (c : After-fill g) where
  entered : (begun : Copy) → g.C.CopyKeeper.stands_for c.drop_other.new.copy begun → Entered g c begun
  entered begun stands =
      let dropped = c.in-Ok-drop_other.ensures.told begun stands in
      let first = c.in-Ok.ensures.told dropped.0 dropped.1 in
      let held = c.in-Ok.ensures.holds dropped.0 dropped.1 in
      record {
        first = first.0;
        stood = first.1;
        run_is = (first.2).0;
        begun_is = begun_is c.args.token.now first.0 dropped.0 begun c.in-Ok.state c.in-Ok-drop_other.begun first.2
            dropped.2;
        begun_run = ap (λ (copy : Copy). copy.run) dropped.2 ∙ held.0;
        stage_is = c.in-Ok-drop_other.ensures.ok ∙ ap (own_state c.args.token.now)
            (sym held.1 ∙ ap stage_of (first.2).1);
      }

  -- what the pages are given, where copy and link agree at entry
  fitted : StagesAgree (g.C.CopyKeeper.stands_for c.args.copy.now) (g.L.Link.tells c.args.link.now)
      → AreReady c.in-Ok.state.run (g.C.CopyKeeper.stands_for c.drop_other.new.copy) (g.L.Link.tells c.args.link.now)
  fitted agree begun told stands tells =
      let from = entered begun stands in
      entry c.args.token.now c.in-Ok.state.run from.first begun told from.begun_is from.run_is
      (agree from.first told from.stood tells)

  copy_led : g.C.CopyKeeper.leads c.args.copy.now c.fill.new.copy
  copy_led =
      let begun = g.met.C.CopyKeeper.leads_on _ _ _ c.begin_run.ensures.copy_leads c.drop_other.ensures.copy_leads in
      g.met.C.CopyKeeper.leads_on _ _ _ begun c.fill.ensures.copy_leads

-- ---- all kinds are staged

module _ (g : Over) (c : After-finish g) where
  -- this is the stage then
  staged : IsStaged (g.C.CopyKeeper.stands_for c.fill.new.copy) (Some c.in-Some-stage.s)
  staged copy stands = c.fill.ensures.holds c.in_default.is copy stands ∙ c.in-Some-stage.is

  -- and it is whole
  whole : c.in-Some-stage.s.kinds_done ≡ kind_count
  whole = subst (λ (o : Option StageState). kinds_of o ≡ kind_count) c.in-Some-stage.is
      (c.fill.ensures.done c.in_default.is)

-- ---- the answers

pub fill-requires-clause-token : goal.fill-requires-clause-token
fill-requires-clause-token g c = subst (λ (o : Option StageState). HasToken c.args.token.now o)
    (sym c.in-Ok-drop_other.ensures.ok) (own_token c.args.token.now c.in-Ok.state.stage)

pub fill-requires-clause-few : goal.fill-requires-clause-few
fill-requires-clause-few g c = subst (λ (o : Option StageState). kinds_of o ≤ kind_count)
    (sym c.in-Ok-drop_other.ensures.ok) (own_few c.args.token.now c.in-Ok.state.stage c.in-Ok.ensures.few)

pub returns-in-Err-clause-told : goal.returns-in-Err-clause-told
returns-in-Err-clause-told g c agree after tells stands told =
    let first = c.in-Err.ensures.told after stands in
    let is = enter_sync c.args.token.now c.in-Err.error first.0 after tells first.2
    (agree first.0 tells first.1 told) in (
      first.0,
      tells,
      first.1,
      told,
      subst (λ (a : SyncAnswer). Synchronised c.args.token.now a first.0 tells after
          tells) (sym c.unentered.ensures) is,
    )

pub returns-in-Err-clause-copy : goal.returns-in-Err-clause-copy
returns-in-Err-clause-copy g c after stands =
    let first = c.in-Err.ensures.told after stands in
    let left = enter_leaves c.args.token.now c.in-Err.error first.0 after first.2 in (
      first.0,
      first.1,
      subst (λ (a : SyncAnswer). Leaves c.args.token.now a first.0 after) (sym c.unentered.ensures)
          left,
    )

pub returns-in-Err-drop_other-clause-told : goal.returns-in-Err-drop_other-clause-told
returns-in-Err-drop_other-clause-told g c agree after tells stands told =
    let run = c.in-Err-drop_other.ensures.told after stands in
    let first = c.in-Ok.ensures.told run.0 run.1 in (
      first.0,
      tells,
      first.1,
      told,
      drop_sync c.args.token.now c.in-Ok.state.run c.in-Err-drop_other.answer first.0 run.0 after c.in-Ok.state tells
          _ c.in-Err-drop_other.ensures.cause
          first.2 run.2 (agree first.0 tells first.1 told),
    )

pub returns-in-Some-clause-copy : goal.returns-in-Some-clause-copy
returns-in-Some-clause-copy g c after stands =
    let filled = c.in-Some.ensures.copy after stands in
    let from = entered g (goal.at.returns-in-Some-clause-copy g c).After-fill filled.0 filled.1 in (
      from.first,
      from.stood,
      fill_leaves c.args.token.now c.in-Some.answer from.first filled.0 after from.begun_is
          c.in-Some.ensures.ends filled.2,
    )

pub returns-in-Some-clause-told : goal.returns-in-Some-clause-told
returns-in-Some-clause-told g c agree after tells stands told =
    let here = (goal.at.returns-in-Some-clause-told g c).After-fill in
    let filled = c.in-Some.ensures.copy after stands in
    let from = entered g here filled.0 filled.1 in
    let asked = c.fill.ensures.link tells told in (
      from.first,
      asked.0,
      from.stood,
      asked.1,
      fill_sync c.args.token.now c.in-Ok.state.run asked.2 c.in-Some.answer from.first filled.0 after asked.0 tells
          from.begun_is
          c.in-Some.ensures.ends filled.2 from.run_is asked.3 (agree from.first asked.0 from.stood asked.1)
          (c.fill.ensures.agree (fitted g here agree) after tells stands told),
    )

pub returns-clause-told : goal.returns-clause-told
returns-clause-told g c agree after tells stands told =
    let here = (goal.at.returns-clause-told g c).After-fill in
    let all = (goal.at.returns-clause-told g c).After-finish in
    let last = c.finish.ensures.told after stands in
    let filled = c.in_default.ensures.copy last.0 last.1 in
    let from = entered g here filled.0 filled.1 in
    let asked = c.fill.ensures.link tells told in
    let first = agree from.first asked.0 from.stood asked.1 in
    let hub = g.met.L.Link.is_hub c.args.link.now asked.0 asked.1 in
    let small = subst (λ (o : Option StageState). IsSmall o) (sym from.stage_is)
    (small_own c.args.token.now (stage_of from.first)
    (small_fits (asked.0).hub hub from.first.stage first.fits.stage)) in
    let ready = ready_from from.first.run c.in-Ok.state.run (asked.0).sent from.run_is first.differ first.below in
    let law = asked.4 c.in_default.is small ready in (
      from.first,
      asked.0,
      from.stood,
      asked.1,
      swap_sync c.args.token.now c.in-Ok.state.run asked.2 from.first last.0 after c.in-Some-stage.s asked.0 tells
          c.finish.result
          (record {
            ends = subst (λ (d : Copy). Ends c.args.token.now None d last.0) from.begun_is filled.2;
            state = staged g all last.0 last.1;
            all = whole g all;
            run_is = from.run_is;
            asks = asked.3;
            agree = first;
            fits = c.fill.ensures.agree (fitted g here agree) last.0 tells last.1 told;
            law = subst (λ (o : Option StageState). PinLaw o (asked.0).hub (Some c.in-Some-stage.s)) from.stage_is
                (subst (λ (o : Option StageState). PinLaw c.in-Ok-drop_other.begun (asked.0).hub o) c.in-Some-stage.is
                law);
          }) last.2,
    )

pub returns-in-Err-clause-bound : goal.returns-in-Err-clause-bound
returns-in-Err-clause-bound g c agree after tells stands told =
    let first = c.in-Err.ensures.told after stands in (
      first.0,
      first.1,
      0,
      omega arith,
      bounded_zero c.args.tries c.args.limit c.args.token.now
          (own_state c.args.token.now (stage_of first.0)) (λ v. IsCallPin c.unentered.result after tells.sent v)
          tells.hub,
    )

pub returns-in-Err-drop_other-clause-bound : goal.returns-in-Err-drop_other-clause-bound
returns-in-Err-drop_other-clause-bound g c agree after tells stands told =
    let run = c.in-Err-drop_other.ensures.told after stands in
    let first = c.in-Ok.ensures.told run.0 run.1 in (
      first.0,
      first.1,
      0,
      omega arith,
      bounded_zero c.args.tries c.args.limit c.args.token.now
          (own_state c.args.token.now (stage_of first.0)) (λ v. IsCallPin c.in-Err-drop_other.answer after tells.sent v)
          tells.hub,
    )

pub returns-in-Some-clause-bound : goal.returns-in-Some-clause-bound
returns-in-Some-clause-bound g c agree after tells stands told =
    let here = (goal.at.returns-in-Some-clause-bound g c).After-fill in
    let filled = c.in-Some.ensures.copy after stands in
    let from = entered g here filled.0 filled.1 in
    let bound = c.in-Some.ensures.bound (fitted g here agree) after tells stands told in (
      from.first,
      from.stood,
      bound.0,
      bound.1,
      subst (λ (o : Option StageState). Bounded bound.0 c.args.tries c.args.limit c.args.token.now o
          (λ v. IsCallPin c.in-Some.answer after tells.sent v) tells.hub)
          from.stage_is bound.2,
    )

pub returns-clause-bound : goal.returns-clause-bound
returns-clause-bound g c agree after tells stands told =
    let here = (goal.at.returns-clause-bound g c).After-fill in
    let last = c.finish.ensures.told after stands in
    let filled = c.in_default.ensures.copy last.0 last.1 in
    let from = entered g here filled.0 filled.1 in
    let bound = c.in_default.ensures.bound (fitted g here agree) last.0 tells last.1 told in
    let state = staged g (goal.at.returns-clause-bound g c).After-finish last.0 last.1 in (
      from.first,
      from.stood,
      bound.0,
      bound.1,
      subst (λ (o : Option StageState). Bounded bound.0 c.args.tries c.args.limit c.args.token.now o
          (λ v. IsCallPin c.finish.result after tells.sent v) tells.hub)
          from.stage_is
          (bounded_map bound.0 c.args.tries c.args.limit c.args.token.now c.in-Ok-drop_other.begun
          (λ v. HasPin v (last.0).stage)
          (λ v. IsCallPin c.finish.result after tells.sent v) tells.hub
          (λ v h. swap_pin c.finish.result c.in-Some-stage.s last.0 after tells.sent v state last.2 h) bound.2),
    )

pub returns-in-Err-clause-complete : goal.returns-in-Err-clause-complete
returns-in-Err-clause-complete g c agree link copy after tells stands told =
    let first = c.in-Err.ensures.told after stands in (
      first.0,
      tells,
      first.1,
      told,
      λ low hub at. subst (λ (a : SyncAnswer). IsDone a) (sym c.unentered.ensures)
          (enter_done c.in-Err.error first.0 after _ c.in-Err.ensures.cause first.2 copy low),
    )

pub returns-in-Err-drop_other-clause-complete : goal.returns-in-Err-drop_other-clause-complete
returns-in-Err-drop_other-clause-complete g c agree link copy after tells stands told =
    let run = c.in-Err-drop_other.ensures.told after stands in
    let first = c.in-Ok.ensures.told run.0 run.1 in (
      first.0,
      tells,
      first.1,
      told,
      λ low hub at. drop_done c.in-Err-drop_other.answer _
          c.in-Err-drop_other.ensures.cause (λ rose. copy (omega (arith, rose, c.begin_run.ensures.later))),
    )

pub returns-in-Some-clause-complete : goal.returns-in-Some-clause-complete
returns-in-Some-clause-complete g c agree link copy after tells stands told =
    let here = (goal.at.returns-in-Some-clause-complete g c).After-fill in
    let filled = c.in-Some.ensures.copy after stands in
    let from = entered g here filled.0 filled.1 in
    let done = c.in-Some.ensures.complete (fitted g here agree) link
    (λ rose. copy (omega (arith, rose, c.begin_run.ensures.later, c.drop_other.ensures.later))) after tells stands
    told in (
      from.first,
      done.0,
      from.stood,
      done.1,
      λ low hub at. done.2 hub
          (subst (λ (o : Option StageState). StandsAt (first_pin o (done.0).hub) c.args.token.now tells.hub)
          (sym from.stage_is) at),
    )

pub returns-clause-complete : goal.returns-clause-complete
returns-clause-complete g c agree link copy after tells stands told =
    let last = c.finish.ensures.told after stands in
    let filled = c.in_default.ensures.copy last.0 last.1 in
    let from = entered g (goal.at.returns-clause-complete g c).After-fill filled.0 filled.1 in
    let asked = c.fill.ensures.link tells told in (
      from.first,
      asked.0,
      from.stood,
      asked.1,
      λ low hub at. finish_by (λ a. IsDone a) c.finish.result c.in-Some-stage.s.pin c.finish.ensures.answers tt
          (λ e. absurd (copy (let rose = c.finish.ensures.cause e in omega
          (arith, rose, c.begin_run.ensures.later, c.drop_other.ensures.later, c.fill.ensures.later))))
          tt,
    )

pub returns-clause-copy : goal.returns-clause-copy
returns-clause-copy g c after stands =
    let all = (goal.at.returns-clause-copy g c).After-finish in
    let last = c.finish.ensures.told after stands in
    let filled = c.in_default.ensures.copy last.0 last.1 in
    let from = entered g (goal.at.returns-clause-copy g c).After-fill filled.0 filled.1 in (
      from.first,
      from.stood,
      swap_leaves c.args.token.now from.first filled.0 last.0 after c.in-Some-stage.s c.finish.result from.begun_is
          filled.2
          (staged g all last.0 last.1) (whole g all) last.2,
    )

pub returns-in-Err-clause-cause_told : goal.returns-in-Err-clause-cause_told
returns-in-Err-clause-cause_told g c agree after tells stands told = (
  tells,
  told,
  start_told c.args.token.now tells tells _ c.unentered.result
      (unentered_cause c.unentered.ensures c.in-Err.ensures.cause),
)

pub returns-in-Err-drop_other-clause-cause_told : goal.returns-in-Err-drop_other-clause-cause_told
returns-in-Err-drop_other-clause-cause_told g c agree after tells stands told = (
  tells,
  told,
  start_told c.args.token.now tells tells _ c.in-Err-drop_other.answer
      (c.in-Err-drop_other.ensures.cause).1,
)

pub returns-in-Some-clause-cause_told : goal.returns-in-Some-clause-cause_told
returns-in-Some-clause-cause_told g c agree = c.in-Some.ensures.told
    (fitted g (goal.at.returns-in-Some-clause-cause_told g c).After-fill agree)

pub returns-clause-cause_told : goal.returns-clause-cause_told
returns-clause-cause_told g c agree after tells stands told =
    let asked = c.fill.ensures.link tells told in (
      asked.0,
      asked.1,
      finish_by (λ a. ToldCause c.args.token.now asked.0 tells a) c.finish.result c.in-Some-stage.s.pin
          c.finish.ensures.answers tt (λ e. tt) tt,
    )

pub returns-in-Err-clause-cause : goal.returns-in-Err-clause-cause
returns-in-Err-clause-cause g c =
    record {
      run = 0;
      count = 0;
      asked = None;
      counts = record { least = omega arith; most = omega arith };
      runs = λ some. absurd (omega (arith, some));
      only = start_cause c.args.limit _ _ _ _ c.unentered.result (λ k. k)
          (unentered_cause c.unentered.ensures c.in-Err.ensures.cause);
      exact = λ w own. absurd (let from = own.from in omega (arith, from));
      last = λ some. absurd (omega (arith, some));
      on = λ on. absurd (start_on _ c.unentered.result (unentered_cause c.unentered.ensures c.in-Err.ensures.cause) on);
    }

pub returns-in-Err-drop_other-clause-cause : goal.returns-in-Err-drop_other-clause-cause
returns-in-Err-drop_other-clause-cause g c =
    record {
      run = 0;
      count = 0;
      asked = None;
      counts = record { least = omega arith; most = omega arith };
      runs = λ some. absurd (omega (arith, some));
      only = start_cause c.args.limit _ _ _ _ c.in-Err-drop_other.answer
          (λ rose. omega (arith, rose, c.begin_run.ensures.later)) (c.in-Err-drop_other.ensures.cause).1;
      exact = λ w own. absurd (let from = own.from in omega (arith, from));
      last = λ some. absurd (omega (arith, some));
      on = λ on. absurd (start_on _ c.in-Err-drop_other.answer (c.in-Err-drop_other.ensures.cause).1 on);
    }

pub returns-in-Some-clause-cause : goal.returns-in-Some-clause-cause
returns-in-Some-clause-cause g c =
    let cause = c.in-Some.ensures.cause in
    let asked = last_asked cause.0 c.args.limit (kept_of (g.L.Link.kept c.fill.new.link) c.in-Ok.state.run cause.1) in
    record {
      run = c.in-Ok.state.run;
      count = cause.1;
      asked = cause.0;
      counts = cause.2;
      runs = λ some copy stands.
          let filled = c.in-Some.ensures.copy copy stands in
          (filled.2).run ∙ (entered g (goal.at.returns-in-Some-clause-cause g c).After-fill filled.0
          filled.1).begun_run;
      only = cause_whole asked _ _ _ c.in-Some.answer
          (λ rose. omega (arith, rose, c.begin_run.ensures.later, c.drop_other.ensures.later)) cause.3;
      exact = cause.4;
      last = λ some other told tells. cause.5 some (λ e. other (same_Some _ _ e)) told tells;
      on = cause.6;
    }

pub returns-clause-cause : goal.returns-clause-cause
returns-clause-cause g c =
    let cause = c.in_default.ensures.cause in
    let pin = c.in-Some-stage.s.pin in
    record {
      run = c.in-Ok.state.run;
      count = cause.1;
      asked = cause.0;
      counts = cause.2;
      runs = λ some copy stands.
          let last = c.finish.ensures.told copy stands in
          let filled = c.in_default.ensures.copy last.0 last.1 in
          swap_run c.finish.result _ last.0 copy last.2 ∙ (filled.2).run ∙
          (entered g (goal.at.returns-clause-cause g c).After-fill filled.0 filled.1).begun_run;
      only = finish_by (λ a. CauseOf cause.0 c.args.limit (kept_of (g.L.Link.kept c.fill.new.link) c.in-Ok.state.run
          cause.1)
          ((c.args.tries ≤ g.L.Link.missed c.fill.new.link) × (c.args.tries ≤ cause.1) × RoseBy c.args.tries
          (g.L.Link.fault_count c.args.link.now) (g.L.Link.fault_count c.fill.new.link))
          (Rose (g.C.CopyKeeper.fault_count c.args.copy.now) (g.C.CopyKeeper.fault_count c.finish.new.copy)) a)
          c.finish.result pin c.finish.ensures.answers tt
          (λ e. let rose = c.finish.ensures.cause e in omega
          (arith, rose, c.begin_run.ensures.later, c.drop_other.ensures.later, c.fill.ensures.later)) tt;
      exact = λ w own. finish_by (λ a. IsAside a ⊎ AnswersTo (pin_of cause.0) w a) c.finish.result pin
          c.finish.ensures.answers
          (inr (exact_page (pin_of cause.0) w (answer.Complete pin) (cause.4 w own))) (λ e. inl tt) (inl tt);
      last = λ some other told tells. cause.5 some (none-some _) told tells;
      on = λ on. absurd (finish_by (λ a. AsksOn a → ⊥) c.finish.result pin c.finish.ensures.answers (λ n. n)
          (λ e n. n) (λ n. n) on);
    }

pub returns-in-Err-clause-faulted : goal.returns-in-Err-clause-faulted
returns-in-Err-clause-faulted g c is after stands =
    let first = c.in-Err.ensures.told after stands in (
      first.0,
      first.1,
      enter_faults c.args.token.now _ c.in-Err.error first.0 after (sym c.unentered.ensures ∙ is)
          first.2,
    )

pub returns-in-Err-drop_other-clause-faulted : goal.returns-in-Err-drop_other-clause-faulted
returns-in-Err-drop_other-clause-faulted g c is after stands =
    let run = c.in-Err-drop_other.ensures.told after stands in
    let first = c.in-Ok.ensures.told run.0 run.1 in (
      first.0,
      first.1,
      abort_faults c.args.token.now _ first.0 after
          (drop_fails c.args.token.now first.0 run.0 after c.in-Err-drop_other.answer first.2.1 run.2),
    )

pub returns-in-Some-clause-faulted : goal.returns-in-Some-clause-faulted
returns-in-Some-clause-faulted g c is after stands =
    let filled = c.fill.ensures.faulted (c.in-Some.is ∙ ap Some is) after stands in
    let from = entered g (goal.at.returns-in-Some-clause-faulted g c).After-fill filled.0 filled.1 in
    (from.first, from.stood, fill_faults c.args.token.now _ from.first filled.0 after from.begun_is filled.2.1)

pub returns-clause-faulted : goal.returns-clause-faulted
returns-clause-faulted g c is after stands =
    let all = (goal.at.returns-clause-faulted g c).After-finish in
    let last = c.finish.ensures.told after stands in
    let filled = c.in_default.ensures.copy last.0 last.1 in
    let from = entered g (goal.at.returns-clause-faulted g c).After-fill filled.0 filled.1 in (
      from.first,
      from.stood,
      swap_faults c.args.token.now _ from.first filled.0 last.0 after c.in-Some-stage.s c.finish.result from.begun_is
          filled.2
          (staged g all last.0 last.1) (whole g all) is last.2,
    )

pub returns-in-Err-clause-last_run : goal.returns-in-Err-clause-last_run
returns-in-Err-clause-last_run g c after stands =
    let first = c.in-Err.ensures.told after stands in (
      first.0,
      first.1,
      subst (λ (a : SyncAnswer). LastLaw a first.0 after) (sym c.unentered.ensures)
          (last_entered c.in-Err.error first.0 after first.2),
    )

pub returns-in-Err-drop_other-clause-last_run : goal.returns-in-Err-drop_other-clause-last_run
returns-in-Err-drop_other-clause-last_run g c after stands =
    let run = c.in-Err-drop_other.ensures.told after stands in
    let first = c.in-Ok.ensures.told run.0 run.1 in
    (first.0, first.1, last_dropped c.in-Err-drop_other.answer first.0 after _ c.in-Err-drop_other.ensures.cause)

pub returns-in-Some-clause-last_run : goal.returns-in-Some-clause-last_run
returns-in-Some-clause-last_run g c after stands =
    let filled = c.in-Some.ensures.copy after stands in
    let from = entered g (goal.at.returns-in-Some-clause-last_run g c).After-fill filled.0 filled.1 in (
      from.first,
      from.stood,
      last_ended c.in-Some.answer from.first after c.in-Ok.state.run c.in-Some.ensures.ends
          from.run_is c.in-Ok.ensures.run.1,
    )

pub returns-clause-last_run : goal.returns-clause-last_run
returns-clause-last_run g c after stands =
    let last = c.finish.ensures.told after stands in
    let filled = c.in_default.ensures.copy last.0 last.1 in
    let from = entered g (goal.at.returns-clause-last_run g c).After-fill filled.0 filled.1 in
    let other = finish_other c.finish.result c.in-Some-stage.s.pin c.finish.ensures.answers in (
      from.first,
      from.stood,
      last_low c.finish.result from.first after c.in-Ok.state.run other from.run_is
          c.in-Ok.ensures.run.1,
    )

pub returns-in-Err-clause-marks : goal.returns-in-Err-clause-marks
returns-in-Err-clause-marks g c agree after tells stands told =
    let left = returns-in-Err-clause-copy g c after stands in
    marks_kept c.args.token.now _ left.0 after tells left.2 (agree left.0 tells left.1 told)

pub returns-in-Err-drop_other-clause-marks : goal.returns-in-Err-drop_other-clause-marks
returns-in-Err-drop_other-clause-marks g c agree after tells stands told =
    let run = c.in-Err-drop_other.ensures.told after stands in
    let first = c.in-Ok.ensures.told run.0 run.1 in
    marks_dropped c.args.token.now c.in-Ok.state c.in-Err-drop_other.answer first.0 run.0 after tells first.2 run.2
    (agree first.0 tells first.1 told)

pub returns-in-Some-clause-marks : goal.returns-in-Some-clause-marks
returns-in-Some-clause-marks g c agree after tells stands told =
    let left = returns-in-Some-clause-copy g c after stands in
    let asked = c.fill.ensures.link tells told in
    let marks = marks_asked c.in-Ok.state.run asked.2 left.0 asked.0 tells asked.3
    (agree left.0 asked.0 left.1 asked.1) in
    marks_kept c.args.token.now _ left.0 after tells left.2 marks

pub returns-clause-marks : goal.returns-clause-marks
returns-clause-marks g c agree after tells stands told =
    let left = returns-clause-copy g c after stands in
    let asked = c.fill.ensures.link tells told in
    let marks = marks_asked c.in-Ok.state.run asked.2 left.0 asked.0 tells asked.3
    (agree left.0 asked.0 left.1 asked.1) in
    marks_kept c.args.token.now _ left.0 after tells left.2 marks

pub returns-in-Err-clause-asks : goal.returns-in-Err-clause-asks
returns-in-Err-clause-asks g c after tells = (
  after,
  tells,
  record {
    run = 0;
    count = 0;
    runs = λ some. absurd (omega (arith, some));
    counts = record { least = omega arith; most = omega arith };
    pages = sends_refl (IsPageUnder c.args.token.now c.args.limit) 0 0 _ after.sent;
    tried = subst (λ (a : SyncAnswer). TriedFor a (call_with c.args.token.now c.args.limit c.args.tries) 0 0 after.sent)
        (sym c.unentered.ensures) (tried_entered c.in-Err.error
        (call_with c.args.token.now c.args.limit c.args.tries) 0 0 after.sent);
  },
)

pub returns-in-Err-drop_other-clause-asks : goal.returns-in-Err-drop_other-clause-asks
returns-in-Err-drop_other-clause-asks g c after tells = (
  after,
  tells,
  record {
    run = 0;
    count = 0;
    runs = λ some. absurd (omega (arith, some));
    counts = record { least = omega arith; most = omega arith };
    pages = sends_refl (IsPageUnder c.args.token.now c.args.limit) 0 0 _ after.sent;
    tried = tried_start _ c.in-Err-drop_other.answer (call_with c.args.token.now c.args.limit c.args.tries) 0 0 after.sent
        (c.in-Err-drop_other.ensures.cause).1;
  },
)

pub returns-in-Some-clause-asks : goal.returns-in-Some-clause-asks
returns-in-Some-clause-asks g c after tells =
    let pages = IsPageUnder c.args.token.now c.args.limit in
    let asks = c.in-Some.ensures.asks in
    let sent = asks.2 after tells in (
      sent.0,
      sent.1,
      record {
        run = c.in-Ok.state.run;
        count = asks.0;
        runs = λ some copy stands.
            let filled = c.in-Some.ensures.copy copy stands in
            (filled.2).run ∙ (entered g (goal.at.returns-in-Some-clause-asks g c).After-fill filled.0
            filled.1).begun_run;
        counts = asks.1;
        pages = sends_weaker pages pages c.in-Ok.state.run 0 asks.0 _ _ _ _ (λ n q h. h) (λ e. same_Some _ _ e) sent.2;
        tried = sent.3;
      },
    )

pub returns-clause-asks : goal.returns-clause-asks
returns-clause-asks g c after tells =
    let pages = IsPageUnder c.args.token.now c.args.limit in
    let asks = c.in_default.ensures.asks in
    let sent = asks.2 after tells in (
      sent.0,
      sent.1,
      record {
        run = c.in-Ok.state.run;
        count = asks.0;
        runs = λ some copy stands.
            let last = c.finish.ensures.told copy stands in
            let filled = c.in_default.ensures.copy last.0 last.1 in
            swap_run c.finish.result _ last.0 copy last.2 ∙ (filled.2).run ∙
            (entered g (goal.at.returns-clause-asks g c).After-fill filled.0 filled.1).begun_run;
        counts = asks.1;
        pages = sends_weaker pages pages c.in-Ok.state.run 0 asks.0 _ _ _ _ (λ n q h. h) (λ e. absurd (none-some _ e))
            sent.2;
        tried = finish_by (λ a. TriedFor a (call_with c.args.token.now c.args.limit c.args.tries) c.in-Ok.state.run
            asks.0 after.sent) c.finish.result c.in-Some-stage.s.pin c.finish.ensures.answers tt (λ e. tt) tt;
      },
    )

pub returns-in-Err-clause-later : goal.returns-in-Err-clause-later
returns-in-Err-clause-later g c = omega (arith, c.begin_run.ensures.later)

pub returns-in-Err-drop_other-clause-later : goal.returns-in-Err-drop_other-clause-later
returns-in-Err-drop_other-clause-later g c = omega (arith, c.begin_run.ensures.later, c.drop_other.ensures.later)

pub returns-in-Some-clause-later : goal.returns-in-Some-clause-later
returns-in-Some-clause-later g c = omega (
  arith,
  c.begin_run.ensures.later,
  c.drop_other.ensures.later,
  c.fill.ensures.later,
)

pub returns-clause-later : goal.returns-clause-later
returns-clause-later g c = omega (
  arith,
  c.begin_run.ensures.later,
  c.drop_other.ensures.later,
  c.fill.ensures.later,
  c.finish.ensures.later,
)

pub returns-in-Err-clause-link_leads : goal.returns-in-Err-clause-link_leads
returns-in-Err-clause-link_leads g c = g.met.L.Link.stays _

pub returns-in-Err-drop_other-clause-link_leads : goal.returns-in-Err-drop_other-clause-link_leads
returns-in-Err-drop_other-clause-link_leads g c = g.met.L.Link.stays _

pub returns-in-Err-drop_other-clause-copy_leads : goal.returns-in-Err-drop_other-clause-copy_leads
returns-in-Err-drop_other-clause-copy_leads g c = g.met.C.CopyKeeper.leads_on _ _ _ c.begin_run.ensures.copy_leads
    c.drop_other.ensures.copy_leads

pub returns-in-Some-clause-copy_leads : goal.returns-in-Some-clause-copy_leads
returns-in-Some-clause-copy_leads g c = copy_led g (goal.at.returns-in-Some-clause-copy_leads g c).After-fill

pub returns-clause-copy_leads : goal.returns-clause-copy_leads
returns-clause-copy_leads g c = g.met.C.CopyKeeper.leads_on _ _ _
    (copy_led g (goal.at.returns-clause-copy_leads g c).After-fill) c.finish.ensures.copy_leads
