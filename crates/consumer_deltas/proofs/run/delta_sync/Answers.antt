use Rattle.std.proofs.Common.{arith, length, ◌≡◌, ◌+◌, ◌<◌, ◌≤◌, ◌⊎◌, ℕ, sym, subst, None, Some, Ok, Err, List}
use Rattle.std.proofs.Common.{Option, ◌∙◌, ap}
use Rattle.std.proofs.Common.{inl, inr, refl}
use Rattle.std.proofs.lemmas.Option.{none-some, same_Some}
use Rattle.std.specs.Prelude.{IfSome}
use Rattle.keeper_memory.specs.copy.Copies.{Copy}
use Rattle.keeper_memory.specs.copy.Lists.{kind_count}
use Rattle.keeper_memory.specs.copy.States.{stage_of}
use Rattle.keeper_memory.specs.declared.copy.state.CopyState.{CopyState}
use Rattle.keeper_memory.specs.declared.copy.state.StageState.{StageState}
use Rattle.keeper_memory.specs.declared.copy.state.TheConstants.{LAST}
use Rattle.exchange_link.proofs.AskedLemmas.{sends_refl, sends_weaker}
use Rattle.exchange_link.specs.Agreement.{StagesAgree}
use Rattle.exchange_link.specs.Beginning.{Enters}
use Rattle.exchange_link.specs.Completeness.{StandsAt, first_pin}
use Rattle.exchange_link.specs.Exchanges.{LinkState}
use Rattle.exchange_link.specs.Places.{kinds_of}
use Rattle.exchange_link.specs.Requests.{Asks}
use Rattle.exchange_link.specs.Synchronised.{Leaves, StageOn, own_state}
use Rattle.exchange_link.specs.declared.answer.SyncAnswer.{SyncAnswer}
use Rattle.exchange_link.specs.declared.answer.SyncAnswer.TheVariants as answer
use Rattle.version_core.specs.HubStates.{HubState}
use Rattle.consumer_sync.proofs.DoneLemmas.{start_told}
use Rattle.consumer_sync.proofs.FaultLemmas.{abort_faults, swap_faults}
use Rattle.consumer_sync.proofs.MarkLemmas.{marks_asked, marks_kept}
use Rattle.consumer_sync.proofs.SyncLemmas.{IsFinish, begun_is, drop_done, drop_fails, drop_sync, enter_done}
use Rattle.consumer_sync.proofs.SyncLemmas.{enter_leaves, enter_sync, entry, finish_by, finish_other, last_dropped}
use Rattle.consumer_sync.proofs.SyncLemmas.{last_entered, last_low, own_few, own_token, swap_leaves, swap_run}
use Rattle.consumer_sync.proofs.SyncLemmas.{swap_sync, unentered_cause}
use Rattle.consumer_sync.specs.Faulted.{SaysGone}
use Rattle.consumer_sync.specs.Filling.{Ends, HasToken, PinLaw}
use Rattle.consumer_sync.specs.Requests.{IsUnmarked}
use Rattle.consumer_sync.specs.Starting.{Drops, SwapsIn, run_begun, unentered}
use Rattle.consumer_deltas.proofs.DeltaDoneLemmas.{done_of}
use Rattle.consumer_deltas.proofs.DeltaRunLemmas.{some_held, all_ends, bounded_map, broken_cause, broken_done}
use Rattle.consumer_deltas.proofs.DeltaRunLemmas.{broken_faults, broken_last, broken_law, broken_leaves, broken_sync}
use Rattle.consumer_deltas.proofs.DeltaRunLemmas.{broken_told, delta_marks, drop_leaves, base_stands, has_token}
use Rattle.consumer_deltas.proofs.DeltaRunLemmas.{one_base, end_faults, end_last, end_law, end_leaves, end_pin, end_run}
use Rattle.consumer_deltas.proofs.DeltaRunLemmas.{end_sync, ended_law, enter_law, faults_as, last_as, none_last}
use Rattle.consumer_deltas.proofs.DeltaRunLemmas.{same_moved, none_law, start_cause, start_more, swap_pin, sync_as}
use Rattle.consumer_deltas.proofs.DeltaStopLemmas.{IsDeltaEnd, halts_end, halts_map, page_replies}
use Rattle.consumer_deltas.specs.DeltaAnswers.{BaseLaw, DeltaTold, HasBase}
use Rattle.consumer_deltas.specs.DeltaCalls.{AsksSome, DeltaLastLaw, DeltaSynchronised, IsDeltaDone}
use Rattle.consumer_deltas.specs.DeltaCalls.{IsNewPin}
use Rattle.consumer_deltas.specs.DeltaCalls.{AnswersPin, DeltaBounded}
use Rattle.consumer_deltas.specs.DeltaCauses.{DeltaCause}
use Rattle.consumer_deltas.specs.DeltaCauses.DeltaCause.{Broke, Halted, Swapped, Unbased, Wants}
use Rattle.consumer_deltas.specs.DeltaFilling.{BasedBehind, DeltaEnds, FillTold, first_place}
use Rattle.consumer_deltas.specs.DeltaRequests.{IsDeltaUnder}
use Rattle.consumer_deltas.specs.declared.answer.DeltaAnswer.{DeltaAnswer}
use Rattle.consumer_deltas.specs.declared.answer.DeltaAnswer.TheVariants.{Ended}
use Rattle.consumer_deltas.specs.declared.judging.Place.{Place}
use Rattle.consumer_deltas.proofs.run.delta_sync.Given.{Over}
use Rattle.consumer_deltas.proofs.run.delta_sync.Goals.{After-fill, After-finish, In-Err-begin_run, In-Err-drop_other}
use Rattle.consumer_deltas.proofs.run.delta_sync.Goals.{In-Some}
use Rattle.consumer_deltas.proofs.run.delta_sync.Goals as goal

-- ---- the copies and states that a call goes through

-- a copy for which the keeper stood before the call, which has the base, and from which this was made
record FromBased (stood : Copy → Type 0) (token : List ℕ) (base : ℕ) (makes : Copy → Type 0) : Type 0 where
  pub before : Copy
  pub old : stood before
  pub has : HasBase base token before
  pub made : makes before

-- the run is entered, and the stage under another token isn't let go
record NotDropped (token : List ℕ) (state : CopyState) (a : SyncAnswer) (after before : Copy) : Type 0 where
  pub entered : Copy
  pub enters : Enters (Ok state) before entered
  pub drops : Drops token (Err a) entered after

-- the kinds begin with this copy: the run is entered, and no stage stands under another token
record Begins (token : List ℕ) (run : ℕ) (stage : Option StageState) (start before : Copy) : Type 0 where
  pub is : start ≡ run_begun token before
  pub run_is : run ≡ before.run + 1
  pub stage_is : stage ≡ own_state token (stage_of before)

begun_run : (token : List ℕ) (run : ℕ) (stage : Option StageState) (start before : Copy)
    → Begins token run stage start before → start.run ≡ run
begun_run token run stage start before begins = ap (λ (copy : Copy). copy.run) begins.is ∙ sym begins.run_is

-- it holds the same
begun_base : (base : ℕ) (token : List ℕ) (before start : Copy) → start ≡ run_begun token before → HasBase base token before
    → HasBase base token start
begun_base base token before start is has = subst (λ copy. HasBase base token copy) (sym is) has

-- the copy with which the kinds began, and what they left of it
record Filled (begins : Copy → Copy → Type 0) (leaves : Copy → Copy → Type 0) (after before : Copy) : Type 0 where
  pub start : Copy
  pub begun : begins start before
  pub left : leaves start after

-- a state that the link told before the call, how many exchanges followed it, and what the kinds tell by them
record FillFrom (told : LinkState → Type 0) (asked_before asked_now run : ℕ) (tells : LinkState)
    (fills : ℕ → LinkState → Type 0) : Type 0 where
  pub state : LinkState
  pub old : told state
  pub count : ℕ
  pub few : asked_now ≤ asked_before + count
  pub asks : Asks run 0 count IsUnmarked state tells
  pub fill : fills count state

-- the copy whose kinds are all staged, and what the last step made of it
record Finished (stands : Copy → Type 0) (stage : StageState) (a : SyncAnswer) (after : Copy) : Type 0 where
  pub staged : Copy
  pub stood : stands staged
  pub state : stage_of staged ≡ Some stage
  pub swaps : SwapsIn a stage.pin staged after

-- what the cause of the kinds' answer says of it
ended_at : (base : ℕ) (place : Place) (a : DeltaAnswer) → place.base ≡ base → IsDeltaEnd place.base a
    → IsDeltaEnd base a
ended_at base place a e end = subst (λ n. IsDeltaEnd n a) e end

-- the cause of the last step
finish_cause : (kept : List ℕ) (run count : ℕ) (missed broke : Type 0) (copies : Copy → Type 0) (place : Place)
    (a : SyncAnswer) (pin : ℕ) → IsFinish a pin → (a ≡ answer.KeeperFault → broke)
    → DeltaCause kept run count missed broke copies place (Ended a)
finish_cause kept run count missed broke copies place a pin is rose =
    finish_by (λ a. DeltaCause kept run count missed broke copies place (Ended a)) a pin is (Swapped pin refl)
    (λ e. Broke (rose e) refl) (Wants refl)

-- ---- what each part of the call left

-- no run is entered
module _ (g : Over) (c : In-Err-begin_run g) where
  not_entered : (after : Copy) → g.C.CopyKeeper.stands_for c.begin_run.new.copy after
      → FromBased (g.C.CopyKeeper.stands_for c.args.copy.now) c.args.token.now c.in-Ok-Some.base
      (λ before. Enters (Err c.in-Err-begin_run.error) before after)
  not_entered after stands =
      let entered = c.in-Err-begin_run.ensures.told after stands in
      record {
        before = entered.0;
        old = c.base_under.ensures.same entered.0 entered.1;
        has = some_held (g.C.CopyKeeper.stands_for c.base_under.new.copy) c.args.token.now c.in-Ok-Some.field-0
            c.in-Ok-Some.base c.in-Ok-Some.ensures.some c.in-Ok-Some.field-0-is entered.0 entered.1;
        made = entered.2;
      }

-- the stage under another token isn't let go
module _ (g : Over) (c : In-Err-drop_other g) where
  not_dropped : (after : Copy) → g.C.CopyKeeper.stands_for c.drop_other.new.copy after
      → FromBased (g.C.CopyKeeper.stands_for c.args.copy.now) c.args.token.now c.in-Ok-Some.base
      (NotDropped c.args.token.now c.in-Ok.state c.in-Err-drop_other.answer after)
  not_dropped after stands =
      let dropped = c.in-Err-drop_other.ensures.told after stands in
      let entered = c.in-Ok.ensures.told dropped.0 dropped.1 in
      record {
        before = entered.0;
        old = c.base_under.ensures.same entered.0 entered.1;
        has = some_held (g.C.CopyKeeper.stands_for c.base_under.new.copy) c.args.token.now c.in-Ok-Some.field-0
            c.in-Ok-Some.base c.in-Ok-Some.ensures.some c.in-Ok-Some.field-0-is entered.0 entered.1;
        made = record { entered = dropped.0; enters = entered.2; drops = dropped.2 };
      }

-- the kinds are filled
module _ (g : Over) (c : After-fill g) where
  -- each copy with which they may begin comes from one that has the base
  begins : (start : Copy) → g.C.CopyKeeper.stands_for c.drop_other.new.copy start
      → FromBased (g.C.CopyKeeper.stands_for c.args.copy.now) c.args.token.now c.in-Ok-Some.base
      (Begins c.args.token.now c.in-Ok.state.run c.in-Ok-drop_other.begun start)
  begins start stands =
      let dropped = c.in-Ok-drop_other.ensures.told start stands in
      let entered = c.in-Ok.ensures.told dropped.0 dropped.1 in
      let state_is = c.in-Ok.ensures.holds dropped.0 dropped.1 in
      record {
        before = entered.0;
        old = c.base_under.ensures.same entered.0 entered.1;
        has = some_held (g.C.CopyKeeper.stands_for c.base_under.new.copy) c.args.token.now c.in-Ok-Some.field-0
            c.in-Ok-Some.base c.in-Ok-Some.ensures.some c.in-Ok-Some.field-0-is entered.0 entered.1;
        made = record {
          is = begun_is c.args.token.now entered.0 dropped.0 start c.in-Ok.state c.in-Ok-drop_other.begun entered.2
              dropped.2;
          run_is = (entered.2).0;
          stage_is = c.in-Ok-drop_other.ensures.ok
              ∙ ap (own_state c.args.token.now) (sym (state_is.1) ∙ ap stage_of (entered.2).1);
        };
      }

  begun_later : g.C.CopyKeeper.fault_count c.args.copy.now ≤ g.C.CopyKeeper.fault_count c.drop_other.new.copy
  begun_later = omega (arith, c.base_under.ensures.later, c.begin_run.ensures.later, c.drop_other.ensures.later)

  -- what they left of a copy: its stage goes on, or the hub said that its pin is gone
  abbrev LeftBy : Option DeltaAnswer → Copy → Copy → Type 0
  LeftBy result start after = DeltaEnds c.args.token.now c.in-Ok-Some.base result start after
      × (StageOn c.args.token.now start.stage after.stage ⊎ SaysGone (g.L.Link.kept c.fill.new.link))

  filled : (result : Option DeltaAnswer) → c.fill.result ≡ result → (after : Copy)
      → g.C.CopyKeeper.stands_for c.fill.new.copy after
      → FromBased (g.C.CopyKeeper.stands_for c.args.copy.now) c.args.token.now c.in-Ok-Some.base
      (Filled (Begins c.args.token.now c.in-Ok.state.run c.in-Ok-drop_other.begun) (LeftBy result) after)
  filled result is after stands =
      let kinds = c.fill.ensures.copy after stands in
      let from = begins kinds.0 kinds.1 in
      record {
        before = from.before;
        old = from.old;
        has = from.has;
        made = record { start = kinds.0; begun = from.made; left = subst (λ r. LeftBy r kinds.0 after) is kinds.2 };
      }

  -- where copy and link agreed before
  filled_from : (result : Option DeltaAnswer) → c.fill.result ≡ result
      → StagesAgree (g.C.CopyKeeper.stands_for c.args.copy.now) (g.L.Link.tells c.args.link.now)
      → (after : Copy) (tells : LinkState) → g.C.CopyKeeper.stands_for c.fill.new.copy after
      → g.L.Link.tells c.fill.new.link tells
      → FillFrom (g.L.Link.tells c.args.link.now) (g.L.Link.asked c.args.link.now) (g.L.Link.asked c.fill.new.link)
      c.in-Ok.state.run tells (λ count state.
      FillTold c.args.token.now c.args.limit c.args.tries c.in-Ok-Some.base count c.in-Ok-drop_other.begun
      c.fill.new.stage result state tells after)
  filled_from result is agree after tells stands told =
      let fill = c.fill.ensures.told
      (λ (start : Copy) (state : LinkState) starts before.
      let from = begins start starts in
      let fits = entry c.args.token.now c.in-Ok.state.run from.before start state from.made.is from.made.run_is
      (agree from.before state from.old before) in
      (fits.0, fits.1, begun_base c.in-Ok-Some.base c.args.token.now from.before start from.made.is from.has))
      after tells stands told in
      record {
        state = fill.0;
        old = fill.1;
        count = fill.2;
        few = fill.3;
        asks = fill.4;
        fill = subst (λ r. FillTold c.args.token.now c.args.limit c.args.tries c.in-Ok-Some.base fill.2
            c.in-Ok-drop_other.begun c.fill.new.stage r fill.0 tells after) is fill.5;
      }

-- they ended with an answer
module _ (g : Over) (c : In-Some g) where
  ends_so : IsDeltaEnd c.in-Ok-Some.base c.in-Some.answer
  ends_so =
      let cause = c.in-Some.ensures.cause in
      ended_at c.in-Ok-Some.base cause.0 c.in-Some.answer cause.2
      (halts_end _ _ _ _ _ _ cause.0 c.in-Some.answer cause.5)

-- all are staged, and the stage is swapped in
module _ (g : Over) (c : After-finish g) where
  finished : (after : Copy) → g.C.CopyKeeper.stands_for c.finish.new.copy after
      → Finished (g.C.CopyKeeper.stands_for c.fill.new.copy) c.in-Some-stage.s c.finish.result after
  finished after stands =
      let last = c.finish.ensures.told after stands in
      record {
        staged = last.0;
        stood = last.1;
        state = c.fill.ensures.holds c.in_default.is last.0 last.1 ∙ c.in-Some-stage.is;
        swaps = last.2;
      }

  all_kinds : c.in-Some-stage.s.kinds_done ≡ kind_count
  all_kinds =
      subst (λ (o : Option StageState). kinds_of o ≡ kind_count) c.in-Some-stage.is
      (c.fill.ensures.done c.in_default.is)

-- ---- what the kinds begin with

pub fill-requires-clause-token : goal.fill-requires-clause-token
fill-requires-clause-token g c =
    subst (λ (o : Option StageState). HasToken c.args.token.now o) (sym c.in-Ok-drop_other.ensures.ok)
    (own_token c.args.token.now c.in-Ok.state.stage)

pub fill-requires-clause-few : goal.fill-requires-clause-few
fill-requires-clause-few g c =
    subst (λ (o : Option StageState). kinds_of o ≤ kind_count) (sym c.in-Ok-drop_other.ensures.ok)
    (own_few c.args.token.now c.in-Ok.state.stage c.in-Ok.ensures.few)

pub fill-requires-clause-base : goal.fill-requires-clause-base
fill-requires-clause-base g c =
    subst (λ (o : Option ℕ). IfSome o (λ base. base ≤ LAST)) c.in-Ok-Some.field-0-is c.in-Ok-Some.ensures.low

-- ---- what a call leaves of a copy

pub returns-in-Err-clause-copy : goal.returns-in-Err-clause-copy
returns-in-Err-clause-copy g c after stands = (
  after,
  c.base_under.ensures.same after stands,
  subst (λ (a : SyncAnswer). Leaves c.args.token.now a after after) (sym c.broken.ensures)
      (broken_leaves c.args.token.now c.in-Err.error after),
)

pub returns-in-Ok-None-clause-copy : goal.returns-in-Ok-None-clause-copy
returns-in-Ok-None-clause-copy g c after stands = (after, c.base_under.ensures.same after stands, refl)

pub returns-in-Err-begin_run-clause-copy : goal.returns-in-Err-begin_run-clause-copy
returns-in-Err-begin_run-clause-copy g c after stands =
    let from = not_entered g (goal.at.returns-in-Err-begin_run-clause-copy g c).In-Err-begin_run after stands in (
      from.before,
      from.old,
      subst (λ (a : SyncAnswer). Leaves c.args.token.now a from.before after) (sym c.unentered.ensures)
          (enter_leaves c.args.token.now c.in-Err-begin_run.error from.before after from.made),
    )

pub returns-in-Err-drop_other-clause-copy : goal.returns-in-Err-drop_other-clause-copy
returns-in-Err-drop_other-clause-copy g c after stands =
    let from = not_dropped g (goal.at.returns-in-Err-drop_other-clause-copy g c).In-Err-drop_other after stands in (
      from.before,
      from.old,
      drop_leaves c.args.token.now c.in-Err-drop_other.answer from.before from.made.entered after c.in-Ok.state _
          c.in-Err-drop_other.ensures.cause from.made.enters from.made.drops,
    )

pub returns-in-Some-clause-copy : goal.returns-in-Some-clause-copy
returns-in-Some-clause-copy g c after stands =
    let at = goal.at.returns-in-Some-clause-copy g c in
    let from = filled g at.After-fill (Some c.in-Some.answer) c.in-Some.is after stands in
    let kinds = from.made in (
      from.before,
      from.old,
      end_leaves c.args.token.now c.in-Ok-Some.base c.in-Some.answer from.before kinds.start after kinds.begun.is
          (ends_so g at.In-Some) from.has kinds.left.0,
    )

pub returns-clause-copy : goal.returns-clause-copy
returns-clause-copy g c after stands =
    let at = goal.at.returns-clause-copy g c in
    let last = finished g at.After-finish after stands in
    let from = filled g at.After-fill None c.in_default.is last.staged last.stood in
    let kinds = from.made in (
      from.before,
      from.old,
      swap_leaves c.args.token.now from.before kinds.start last.staged after c.in-Some-stage.s c.finish.result
          kinds.begun.is (all_ends c.args.token.now kinds.start last.staged kinds.left.0) last.state
          (all_kinds g at.After-finish) last.swaps,
    )

-- ---- the law of the base

pub returns-in-Err-clause-base : goal.returns-in-Err-clause-base
returns-in-Err-clause-base g c after stands = (
  after,
  c.base_under.ensures.same after stands,
  subst (λ (a : SyncAnswer). BaseLaw c.args.token.now (Ended a) after) (sym c.broken.ensures)
      (broken_law c.args.token.now c.in-Err.error after),
)

pub returns-in-Ok-None-clause-base : goal.returns-in-Ok-None-clause-base
returns-in-Ok-None-clause-base g c after stands = (
  after,
  c.base_under.ensures.same after stands,
  none_law c.args.token.now after (c.in-Ok-None.ensures.none c.in-Ok-None.field-0-is after stands),
)

pub returns-in-Err-begin_run-clause-base : goal.returns-in-Err-begin_run-clause-base
returns-in-Err-begin_run-clause-base g c after stands =
    let from = not_entered g (goal.at.returns-in-Err-begin_run-clause-base g c).In-Err-begin_run after stands in
    (from.before, from.old, ended_law c.in-Ok-Some.base c.args.token.now c.unentered.result from.before from.has)

pub returns-in-Err-drop_other-clause-base : goal.returns-in-Err-drop_other-clause-base
returns-in-Err-drop_other-clause-base g c after stands =
    let from = not_dropped g (goal.at.returns-in-Err-drop_other-clause-base g c).In-Err-drop_other after stands in (
      from.before,
      from.old,
      ended_law c.in-Ok-Some.base c.args.token.now c.in-Err-drop_other.answer from.before
          from.has,
    )

pub returns-in-Some-clause-base : goal.returns-in-Some-clause-base
returns-in-Some-clause-base g c after stands =
    let at = goal.at.returns-in-Some-clause-base g c in
    let from = filled g at.After-fill (Some c.in-Some.answer) c.in-Some.is after stands in (
      from.before,
      from.old,
      end_law c.in-Ok-Some.base c.args.token.now c.in-Some.answer from.before (ends_so g at.In-Some) from.has,
    )

pub returns-clause-base : goal.returns-clause-base
returns-clause-base g c after stands =
    let at = goal.at.returns-clause-base g c in
    let last = finished g at.After-finish after stands in
    let from = filled g at.After-fill None c.in_default.is last.staged last.stood in
    (from.before, from.old, ended_law c.in-Ok-Some.base c.args.token.now c.finish.result from.before from.has)

-- ---- the keeper's fault

pub returns-in-Err-clause-faulted : goal.returns-in-Err-clause-faulted
returns-in-Err-clause-faulted g c after stands = (
  after,
  c.base_under.ensures.same after stands,
  broken_faults c.args.token.now (g.L.Link.kept c.args.link.now) c.in-Err.error c.broken.result after c.broken.ensures,
)

pub returns-in-Ok-None-clause-faulted : goal.returns-in-Ok-None-clause-faulted
returns-in-Ok-None-clause-faulted g c after stands = (after, c.base_under.ensures.same after stands, tt)

pub returns-in-Err-begin_run-clause-faulted : goal.returns-in-Err-begin_run-clause-faulted
returns-in-Err-begin_run-clause-faulted g c after stands =
    let from = not_entered g (goal.at.returns-in-Err-begin_run-clause-faulted g c).In-Err-begin_run after stands in (
      from.before,
      from.old,
      enter_law c.args.token.now (g.L.Link.kept c.args.link.now) c.in-Err-begin_run.error c.unentered.result from.before
          after c.unentered.ensures from.made,
    )

pub returns-in-Err-drop_other-clause-faulted : goal.returns-in-Err-drop_other-clause-faulted
returns-in-Err-drop_other-clause-faulted g c after stands =
    let from = not_dropped g (goal.at.returns-in-Err-drop_other-clause-faulted g c).In-Err-drop_other after stands in
    let kept = g.L.Link.kept c.args.link.now in
    let fails = drop_fails c.args.token.now from.before from.made.entered after c.in-Err-drop_other.answer
    (from.made.enters).1 from.made.drops in (
      from.before,
      from.old,
      faults_as c.args.token.now kept c.in-Err-drop_other.answer from.before after
          (λ is. abort_faults c.args.token.now kept from.before after fails),
    )

pub returns-in-Some-clause-faulted : goal.returns-in-Some-clause-faulted
returns-in-Some-clause-faulted g c after stands =
    let at = goal.at.returns-in-Some-clause-faulted g c in
    let from = filled g at.After-fill (Some c.in-Some.answer) c.in-Some.is after stands in
    let kinds = from.made in (
      from.before,
      from.old,
      end_faults c.args.token.now (g.L.Link.kept c.fill.new.link) c.in-Some.answer from.before kinds.start after
          kinds.begun.is kinds.left.1,
    )

pub returns-clause-faulted : goal.returns-clause-faulted
returns-clause-faulted g c after stands =
    let at = goal.at.returns-clause-faulted g c in
    let last = finished g at.After-finish after stands in
    let from = filled g at.After-fill None c.in_default.is last.staged last.stood in
    let kinds = from.made in
    let kept = g.L.Link.kept c.fill.new.link in (
      from.before,
      from.old,
      faults_as c.args.token.now kept c.finish.result from.before after
          (λ is. swap_faults c.args.token.now kept from.before kinds.start last.staged after c.in-Some-stage.s
          c.finish.result kinds.begun.is (all_ends c.args.token.now kinds.start last.staged kinds.left.0) last.state
          (all_kinds g at.After-finish) is last.swaps),
    )

-- ---- the last run

pub returns-in-Err-clause-last_run : goal.returns-in-Err-clause-last_run
returns-in-Err-clause-last_run g c after stands = (
  after,
  c.base_under.ensures.same after stands,
  subst (λ (a : SyncAnswer). DeltaLastLaw (Ended a) after after) (sym c.broken.ensures)
      (broken_last c.in-Err.error after after),
)

pub returns-in-Ok-None-clause-last_run : goal.returns-in-Ok-None-clause-last_run
returns-in-Ok-None-clause-last_run g c after stands =
    (after, c.base_under.ensures.same after stands, none_last after after)

pub returns-in-Err-begin_run-clause-last_run : goal.returns-in-Err-begin_run-clause-last_run
returns-in-Err-begin_run-clause-last_run g c after stands =
    let from = not_entered g (goal.at.returns-in-Err-begin_run-clause-last_run g c).In-Err-begin_run after stands in (
      from.before,
      from.old,
      subst (λ (a : SyncAnswer). DeltaLastLaw (Ended a) from.before after) (sym c.unentered.ensures)
          (last_as (unentered c.in-Err-begin_run.error) from.before after
          (last_entered c.in-Err-begin_run.error from.before after from.made)),
    )

pub returns-in-Err-drop_other-clause-last_run : goal.returns-in-Err-drop_other-clause-last_run
returns-in-Err-drop_other-clause-last_run g c after stands =
    let from = not_dropped g (goal.at.returns-in-Err-drop_other-clause-last_run g c).In-Err-drop_other after stands in (
      from.before,
      from.old,
      last_as c.in-Err-drop_other.answer from.before after
          (last_dropped c.in-Err-drop_other.answer from.before after _ c.in-Err-drop_other.ensures.cause),
    )

pub returns-in-Some-clause-last_run : goal.returns-in-Some-clause-last_run
returns-in-Some-clause-last_run g c after stands =
    let at = goal.at.returns-in-Some-clause-last_run g c in
    let from = filled g at.After-fill (Some c.in-Some.answer) c.in-Some.is after stands in (
      from.before,
      from.old,
      end_last c.in-Ok-Some.base c.in-Some.answer from.before after c.in-Ok.state.run (ends_so g at.In-Some)
          from.made.begun.run_is c.in-Ok.ensures.run.1,
    )

pub returns-clause-last_run : goal.returns-clause-last_run
returns-clause-last_run g c after stands =
    let at = goal.at.returns-clause-last_run g c in
    let last = finished g at.After-finish after stands in
    let from = filled g at.After-fill None c.in_default.is last.staged last.stood in
    let other = finish_other c.finish.result c.in-Some-stage.s.pin c.finish.ensures.answers in (
      from.before,
      from.old,
      last_as c.finish.result from.before after
          (last_low c.finish.result from.before after c.in-Ok.state.run other from.made.begun.run_is
          c.in-Ok.ensures.run.1),
    )

-- ---- the cause of the answer

pub returns-in-Err-clause-cause : goal.returns-in-Err-clause-cause
returns-in-Err-clause-cause g c =
    record {
      run = 0;
      count = 0;
      place = first_place None 0 c.args.limit;
      held = λ some. absurd (omega (arith, some));
      few = λ some. refl;
      counts = record { least = omega arith; most = omega arith };
      runs = λ some. absurd (omega (arith, some));
      only = broken_cause _ 0 0 _ _ _ (first_place None 0 c.args.limit) c.in-Err.error c.broken.result c.broken.ensures
          c.in-Err.ensures.cause;
      exact = λ w own. absurd (let from = own.from in omega (arith, from));
    }

pub returns-in-Ok-None-clause-cause : goal.returns-in-Ok-None-clause-cause
returns-in-Ok-None-clause-cause g c =
    record {
      run = 0;
      count = 0;
      place = first_place None 0 c.args.limit;
      held = λ some. absurd (omega (arith, some));
      few = λ some. refl;
      counts = record { least = omega arith; most = omega arith };
      runs = λ some. absurd (omega (arith, some));
      only = Unbased refl refl;
      exact = λ w own. absurd (let from = own.from in omega (arith, from));
    }

pub returns-in-Err-begin_run-clause-cause : goal.returns-in-Err-begin_run-clause-cause
returns-in-Err-begin_run-clause-cause g c =
    record {
      run = 0;
      count = 0;
      place = first_place None 0 c.args.limit;
      held = λ some. absurd (omega (arith, some));
      few = λ some. refl;
      counts = record { least = omega arith; most = omega arith };
      runs = λ some. absurd (omega (arith, some));
      only = start_cause _ 0 0 _ _ _ (first_place None 0 c.args.limit) c.unentered.result refl
          (unentered_cause c.unentered.ensures
          (λ e. let rose = c.in-Err-begin_run.ensures.cause e in omega (arith, rose, c.base_under.ensures.later)));
      exact = λ w own. absurd (let from = own.from in omega (arith, from));
    }

pub returns-in-Err-drop_other-clause-cause : goal.returns-in-Err-drop_other-clause-cause
returns-in-Err-drop_other-clause-cause g c =
    record {
      run = 0;
      count = 0;
      place = first_place None 0 c.args.limit;
      held = λ some. absurd (omega (arith, some));
      few = λ some. refl;
      counts = record { least = omega arith; most = omega arith };
      runs = λ some. absurd (omega (arith, some));
      only = start_cause _ 0 0 _ _ _ (first_place None 0 c.args.limit) c.in-Err-drop_other.answer refl
          (start_more _ _ c.in-Err-drop_other.answer
          (λ rose. omega (arith, rose, c.begin_run.ensures.later, c.base_under.ensures.later))
          (c.in-Err-drop_other.ensures.cause).1);
      exact = λ w own. absurd (let from = own.from in omega (arith, from));
    }

pub returns-in-Some-clause-cause : goal.returns-in-Some-clause-cause
returns-in-Some-clause-cause g c =
    let at = goal.at.returns-in-Some-clause-cause g c in
    let cause = c.in-Some.ensures.cause in
    record {
      run = c.in-Ok.state.run;
      count = cause.1;
      place = cause.0;
      held = λ some after stands.
          let from = filled g at.After-fill (Some c.in-Some.answer) c.in-Some.is after stands in
          (from.before, from.old, subst (λ n. HasBase n c.args.token.now from.before) (sym cause.2) from.has);
      few = λ some. cause.3;
      counts = cause.4;
      runs = λ some after stands.
          let from = filled g at.After-fill (Some c.in-Some.answer) c.in-Some.is after stands in
          end_run c.args.token.now c.in-Ok-Some.base c.in-Some.answer from.made.start after from.made.left.0
          ∙ begun_run c.args.token.now _ _ from.made.start from.before from.made.begun;
      only = Halted (halts_map _ _ _ _ _ _ _ _ cause.0 c.in-Some.answer (λ m. m)
          (λ rose. omega (arith, rose, begun_later g at.After-fill)) cause.5);
      exact = λ w own. cause.6 w own;
    }

pub returns-clause-cause : goal.returns-clause-cause
returns-clause-cause g c =
    let at = goal.at.returns-clause-cause g c in
    let cause = c.in_default.ensures.cause in
    record {
      run = c.in-Ok.state.run;
      count = cause.1;
      place = cause.0;
      held = λ some after stands.
          let last = finished g at.After-finish after stands in
          let from = filled g at.After-fill None c.in_default.is last.staged last.stood in
          (from.before, from.old, subst (λ n. HasBase n c.args.token.now from.before) (sym cause.2) from.has);
      few = λ some. cause.3;
      counts = cause.4;
      runs = λ some after stands.
          let last = finished g at.After-finish after stands in
          let from = filled g at.After-fill None c.in_default.is last.staged last.stood in
          swap_run c.finish.result _ last.staged after last.swaps ∙ (from.made.left.0).run
          ∙ begun_run c.args.token.now _ _ from.made.start from.before from.made.begun;
      only = finish_cause _ _ _ _ _ _ cause.0 c.finish.result c.in-Some-stage.s.pin c.finish.ensures.answers
          (λ e. let rose = c.finish.ensures.cause e in omega (
            arith,
            rose,
            begun_later g at.After-fill,
            c.fill.ensures.later,
          ));
      exact = λ w own. page_replies cause.0 w _ (cause.6 w own);
    }

-- ---- the keeper and the link go on

pub returns-in-Err-clause-later : goal.returns-in-Err-clause-later
returns-in-Err-clause-later g c = omega (arith, c.base_under.ensures.later)

pub returns-in-Ok-None-clause-later : goal.returns-in-Ok-None-clause-later
returns-in-Ok-None-clause-later g c = omega (arith, c.base_under.ensures.later)

pub returns-in-Err-begin_run-clause-later : goal.returns-in-Err-begin_run-clause-later
returns-in-Err-begin_run-clause-later g c = omega (arith, c.base_under.ensures.later, c.begin_run.ensures.later)

pub returns-in-Err-drop_other-clause-later : goal.returns-in-Err-drop_other-clause-later
returns-in-Err-drop_other-clause-later g c =
    omega (arith, c.base_under.ensures.later, c.begin_run.ensures.later, c.drop_other.ensures.later)

pub returns-in-Some-clause-later : goal.returns-in-Some-clause-later
returns-in-Some-clause-later g c =
    omega (arith, begun_later g (goal.at.returns-in-Some-clause-later g c).After-fill, c.fill.ensures.later)

pub returns-clause-later : goal.returns-clause-later
returns-clause-later g c =
    omega (
      arith,
      begun_later g (goal.at.returns-clause-later g c).After-fill,
      c.fill.ensures.later,
      c.finish.ensures.later,
    )

pub returns-in-Err-clause-link_leads : goal.returns-in-Err-clause-link_leads
returns-in-Err-clause-link_leads g c = g.met.L.Link.stays _

pub returns-in-Ok-None-clause-link_leads : goal.returns-in-Ok-None-clause-link_leads
returns-in-Ok-None-clause-link_leads g c = g.met.L.Link.stays _

pub returns-in-Err-begin_run-clause-link_leads : goal.returns-in-Err-begin_run-clause-link_leads
returns-in-Err-begin_run-clause-link_leads g c = g.met.L.Link.stays _

pub returns-in-Err-drop_other-clause-link_leads : goal.returns-in-Err-drop_other-clause-link_leads
returns-in-Err-drop_other-clause-link_leads g c = g.met.L.Link.stays _

pub returns-in-Err-begin_run-clause-copy_leads : goal.returns-in-Err-begin_run-clause-copy_leads
returns-in-Err-begin_run-clause-copy_leads g c =
    g.met.C.CopyKeeper.leads_on _ _ _ c.base_under.ensures.copy_leads c.begin_run.ensures.copy_leads

pub returns-in-Err-drop_other-clause-copy_leads : goal.returns-in-Err-drop_other-clause-copy_leads
returns-in-Err-drop_other-clause-copy_leads g c =
    let entered = g.met.C.CopyKeeper.leads_on _ _ _ c.base_under.ensures.copy_leads c.begin_run.ensures.copy_leads in
    g.met.C.CopyKeeper.leads_on _ _ _ entered c.drop_other.ensures.copy_leads

pub returns-in-Some-clause-copy_leads : goal.returns-in-Some-clause-copy_leads
returns-in-Some-clause-copy_leads g c =
    let entered = g.met.C.CopyKeeper.leads_on _ _ _ c.base_under.ensures.copy_leads c.begin_run.ensures.copy_leads in
    let begun = g.met.C.CopyKeeper.leads_on _ _ _ entered c.drop_other.ensures.copy_leads in
    g.met.C.CopyKeeper.leads_on _ _ _ begun c.fill.ensures.copy_leads

pub returns-clause-copy_leads : goal.returns-clause-copy_leads
returns-clause-copy_leads g c =
    let entered = g.met.C.CopyKeeper.leads_on _ _ _ c.base_under.ensures.copy_leads c.begin_run.ensures.copy_leads in
    let begun = g.met.C.CopyKeeper.leads_on _ _ _ entered c.drop_other.ensures.copy_leads in
    let staged = g.met.C.CopyKeeper.leads_on _ _ _ begun c.fill.ensures.copy_leads in
    g.met.C.CopyKeeper.leads_on _ _ _ staged c.finish.ensures.copy_leads

-- ---- what is asked for

pub returns-in-Err-clause-asks : goal.returns-in-Err-clause-asks
returns-in-Err-clause-asks g c after tells = (
  after,
  tells,
  record {
    run = 0;
    count = 0;
    base = 0;
    held = λ some. absurd (omega (arith, some));
    runs = λ some. absurd (omega (arith, some));
    counts = record { least = omega arith; most = omega arith };
    some = tt;
    each = sends_refl (IsDeltaUnder c.args.token.now c.args.limit 0) 0 0 _ after.sent;
  },
)

pub returns-in-Ok-None-clause-asks : goal.returns-in-Ok-None-clause-asks
returns-in-Ok-None-clause-asks g c after tells = (
  after,
  tells,
  record {
    run = 0;
    count = 0;
    base = 0;
    held = λ some. absurd (omega (arith, some));
    runs = λ some. absurd (omega (arith, some));
    counts = record { least = omega arith; most = omega arith };
    some = tt;
    each = sends_refl (IsDeltaUnder c.args.token.now c.args.limit 0) 0 0 _ after.sent;
  },
)

pub returns-in-Err-begin_run-clause-asks : goal.returns-in-Err-begin_run-clause-asks
returns-in-Err-begin_run-clause-asks g c after tells = (
  after,
  tells,
  record {
    run = 0;
    count = 0;
    base = 0;
    held = λ some. absurd (omega (arith, some));
    runs = λ some. absurd (omega (arith, some));
    counts = record { least = omega arith; most = omega arith };
    some = tt;
    each = sends_refl (IsDeltaUnder c.args.token.now c.args.limit 0) 0 0 _ after.sent;
  },
)

pub returns-in-Err-drop_other-clause-asks : goal.returns-in-Err-drop_other-clause-asks
returns-in-Err-drop_other-clause-asks g c after tells = (
  after,
  tells,
  record {
    run = 0;
    count = 0;
    base = 0;
    held = λ some. absurd (omega (arith, some));
    runs = λ some. absurd (omega (arith, some));
    counts = record { least = omega arith; most = omega arith };
    some = tt;
    each = sends_refl (IsDeltaUnder c.args.token.now c.args.limit 0) 0 0 _ after.sent;
  },
)

pub returns-in-Some-clause-asks : goal.returns-in-Some-clause-asks
returns-in-Some-clause-asks g c after tells =
    let at = goal.at.returns-in-Some-clause-asks g c in
    let asks = c.fill.ensures.asks in
    let before = asks.3 after tells in (
      before.0,
      before.1,
      record {
        run = c.in-Ok.state.run;
        count = asks.0;
        base = c.in-Ok-Some.base;
        held = λ some copy stands.
            let from = filled g at.After-fill (Some c.in-Some.answer) c.in-Some.is copy stands in
            (from.before, from.old, from.has);
        runs = λ some copy stands.
            let from = filled g at.After-fill (Some c.in-Some.answer) c.in-Some.is copy stands in
            end_run c.args.token.now c.in-Ok-Some.base c.in-Some.answer from.made.start copy from.made.left.0
            ∙ begun_run c.args.token.now _ _ from.made.start from.before from.made.begun;
        counts = asks.1;
        some = subst (λ r. IfSome r (λ a. AsksSome a asks.0)) c.in-Some.is asks.2;
        each = sends_weaker _ _ c.in-Ok.state.run 0 asks.0 _ _ _ _ (λ n q h. h)
            (λ e. same_Some _ _ (sym c.in-Some.is ∙ e)) before.2;
      },
    )

pub returns-clause-asks : goal.returns-clause-asks
returns-clause-asks g c after tells =
    let at = goal.at.returns-clause-asks g c in
    let asks = c.fill.ensures.asks in
    let before = asks.3 after tells in (
      before.0,
      before.1,
      record {
        run = c.in-Ok.state.run;
        count = asks.0;
        base = c.in-Ok-Some.base;
        held = λ some copy stands.
            let last = finished g at.After-finish copy stands in
            let from = filled g at.After-fill None c.in_default.is last.staged last.stood in
            (from.before, from.old, from.has);
        runs = λ some copy stands.
            let last = finished g at.After-finish copy stands in
            let from = filled g at.After-fill None c.in_default.is last.staged last.stood in
            swap_run c.finish.result _ last.staged copy last.swaps ∙ (from.made.left.0).run
            ∙ begun_run c.args.token.now _ _ from.made.start from.before from.made.begun;
        counts = asks.1;
        some = tt;
        each = sends_weaker _ _ c.in-Ok.state.run 0 asks.0 _ _ _ _ (λ n q h. h)
            (λ e. absurd (none-some _ (sym c.in_default.is ∙ e))) before.2;
      },
    )

-- ---- over a link that tells, where copy and link agreed

pub returns-in-Err-clause-told : goal.returns-in-Err-clause-told
returns-in-Err-clause-told g c agree after tells stands told =
    let old = c.base_under.ensures.same after stands in (
      after,
      tells,
      old,
      told,
      subst (λ (a : SyncAnswer). DeltaSynchronised c.args.token.now (Ended a) after tells after tells)
          (sym c.broken.ensures)
          (broken_sync c.args.token.now c.in-Err.error after tells (agree after tells old told)),
    )

pub returns-in-Ok-None-clause-told : goal.returns-in-Ok-None-clause-told
returns-in-Ok-None-clause-told g c agree after tells stands told =
    let old = c.base_under.ensures.same after stands in (
      after,
      tells,
      old,
      told,
      record { leaves = refl; agree = agree after tells old told; held = refl; pin = tt; moved = same_moved tells },
    )

pub returns-in-Err-begin_run-clause-told : goal.returns-in-Err-begin_run-clause-told
returns-in-Err-begin_run-clause-told g c agree after tells stands told =
    let from = not_entered g (goal.at.returns-in-Err-begin_run-clause-told g c).In-Err-begin_run after stands in
    let token = c.args.token.now in
    let error = c.in-Err-begin_run.error in (
      from.before,
      tells,
      from.old,
      told,
      subst (λ (a : SyncAnswer). DeltaSynchronised token (Ended a) from.before tells after tells)
          (sym c.unentered.ensures)
          (sync_as token (unentered error) from.before tells after tells (same_moved tells)
          (enter_sync token error from.before after tells from.made (agree from.before tells from.old told))),
    )

pub returns-in-Err-drop_other-clause-told : goal.returns-in-Err-drop_other-clause-told
returns-in-Err-drop_other-clause-told g c agree after tells stands told =
    let from = not_dropped g (goal.at.returns-in-Err-drop_other-clause-told g c).In-Err-drop_other after stands in
    let a = c.in-Err-drop_other.answer in (
      from.before,
      tells,
      from.old,
      told,
      sync_as c.args.token.now a from.before tells after tells (same_moved tells)
          (drop_sync c.args.token.now c.in-Ok.state.run a from.before from.made.entered after c.in-Ok.state tells _
          c.in-Err-drop_other.ensures.cause from.made.enters from.made.drops (agree from.before tells from.old told)),
    )

pub returns-in-Some-clause-told : goal.returns-in-Some-clause-told
returns-in-Some-clause-told g c agree after tells stands told =
    let at = goal.at.returns-in-Some-clause-told g c in
    let a = c.in-Some.answer in
    let from = filled g at.After-fill (Some a) c.in-Some.is after stands in
    let kinds = from.made in
    let said = filled_from g at.After-fill (Some a) c.in-Some.is agree after tells stands told in
    let stays = subst (λ (o : Option StageState). BasedBehind o said.state.hub after a) kinds.begun.stage_is
    said.fill.stays in (
      from.before,
      said.state,
      from.old,
      said.old,
      end_sync c.args.token.now c.in-Ok-Some.base c.in-Ok.state.run said.count a from.before kinds.start after
          said.state tells kinds.begun.is (ends_so g at.In-Some) from.has kinds.left.0 kinds.begun.run_is said.asks
          (agree from.before said.state from.old said.old) said.fill.fits stays,
    )

pub returns-clause-told : goal.returns-clause-told
returns-clause-told g c agree after tells stands told =
    let at = goal.at.returns-clause-told g c in
    let token = c.args.token.now in
    let s = c.in-Some-stage.s in
    let last = finished g at.After-finish after stands in
    let from = filled g at.After-fill None c.in_default.is last.staged last.stood in
    let kinds = from.made in
    let said = filled_from g at.After-fill None c.in_default.is agree last.staged tells last.stood told in (
      from.before,
      said.state,
      from.old,
      said.old,
      sync_as token c.finish.result from.before said.state after tells said.asks.moved
          (swap_sync token c.in-Ok.state.run said.count from.before last.staged after s said.state tells c.finish.result
          (record {
            ends = subst (λ (copy : Copy). Ends token None copy last.staged) kinds.begun.is
                (all_ends token kinds.start last.staged kinds.left.0);
            state = last.state;
            all = all_kinds g at.After-finish;
            run_is = kinds.begun.run_is;
            asks = said.asks;
            agree = agree from.before said.state from.old said.old;
            fits = said.fill.fits;
            law = subst (λ (o : Option StageState). PinLaw o said.state.hub (Some s)) kinds.begun.stage_is
                (subst (λ (o : Option StageState). PinLaw c.in-Ok-drop_other.begun said.state.hub o) c.in-Some-stage.is
                (said.fill.pin refl));
          }) last.swaps),
    )

-- ---- how many exchanges

pub returns-in-Err-clause-bound : goal.returns-in-Err-clause-bound
returns-in-Err-clause-bound g c agree after tells stands told =
    (after, tells, c.base_under.ensures.same after stands, told, 0, omega arith, inl refl)

pub returns-in-Ok-None-clause-bound : goal.returns-in-Ok-None-clause-bound
returns-in-Ok-None-clause-bound g c agree after tells stands told =
    (after, tells, c.base_under.ensures.same after stands, told, 0, omega arith, inl refl)

pub returns-in-Err-begin_run-clause-bound : goal.returns-in-Err-begin_run-clause-bound
returns-in-Err-begin_run-clause-bound g c agree after tells stands told =
    let from = not_entered g (goal.at.returns-in-Err-begin_run-clause-bound g c).In-Err-begin_run after stands in
    (from.before, tells, from.old, told, 0, omega arith, inl refl)

pub returns-in-Err-drop_other-clause-bound : goal.returns-in-Err-drop_other-clause-bound
returns-in-Err-drop_other-clause-bound g c agree after tells stands told =
    let from = not_dropped g (goal.at.returns-in-Err-drop_other-clause-bound g c).In-Err-drop_other after stands in
    (from.before, tells, from.old, told, 0, omega arith, inl refl)

-- the bound of the kinds is that of the call
call_bound : (n tries limit : ℕ) (token : List ℕ) (base : ℕ) (first own : Option StageState)
    (named answers : ℕ → Type 0)
    (h : HubState) → first ≡ own → ((v : ℕ) → named v → answers v) → DeltaBounded n tries limit token base first named h
    → DeltaBounded n tries limit token base own answers h
call_bound n tries limit token base first own named answers h is on bound =
    subst (λ (o : Option StageState). DeltaBounded n tries limit token base o answers h) is
    (bounded_map n tries limit token base first named answers h on bound)

pub returns-in-Some-clause-bound : goal.returns-in-Some-clause-bound
returns-in-Some-clause-bound g c agree after tells stands told =
    let at = goal.at.returns-in-Some-clause-bound g c in
    let a = c.in-Some.answer in
    let from = filled g at.After-fill (Some a) c.in-Some.is after stands in
    let said = filled_from g at.After-fill (Some a) c.in-Some.is agree after tells stands told in
    let ends = ends_so g at.In-Some in (
      from.before,
      said.state,
      from.old,
      said.old,
      said.count,
      said.few,
      inr (
        c.in-Ok-Some.base,
        from.has,
        call_bound said.count c.args.tries c.args.limit c.args.token.now c.in-Ok-Some.base c.in-Ok-drop_other.begun _ _
            (IsNewPin (AnswersPin a) after said.state.hub tells.hub) tells.hub from.made.begun.stage_is
            (λ v is. end_pin c.in-Ok-Some.base a after said.state.hub tells.hub v ends is) said.fill.bound,
      ),
    )

pub returns-clause-bound : goal.returns-clause-bound
returns-clause-bound g c agree after tells stands told =
    let at = goal.at.returns-clause-bound g c in
    let a = c.finish.result in
    let last = finished g at.After-finish after stands in
    let from = filled g at.After-fill None c.in_default.is last.staged last.stood in
    let said = filled_from g at.After-fill None c.in_default.is agree last.staged tells last.stood told in (
      from.before,
      said.state,
      from.old,
      said.old,
      said.count,
      said.few,
      inr (
        c.in-Ok-Some.base,
        from.has,
        call_bound said.count c.args.tries c.args.limit c.args.token.now c.in-Ok-Some.base c.in-Ok-drop_other.begun _ _
            (IsNewPin (AnswersPin (Ended a)) after said.state.hub tells.hub) tells.hub from.made.begun.stage_is
            (λ v is. swap_pin a c.in-Some-stage.s last.staged after said.state.hub tells.hub v last.state last.swaps is)
            said.fill.bound,
      ),
    )

-- ---- the cause, over a link that tells

pub returns-in-Err-clause-cause_told : goal.returns-in-Err-clause-cause_told
returns-in-Err-clause-cause_told g c agree after tells stands told = (
  tells,
  told,
  subst (λ (a : SyncAnswer). DeltaTold c.args.token.now tells tells (Ended a)) (sym c.broken.ensures)
      (broken_told c.args.token.now c.in-Err.error tells tells),
)

pub returns-in-Ok-None-clause-cause_told : goal.returns-in-Ok-None-clause-cause_told
returns-in-Ok-None-clause-cause_told g c agree after tells stands told = (tells, told, tt)

pub returns-in-Err-begin_run-clause-cause_told : goal.returns-in-Err-begin_run-clause-cause_told
returns-in-Err-begin_run-clause-cause_told g c agree after tells stands told = (
  tells,
  told,
  start_told c.args.token.now tells tells _ c.unentered.result
      (unentered_cause c.unentered.ensures c.in-Err-begin_run.ensures.cause),
)

pub returns-in-Err-drop_other-clause-cause_told : goal.returns-in-Err-drop_other-clause-cause_told
returns-in-Err-drop_other-clause-cause_told g c agree after tells stands told = (
  tells,
  told,
  start_told c.args.token.now tells tells _ c.in-Err-drop_other.answer (c.in-Err-drop_other.ensures.cause).1,
)

pub returns-in-Some-clause-cause_told : goal.returns-in-Some-clause-cause_told
returns-in-Some-clause-cause_told g c agree after tells stands told =
    let at = goal.at.returns-in-Some-clause-cause_told g c in
    let said = filled_from g at.After-fill (Some c.in-Some.answer) c.in-Some.is agree after tells stands told in
    (said.state, said.old, said.fill.cause)

pub returns-clause-cause_told : goal.returns-clause-cause_told
returns-clause-cause_told g c agree after tells stands told =
    let link = c.fill.ensures.link tells told in (
      link.0,
      link.1,
      finish_by (λ a. DeltaTold c.args.token.now link.0 tells (Ended a)) c.finish.result c.in-Some-stage.s.pin
          c.finish.ensures.answers tt (λ e. tt) tt,
    )

-- ---- completeness

pub returns-in-Err-clause-complete : goal.returns-in-Err-clause-complete
returns-in-Err-clause-complete g c agree link copy after tells stands told =
    let old = c.base_under.ensures.same after stands in (
      after,
      tells,
      old,
      told,
      λ low hub at base has on.
          subst (λ (a : SyncAnswer). IsDeltaDone (Ended a)) (sym c.broken.ensures)
          (broken_done c.in-Err.error _ c.in-Err.ensures.cause copy),
    )

pub returns-in-Ok-None-clause-complete : goal.returns-in-Ok-None-clause-complete
returns-in-Ok-None-clause-complete g c agree link copy after tells stands told =
    let old = c.base_under.ensures.same after stands in
    let lacks = c.in-Ok-None.ensures.none c.in-Ok-None.field-0-is after stands in
    (after, tells, old, told, λ low hub at base has on. absurd (lacks (has_token after base c.args.token.now has)))

pub returns-in-Err-begin_run-clause-complete : goal.returns-in-Err-begin_run-clause-complete
returns-in-Err-begin_run-clause-complete g c agree link copy after tells stands told =
    let from = not_entered g (goal.at.returns-in-Err-begin_run-clause-complete g c).In-Err-begin_run after stands in (
      from.before,
      tells,
      from.old,
      told,
      λ low hub at base held on.
          subst (λ (a : SyncAnswer). IsDeltaDone (Ended a)) (sym c.unentered.ensures)
          (enter_done c.in-Err-begin_run.error from.before after _ c.in-Err-begin_run.ensures.cause from.made
          (λ rose. copy (omega (arith, rose, c.base_under.ensures.later))) low),
    )

pub returns-in-Err-drop_other-clause-complete : goal.returns-in-Err-drop_other-clause-complete
returns-in-Err-drop_other-clause-complete g c agree link copy after tells stands told =
    let from = not_dropped g (goal.at.returns-in-Err-drop_other-clause-complete g c).In-Err-drop_other after stands in (
      from.before,
      tells,
      from.old,
      told,
      λ low hub at base held on.
          drop_done c.in-Err-drop_other.answer _ c.in-Err-drop_other.ensures.cause
          (λ rose. copy (omega (arith, rose, c.base_under.ensures.later, c.begin_run.ensures.later))),
    )

pub returns-in-Some-clause-complete : goal.returns-in-Some-clause-complete
returns-in-Some-clause-complete g c agree link copy after tells stands told =
    let at = goal.at.returns-in-Some-clause-complete g c in
    let token = c.args.token.now in
    let base = c.in-Ok-Some.base in
    let cause = c.in-Some.ensures.cause in
    let from = filled g at.After-fill (Some c.in-Some.answer) c.in-Some.is after stands in
    let said = filled_from g at.After-fill (Some c.in-Some.answer) c.in-Some.is agree after tells stands told in
    let hub_now = said.state.hub in
    let published = base_stands base token from.before hub_now (agree from.before said.state from.old said.old).fits
    from.has in
    let stage_is = from.made.begun.stage_is in (
      from.before,
      said.state,
      from.old,
      said.old,
      λ low hub stage_stands other held other_stands.
          let same : other ≡ base = one_base other base token from.before held from.has in
          done_of _ _ _ _ _ _ cause.0 token c.in-Ok-drop_other.begun said.state tells
          (g.met.L.Link.is_hub c.fill.new.link tells told)
          (λ missed. link (let rose = missed.2 in omega (arith, rose, c.requires.tries.0)))
          (λ rose. copy (omega (arith, rose, begun_later g at.After-fill)))
          hub (subst (λ n. n < length hub_now.published) (sym cause.2) published)
          (subst (λ (o : Option StageState). StandsAt (first_pin o hub_now) token tells.hub) (sym stage_is)
          stage_stands)
          (subst (λ n. StandsAt n token tells.hub) (same ∙ sym cause.2) other_stands)
          c.in-Some.answer cause.5 said.fill.cause said.fill.gone,
    )

pub returns-clause-complete : goal.returns-clause-complete
returns-clause-complete g c agree link copy after tells stands told =
    let at = goal.at.returns-clause-complete g c in
    let last = finished g at.After-finish after stands in
    let from = filled g at.After-fill None c.in_default.is last.staged last.stood in
    let said = filled_from g at.After-fill None c.in_default.is agree last.staged tells last.stood told in
    let later = begun_later g at.After-fill in (
      from.before,
      said.state,
      from.old,
      said.old,
      λ low hub stage_stands base held other_stands.
          finish_by (λ a. IsDeltaDone (Ended a)) c.finish.result c.in-Some-stage.s.pin c.finish.ensures.answers tt
          (λ e. absurd (copy (let rose = c.finish.ensures.cause e in omega (arith, rose, later, c.fill.ensures.later))))
          tt,
    )

-- ---- marks

pub returns-in-Err-clause-marks : goal.returns-in-Err-clause-marks
returns-in-Err-clause-marks g c agree after tells stands told =
    agree after tells (c.base_under.ensures.same after stands) told

pub returns-in-Ok-None-clause-marks : goal.returns-in-Ok-None-clause-marks
returns-in-Ok-None-clause-marks g c agree after tells stands told =
    agree after tells (c.base_under.ensures.same after stands) told

pub returns-in-Err-begin_run-clause-marks : goal.returns-in-Err-begin_run-clause-marks
returns-in-Err-begin_run-clause-marks g c agree after tells stands told =
    let left = returns-in-Err-begin_run-clause-copy g c after stands in
    marks_kept c.args.token.now _ left.0 after tells left.2 (agree left.0 tells left.1 told)

pub returns-in-Err-drop_other-clause-marks : goal.returns-in-Err-drop_other-clause-marks
returns-in-Err-drop_other-clause-marks g c agree after tells stands told =
    let left = returns-in-Err-drop_other-clause-copy g c after stands in
    marks_kept c.args.token.now _ left.0 after tells left.2 (agree left.0 tells left.1 told)

pub returns-in-Some-clause-marks : goal.returns-in-Some-clause-marks
returns-in-Some-clause-marks g c agree after tells stands told =
    let left = returns-in-Some-clause-copy g c after stands in
    let link = c.fill.ensures.link tells told in
    delta_marks c.args.token.now c.in-Some.answer left.0 after tells left.2
    (marks_asked c.in-Ok.state.run link.2 left.0 link.0 tells link.3 (agree left.0 link.0 left.1 link.1))

pub returns-clause-marks : goal.returns-clause-marks
returns-clause-marks g c agree after tells stands told =
    let left = returns-clause-copy g c after stands in
    let link = c.fill.ensures.link tells told in
    marks_kept c.args.token.now _ left.0 after tells left.2
    (marks_asked c.in-Ok.state.run link.2 left.0 link.0 tells link.3 (agree left.0 link.0 left.1 link.1))
