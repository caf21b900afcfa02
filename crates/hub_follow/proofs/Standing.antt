-- When following has to be done.
use Rattle.std.proofs.Common.{◌≡◌, ◌≢◌, ◌⊎◌, ⊎_elim, inl, ◌+◌, ◌<◌, ◌≤◌, ℕ, Bool, true, false, List, Option, Some, None}
use Rattle.std.proofs.Common.{Result, Ok, Err, refl, sym, subst, ap, ◌∙◌, arith, min, ◌-◌, ◌^◌}
use Rattle.std.specs.Prelude.{IfSome, bytes_eq, if◌then◌else◌, option_map}
use Rattle.consumer_deltas.specs.DeltaAnswers.{BaseLaw, DeltaLeaves, LacksBase}
use Rattle.consumer_deltas.specs.DeltaCalls.{DeltaSynchronised, IsDeltaDone}
use Rattle.consumer_deltas.specs.declared.answer.DeltaAnswer.{DeltaAnswer}
use Rattle.consumer_deltas.specs.declared.answer.DeltaAnswer.TheVariants as delta
use Rattle.exchange_link.specs.Completeness.{IsDone, StandsAt, first_pin}
use Rattle.exchange_link.specs.Exchanges.{LinkState}
use Rattle.exchange_link.specs.Synchronised.{HeldTold, IsPinOf, StageOn, own_stage, own_state}
use Rattle.exchange_link.specs.declared.answer.SyncAnswer.TheVariants as answer
use Rattle.hub_cascade.specs.Answers.{CountsCopy, CountsHub, MakesCascade, TellsHeld}
use Rattle.hub_cascade.specs.declared.error.CascadeError.{CascadeError}
use Rattle.hub_cascade.specs.declared.error.CascadeError.TheVariants as error
use Rattle.hub_core.specs.declared.published.Published.{Published}
use Rattle.hub_follow.proofs.Ending.{false_true, sync_delta, true_false}
use Rattle.exchange_link.proofs.StageLemmas.{on_token}
use Rattle.hub_follow.proofs.Joining.{newest_grew, own_same, stays_on}
use Rattle.hub_follow.specs.Ends.{IsFollowed, IsMiss, after_cascade, answer_of_miss, end_of_delta, lacks_base, sync_of}
use Rattle.hub_follow.specs.declared.answer.FollowAnswer.{FollowAnswer}
use Rattle.hub_follow.specs.declared.answer.Missed.{Missed}
use Rattle.hub_follow.specs.declared.answer.Missed.TheVariants as missed
use Rattle.keeper_memory.specs.Kept.{KeptState, newest_kept}
use Rattle.keeper_memory.specs.copy.Copies.{Copy, Stage}
use Rattle.keeper_memory.specs.copy.States.{stage_of, state_of}
use Rattle.keeper_memory.specs.declared.copy.state.StageState.{StageState}
use Rattle.keeper_memory.specs.declared.copy.state.TheConstants.{LAST}
use Rattle.roster_base.specs.Faults.{Rose}
use Rattle.version_changes.specs.declared.sets.publish_fault.PublishFault.{PublishFault}
use Rattle.version_changes.specs.sets.Applying.{Outcome, Refuses}
use Rattle.version_core.specs.HubStates.{HubState, newest_number}
use Rattle.version_core.specs.declared.change.BaseVersion.{BaseVersion}

-- ---- the pin

-- a later version stands where an earlier one does
stands_more : (p q : ℕ) (token : List ℕ) (h : HubState) → p ≤ q → StandsAt p token h → StandsAt q token h
stands_more p q token h le x = record { by = x.by; known = x.known; oldest = omega (arith, x.oldest, le); since = omega (arith, x.since, le) }

-- the pin of a stage, or else the newest version
abbrev pin_first : Option Stage → HubState → ℕ
pin_first o h = first_pin (option_map state_of o) h

state_if : (b : Bool) (s : Stage) → (if b then Some (state_of s) else None) ≡ option_map state_of (if b then Some s else None)
state_if true s = refl
state_if false s = refl

own_states : (token : List ℕ) (o : Option Stage) → own_state token (option_map state_of o) ≡ option_map state_of (own_stage token o)
own_states token None = refl
own_states token (Some s) = state_if (bytes_eq s.token token) s

first_newer : (o : Option Stage) (h i : HubState) → newest_number h ≤ newest_number i → pin_first o h ≤ pin_first o i
first_newer None h i le = le
first_newer (Some s) h i le = omega arith

first_none : (token : List ℕ) (o : Option Stage) (h i : HubState) → newest_number h ≤ newest_number i → StageOn token o None → pin_first o h ≤ newest_number i
first_none token None h i le on = le
first_none token (Some s) h i le on = absurd on

first_some : (o : Option Stage) (h : HubState) (v : ℕ) → IsPinOf o h v → pin_first o h ≤ v
first_some None h v x = x
first_some (Some s) h v x = omega (arith, x)

first_on : (token : List ℕ) (o n : Option Stage) (h i : HubState) → newest_number h ≤ newest_number i → StageOn token (own_stage token o) n → IfSome n (λ s. IsPinOf (own_stage token o) h s.pin)
    → pin_first (own_stage token o) h ≤ pin_first (own_stage token n) i
first_on token o None h i le on pin = first_none token (own_stage token o) h i le on
first_on token o (Some s) h i le on pin =
    subst (λ n. pin_first (own_stage token o) h ≤ pin_first n i) (sym (own_same token s (on_token token o s on))) (first_some (own_stage token o) h s.pin pin)

module _ (token : List ℕ) (b : Copy) (t : LinkState) (m : Copy) (w : LinkState) where
  first_behind : (d : DeltaAnswer) → lacks_base d ≡ true → DeltaSynchronised token d b t m w → pin_first (own_stage token b.stage) t.hub ≤ pin_first (own_stage token m.stage) w.hub
  first_behind (delta.Ended s) e x = false_true e
  first_behind delta.NoBase e x =
      subst (λ (c : Copy). pin_first (own_stage token b.stage) t.hub ≤ pin_first (own_stage token c.stage) w.hub) (sym x.leaves) (first_newer (own_stage token b.stage) t.hub w.hub (newest_grew t.hub w.hub x.moved.grew))
  first_behind (delta.BaseGone held oldest) e x = first_on token b.stage m.stage t.hub w.hub (newest_grew t.hub w.hub x.moved.grew) (stays_on token b.stage m.stage x.leaves.1.stage) x.pin

  -- the pin with which the whole one begins stands, if that of the call does
  pub stands_behind : (d : DeltaAnswer) (h : HubState) → lacks_base d ≡ true → DeltaSynchronised token d b t m w → StandsAt (first_pin (own_state token (stage_of b)) t.hub) token h → StandsAt (first_pin (own_state token (stage_of m)) w.hub) token h
  stands_behind d h e x at =
      let at' = subst (λ (o : Option StageState). StandsAt (first_pin o t.hub) token h) (own_states token b.stage) at in
      let on = stands_more (pin_first (own_stage token b.stage) t.hub) (pin_first (own_stage token m.stage) w.hub) token h (first_behind d e x) at' in
      subst (λ (o : Option StageState). StandsAt (first_pin o w.hub) token h) (sym (own_states token m.stage)) on

-- ---- the run

run_by : (b m : ℕ) → (m ≡ b) ⊎ (m ≡ b + 1) → b + 1 < LAST → m ≢ LAST
run_by b m x low e = ⊎_elim (λ (p : m ≡ b). absurd (omega (arith, p, low, e))) (λ (p : m ≡ b + 1). absurd (omega (arith, p, low, e))) x

pub run_behind : (token : List ℕ) (d : DeltaAnswer) (b m : Copy) → lacks_base d ≡ true → DeltaLeaves token d b m → b.run + 1 < LAST → m.run ≢ LAST
run_behind token (delta.Ended s) b m e x low = false_true e
run_behind token delta.NoBase b m e x low = run_by b.run m.run (inl (ap (λ (c : Copy). c.run) x)) low
run_behind token (delta.BaseGone held oldest) b m e x low = run_by b.run m.run x.1.run low

pub run_low : (n : ℕ) → n + 1 < LAST → n ≢ LAST
run_low n low e = absurd (omega (arith, low, e))

-- ---- an incremental one alone

pub done_delta : (d : DeltaAnswer) → lacks_base d ≡ false → IsDeltaDone d → IsDone (sync_of (end_of_delta d))
done_delta (delta.Ended a) e x = subst IsDone (sym (sync_delta a)) x
done_delta delta.NoBase e x = true_false e
done_delta (delta.BaseGone held oldest) e x = true_false e

lacking : (d : DeltaAnswer) → lacks_base d ≡ false → d ≡ delta.NoBase → ⊥
lacking d e is = true_false (subst (λ d. lacks_base d ≡ false) is e)

-- where nothing is held under the token, only want of memory keeps it from telling so
pub done_lacking : (token : List ℕ) (d : DeltaAnswer) (c : Copy) → lacks_base d ≡ false → BaseLaw token d c → LacksBase token c → (d ≡ delta.Ended answer.KeeperFault → ⊥) → IsDeltaDone d
done_lacking token d c e law lacks quiet = ⊎_elim (λ (none : d ≡ delta.NoBase). absurd (lacking d e none))
    (λ y. ⊎_elim (λ (fault : d ≡ delta.Ended answer.KeeperFault). absurd (quiet fault)) (λ (wants : d ≡ delta.Ended answer.NoMemory). subst IsDeltaDone (sym wants) tt) y) (law.exact lacks)

-- ---- the whole

pub followed_miss : (m : Missed) → (let r : Result ℕ Missed = Err m in IsDone (sync_of r)) → IsMiss m → IsFollowed (answer_of_miss m)
followed_miss (missed.Sync a) x is = x
followed_miss (missed.Delta (delta.Ended a)) x is = x
followed_miss (missed.Delta delta.NoBase) x is = absurd is
followed_miss (missed.Delta (delta.BaseGone held oldest)) x is = absurd is

rose_once : (b a : ℕ) → a ≡ min (b + 1) (2 ^ 64 - 1) → Rose b a
rose_once b a e = omega (arith, e)

pub followed_cascade : (version : ℕ) (made : Result Published CascadeError) (hub hub_now copy copy_now : ℕ) (copies : Copy → Type 0) (c : Copy) (asks : BaseVersion → Outcome → Type 0) (before after : KeptState)
    → CountsHub hub hub_now made → (Rose hub hub_now → ⊥) → CountsCopy copy copy_now made → (Rose copy copy_now → ⊥) → TellsHeld copies made → copies c → (c.held ≡ None → ⊥)
    → MakesCascade asks made before after → ((fault : PublishFault) → asks (newest_kept before.versions) (Refuses fault) → ⊥) → IsFollowed (after_cascade version made)
followed_cascade version (Ok published) hub hub_now copy copy_now copies c asks before after h hq k kq tells stands some makes passes = tt
followed_cascade version (Err error.HubKeeper) hub hub_now copy copy_now copies c asks before after h hq k kq tells stands some makes passes = hq (rose_once hub hub_now h)
followed_cascade version (Err error.CopyKeeper) hub hub_now copy copy_now copies c asks before after h hq k kq tells stands some makes passes = kq (rose_once copy copy_now k)
followed_cascade version (Err error.NoMemory) hub hub_now copy copy_now copies c asks before after h hq k kq tells stands some makes passes = tt
followed_cascade version (Err error.NothingHeld) hub hub_now copy copy_now copies c asks before after h hq k kq tells stands some makes passes = some (tells c stands)
followed_cascade version (Err (error.Refused fault)) hub hub_now copy copy_now copies c asks before after h hq k kq tells stands some makes passes = passes fault makes.0

pub is_followed : (a : FollowAnswer) (version : ℕ) (made : Result Published CascadeError) → a ≡ after_cascade version made → IsFollowed (after_cascade version made) → IsFollowed a
is_followed a version made e x = subst IsFollowed (sym e) x

-- a copy that is complete holds something
pub held_some : (version : ℕ) (token : List ℕ) (b : Copy) (t : LinkState) (c : Copy) (u : LinkState) → HeldTold token (answer.Complete version) b t c u → c.held ≡ None → ⊥
held_some version token b t c u x none = let e = sym none ∙ x.held in cc
