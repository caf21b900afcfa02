-- The parts of an incremental synchronisation make the whole.
use Rattle.std.proofs.Common.{◌≡◌, ◌≢◌, ◌⊎◌, ⊎_elim, inl, inr, ◌+◌, ◌<◌, ◌≤◌, ℕ, List, length, Option, Some, None, Ok}
use Rattle.std.proofs.Common.{Err, refl, sym, subst, ap, ◌∙◌, arith}
use Rattle.std.proofs.lemmas.Option.{none-some, same_Some}
use Rattle.std.specs.Prelude.{IfSome, option_map}
use Rattle.std.specs.Option.{option_map_or}
use Rattle.keeper_memory.specs.copy.Changes.{copy_after, swapped}
use Rattle.keeper_memory.specs.copy.Copies.{Copy, Held, Stage, held_token}
use Rattle.keeper_memory.specs.copy.States.{small_part, stage_of, state_of}
use Rattle.keeper_memory.specs.declared.copy.change.CopyChange.TheVariants.{Swap}
use Rattle.keeper_memory.specs.declared.copy.state.CopyState.{CopyState}
use Rattle.keeper_memory.specs.declared.copy.state.StageState.{StageState}
use Rattle.keeper_memory.specs.declared.copy.state.TheConstants.{LAST}
use Rattle.exchange_link.proofs.AskLemmas.{asks_refl}
use Rattle.exchange_link.specs.Agreement.{CopyFits, StageAgrees}
use Rattle.exchange_link.specs.Beginning.{Enters}
use Rattle.exchange_link.specs.Causes.{IsAside, LastLaw}
use Rattle.exchange_link.specs.Exchanges.{LinkState}
use Rattle.exchange_link.specs.Marks.{MarksTold}
use Rattle.exchange_link.specs.Requests.{Asks, Moved}
use Rattle.exchange_link.specs.Synchronised.{IsPinOf, Leaves, StageOn, Synchronised, own_stage, own_state}
use Rattle.exchange_link.specs.declared.answer.SyncAnswer.{SyncAnswer}
use Rattle.exchange_link.specs.declared.answer.SyncAnswer.TheVariants as answer
use Rattle.exchange_link.specs.declared.beginning.NoRun.{NoRun}
use Rattle.exchange_link.specs.declared.beginning.NoRun.TheVariants as no_run
use Rattle.roster_base.specs.declared.keeper.KeeperError.{KeeperError}
use Rattle.roster_base.specs.declared.keeper.KeeperError.TheVariants as fault
use Rattle.version_core.specs.HubStates.{HubState}
use Rattle.consumer_sync.proofs.FaultLemmas.{abort_faults, enter_faults, fill_faults}
use Rattle.consumer_sync.proofs.FillLemmas.{fills_end}
use Rattle.consumer_sync.proofs.MarkLemmas.{marks_kept}
use Rattle.consumer_sync.proofs.SyncLemmas.{drop_fails, fail_stage, fill_leaves, fill_sync, pin_law}
use Rattle.consumer_sync.specs.Faulted.{FaultLaw, SaysGone}
use Rattle.consumer_sync.specs.Filling.{Ends, Fills, PinLaw}
use Rattle.consumer_sync.specs.Requests.{IsUnmarked}
use Rattle.consumer_sync.specs.Staging.{broken_answer}
use Rattle.consumer_sync.specs.Starting.{Aborts, Drops, StartCause, SwapsIn, run_begun, unentered}
use Rattle.consumer_deltas.proofs.DeltaAgreeLemmas.{IsBase, base_stands as held_stands}
use Rattle.consumer_deltas.proofs.DeltaStopLemmas.{IsDeltaEnd}
use Rattle.consumer_deltas.specs.DeltaAnswers.{BaseLaw, DeltaLeaves, DeltaTold, HasBase, LacksBase}
use Rattle.consumer_deltas.specs.DeltaCalls.{AnswersPin, DeltaBounded, DeltaFaultLaw, DeltaLastLaw, DeltaSynchronised}
use Rattle.consumer_deltas.specs.DeltaCalls.{IsDeltaDone, IsNewPin}
use Rattle.consumer_deltas.specs.DeltaCauses.{DeltaCause}
use Rattle.consumer_deltas.specs.DeltaCauses.DeltaCause.{Broke, OutOfRuns, Wants}
use Rattle.consumer_deltas.specs.DeltaFilling.{BasedBehind, DeltaEnds, NamesPinIf}
use Rattle.consumer_deltas.specs.DeltaTelling.{NamesPin}
use Rattle.consumer_deltas.specs.declared.answer.DeltaAnswer.{DeltaAnswer}
use Rattle.consumer_deltas.specs.declared.answer.DeltaAnswer.TheVariants.{BaseGone, Ended, NoBase}
use Rattle.consumer_deltas.specs.declared.judging.Place.{Place}

-- ---- the base

based_by : (o : Option Held) (base : ℕ) (token : List ℕ) → option_map_or (λ (h : Held). h.token) o None ≡ Some token → option_map (λ (h : Held). h.version) o ≡ Some base → IsBase base token o
based_by None base token e f = absurd (none-some _ e)
based_by (Some held) base token e f = (same_Some _ _ f, e)

-- a version that is held under the token
pub based : (c : Copy) (s : CopyState) (base : ℕ) (token : List ℕ) → s ≡ small_part c → s.held_token ≡ Some token → s.held ≡ Some base → HasBase base token c
based c s base token shows e f = based_by c.held base token (ap (λ (s : CopyState). s.held_token) (sym shows) ∙ e) (ap (λ (s : CopyState). s.held) (sym shows) ∙ f)

held_some : (o : Option Held) (token : List ℕ) → option_map_or (λ (h : Held). h.token) o None ≡ Some token → option_map (λ (h : Held). h.version) o ≡ None → ⊥
held_some None token e f = absurd (none-some _ e)
held_some (Some held) token e f = cc

-- nothing is held under the token
pub baseless : (c : Copy) (s : CopyState) (token : List ℕ) → s ≡ small_part c → (s.held_token ≡ Some token → s.held ≡ None) → LacksBase token c
baseless c s token shows none e =
    held_some c.held token e (ap (λ (s : CopyState). s.held) (sym shows) ∙ none (ap (λ (s : CopyState). s.held_token) shows ∙ e))

token_by : (o : Option Held) (base : ℕ) (token : List ℕ) → IsBase base token o → option_map_or (λ (h : Held). h.token) o None ≡ Some token
token_by None base token has = absurd has
token_by (Some held) base token has = has.1

pub has_token : (c : Copy) (base : ℕ) (token : List ℕ) → HasBase base token c → held_token c ≡ Some token
has_token c base token has = token_by c.held base token has

ended_base : {a : SyncAnswer} → Ended a ≡ NoBase → ⊥
ended_base e = cc

-- where a base is held, a call ends otherwise
pub based_law : (base : ℕ) (token : List ℕ) (a : DeltaAnswer) (c : Copy) → (a ≡ NoBase → ⊥) → HasBase base token c → BaseLaw token a c
based_law base token a c other has = record { only = λ e. absurd (other e); exact = λ lacks. absurd (lacks (has_token c base token has)) }

pub ended_law : (base : ℕ) (token : List ℕ) (a : SyncAnswer) (c : Copy) → HasBase base token c → BaseLaw token (Ended a) c
ended_law base token a c has = based_law base token (Ended a) c (λ e. ended_base e) has

pub end_law : (base : ℕ) (token : List ℕ) (a : DeltaAnswer) (c : Copy) → IsDeltaEnd base a → HasBase base token c → BaseLaw token a c
end_law base token a c end has = based_law base token a c (λ e. subst (IsDeltaEnd base) e end) has

pub broken_law : (token : List ℕ) (e : KeeperError) (c : Copy) → BaseLaw token (Ended (broken_answer e)) c
broken_law token fault.Failed c = record { only = λ e. absurd (ended_base e); exact = λ lacks. inr (inl refl) }
broken_law token fault.NoMemory c = record { only = λ e. absurd (ended_base e); exact = λ lacks. inr (inr refl) }

pub none_law : (token : List ℕ) (c : Copy) → LacksBase token c → BaseLaw token NoBase c
none_law token c lacks = record { only = λ e. lacks; exact = λ l. inl refl }

-- ---- a call that didn't begin

same_aborts : (token : List ℕ) (c : Copy) → Aborts token c c
same_aborts token c = record { run = inl refl; held = refl; entries = refl; last_number = refl; stage = inl refl }

pub broken_leaves : (token : List ℕ) (e : KeeperError) (c : Copy) → Leaves token (broken_answer e) c c
broken_leaves token fault.Failed c = record { run = inl refl; entries = refl; last_number = refl; held = inl refl; stage = inr (inr (tt, refl)) }
broken_leaves token fault.NoMemory c = record { run = inl refl; entries = refl; last_number = refl; held = refl; stage = inr (inr (tt, refl)) }

pub same_moved : (t : LinkState) → Moved t t
same_moved t = (asks_refl 0 0 IsUnmarked t).moved

pub broken_sync : (token : List ℕ) (e : KeeperError) (c : Copy) (t : LinkState) → StageAgrees c t → DeltaSynchronised token (Ended (broken_answer e)) c t c t
broken_sync token fault.Failed c t agree = record { leaves = broken_leaves token fault.Failed c; agree = agree; held = inl refl; pin = tt; moved = same_moved t }
broken_sync token fault.NoMemory c t agree = record { leaves = broken_leaves token fault.NoMemory c; agree = agree; held = refl; pin = tt; moved = same_moved t }

broken_fault : (token kept : List ℕ) (e : KeeperError) (c : Copy) → DeltaFaultLaw token kept (Ended (broken_answer e)) c c
broken_fault token kept fault.Failed c = abort_faults token kept c c (same_aborts token c)
broken_fault token kept fault.NoMemory c = tt

pub broken_faults : (token kept : List ℕ) (e : KeeperError) (a : SyncAnswer) (c : Copy) → a ≡ broken_answer e → DeltaFaultLaw token kept (Ended a) c c
broken_faults token kept e a c is = subst (λ a. DeltaFaultLaw token kept (Ended a) c c) (sym is) (broken_fault token kept e c)

last_ended_base : {a : SyncAnswer} → NoBase ≡ Ended a → ⊥
last_ended_base e = cc

pub broken_last : (e : KeeperError) (b a : Copy) → DeltaLastLaw (Ended (broken_answer e)) b a
broken_last fault.Failed b a = record { only = λ e. cc; exact = λ _. inr (inr tt) }
broken_last fault.NoMemory b a = record { only = λ e. cc; exact = λ _. inr (inr tt) }

pub none_last : (b a : Copy) → DeltaLastLaw NoBase b a
none_last b a = record { only = λ e. absurd (last_ended_base e); exact = λ _. inl refl }

pub broken_told : (token : List ℕ) (e : KeeperError) (t u : LinkState) → DeltaTold token t u (Ended (broken_answer e))
broken_told token fault.Failed t u = tt
broken_told token fault.NoMemory t u = tt

pub broken_done : (e : KeeperError) (K : Type 0) → (e ≡ fault.Failed → K) → (K → ⊥) → IsDeltaDone (Ended (broken_answer e))
broken_done fault.Failed K f quiet = absurd (quiet (f refl))
broken_done fault.NoMemory K f quiet = tt

module _ (kept : List ℕ) (run count : ℕ) (missed broke : Type 0) (copies : Copy → Type 0) (place : Place) where
  why_broken : (e : KeeperError) → (e ≡ fault.Failed → broke) → DeltaCause kept run count missed broke copies place (Ended (broken_answer e))
  why_broken fault.Failed f = Broke (f refl) refl
  why_broken fault.NoMemory f = Wants refl

  pub broken_cause : (e : KeeperError) (a : SyncAnswer) → a ≡ broken_answer e → (e ≡ fault.Failed → broke) → DeltaCause kept run count missed broke copies place (Ended a)
  broken_cause e a is f = subst (λ a. DeltaCause kept run count missed broke copies place (Ended a)) (sym is) (why_broken e f)

  pub start_cause : (a : SyncAnswer) → count ≡ 0 → StartCause broke a → DeltaCause kept run count missed broke copies place (Ended a)
  start_cause answer.LastRun none cause = OutOfRuns none refl
  start_cause answer.KeeperFault none cause = Broke cause refl
  start_cause answer.NoMemory none cause = Wants refl
  start_cause a none cause = absurd cause

-- ---- as a synchronisation ends

pub sync_as : (token : List ℕ) (a : SyncAnswer) (b : Copy) (t : LinkState) (c : Copy) (u : LinkState) → Moved t u → Synchronised token a b t c u → DeltaSynchronised token (Ended a) b t c u
sync_as token a b t c u moved s = record { leaves = s.leaves; agree = s.agree; held = s.held; pin = tt; moved = moved }

ended_same : {a b : SyncAnswer} → Ended a ≡ Ended b → a ≡ b
ended_same e = cc

pub last_as : (a : SyncAnswer) (b c : Copy) → LastLaw a b c → DeltaLastLaw (Ended a) b c
last_as a b c l = record { only = λ e. l.only (ended_same e); exact = λ e. inr (⊎_elim (λ (is : a ≡ answer.LastRun). inl (ap Ended is)) (λ (is : IsAside a). inr is) (l.exact e)) }

pub faults_as : (token kept : List ℕ) (a : SyncAnswer) (b c : Copy) → (a ≡ answer.KeeperFault → FaultLaw token kept b c) → DeltaFaultLaw token kept (Ended a) b c
faults_as token kept answer.KeeperFault b c f = f refl
faults_as token kept a b c f = tt

pub start_more : (broke more : Type 0) (a : SyncAnswer) → (broke → more) → StartCause broke a → StartCause more a
start_more broke more answer.LastRun f k = tt
start_more broke more answer.KeeperFault f k = f k
start_more broke more answer.NoMemory f k = tt
start_more broke more a f k = absurd k

fail_leaves : (token : List ℕ) (e : SyncAnswer) (b a : Copy) (K : Type 0) → (e ≢ answer.LastRun) × StartCause K e → Aborts token b a → Leaves token e b a
fail_leaves token answer.LastRun b a K k f = absurd (k.0 refl)
fail_leaves token answer.KeeperFault b a K k f = record { run = f.run; entries = f.entries; last_number = f.last_number; held = inl f.held; stage = ⊎_elim (λ x. inl x) (λ x. inr (inr (tt, x))) (fail_stage token b a f) }
fail_leaves token answer.NoMemory b a K k f = record { run = f.run; entries = f.entries; last_number = f.last_number; held = f.held; stage = ⊎_elim (λ x. inl x) (λ x. inr (inr (tt, x))) (fail_stage token b a f) }
fail_leaves token e b a K k f = absurd k.1

-- the stage under another token isn't dropped
pub drop_leaves : (token : List ℕ) (e : SyncAnswer) (b m a : Copy) (s : CopyState) (K : Type 0) → (e ≢ answer.LastRun) × StartCause K e → Enters (Ok s) b m → Drops token (Err e) m a → Leaves token e b a
drop_leaves token e b m a s K k x y = fail_leaves token e b a K k (drop_fails token b m a e x.1 y)

enter_fault : (token kept : List ℕ) (e : NoRun) (b a : Copy) → Enters (Err e) b a → DeltaFaultLaw token kept (Ended (unentered e)) b a
enter_fault token kept no_run.LastRun b a x = tt
enter_fault token kept no_run.KeeperFault b a x = enter_faults token kept no_run.KeeperFault b a refl x
enter_fault token kept no_run.NoMemory b a x = tt

pub enter_law : (token kept : List ℕ) (e : NoRun) (s : SyncAnswer) (b a : Copy) → s ≡ unentered e → Enters (Err e) b a → DeltaFaultLaw token kept (Ended s) b a
enter_law token kept e s b a is x = subst (λ s. DeltaFaultLaw token kept (Ended s) b a) (sym is) (enter_fault token kept e b a x)

-- ---- the kinds ended with an answer

pub end_leaves : (token : List ℕ) (base : ℕ) (a : DeltaAnswer) (b d c : Copy) → d ≡ run_begun token b → IsDeltaEnd base a → HasBase base token b → DeltaEnds token base (Some a) d c → DeltaLeaves token a b c
end_leaves token base (Ended e) b d c ed end has x = fill_leaves token e b d c ed end x
end_leaves token base NoBase b d c ed end has x = absurd x
end_leaves token base (BaseGone held oldest) b d c ed end has x =
    (subst (λ n. HasBase n token b) (sym x.0) has, fill_leaves token answer.HubFault b d c ed tt (fills_end token (Some answer.HubFault) d c tt x.1))

-- the stage that is left
left_pin : (token : List ℕ) (old new : Option Stage) (h : HubState) → PinLaw (own_state token (option_map state_of old)) h (option_map state_of new) → IfSome new (λ s. IsPinOf (own_stage token old) h s.pin)
left_pin token old None h law = tt
left_pin token old (Some s) h law = pin_law token old h (state_of s) law

pub end_sync : (token : List ℕ) (base run n : ℕ) (a : DeltaAnswer) (b d c : Copy) (t u : LinkState) → d ≡ run_begun token b → IsDeltaEnd base a → HasBase base token b → DeltaEnds token base (Some a) d c → run ≡ b.run + 1 → Asks run 0 n IsUnmarked t u → StageAgrees b t
    → CopyFits c u.hub → BasedBehind (own_state token (stage_of b)) t.hub c a → DeltaSynchronised token a b t c u
end_sync token base run n (Ended e) b d c t u ed end has x er asks agree fits stays = sync_as token e b t c u asks.moved (fill_sync token run n e b d c t u ed end x er asks agree fits)
end_sync token base run n NoBase b d c t u ed end has x er asks agree fits stays = absurd x
end_sync token base run n (BaseGone held oldest) b d c t u ed end has x er asks agree fits stays =
    let s = fill_sync token run n answer.HubFault b d c t u ed tt (fills_end token (Some answer.HubFault) d c tt x.1) er asks agree fits in
    record { leaves = end_leaves token base (BaseGone held oldest) b d c ed end has x; agree = s.agree; held = s.held; pin = left_pin token b.stage c.stage t.hub stays; moved = asks.moved }

pub end_faults : (token kept : List ℕ) (a : DeltaAnswer) (b d c : Copy) → d ≡ run_begun token b → StageOn token d.stage c.stage ⊎ SaysGone kept → DeltaFaultLaw token kept a b c
end_faults token kept (Ended answer.KeeperFault) b d c ed x = fill_faults token kept b d c ed x
end_faults token kept (Ended a) b d c ed x = tt
end_faults token kept NoBase b d c ed x = tt
end_faults token kept (BaseGone held oldest) b d c ed x = tt

end_other : (base : ℕ) (a : DeltaAnswer) → IsDeltaEnd base a → a ≡ Ended answer.LastRun → ⊥
end_other base a end e = subst (IsDeltaEnd base) e end

pub end_last : (base : ℕ) (a : DeltaAnswer) (b c : Copy) (run : ℕ) → IsDeltaEnd base a → run ≡ b.run + 1 → run ≤ LAST → DeltaLastLaw a b c
end_last base a b c run end er le = record { only = λ e. absurd (end_other base a end e); exact = λ h. absurd (omega (arith, h, er, le)) }

pub end_run : (token : List ℕ) (base : ℕ) (a : DeltaAnswer) (d c : Copy) → DeltaEnds token base (Some a) d c → c.run ≡ d.run
end_run token base (Ended e) d c x = x.run
end_run token base NoBase d c x = absurd x
end_run token base (BaseGone held oldest) d c x = x.1.run

-- all kinds were staged
pub all_ends : (token : List ℕ) (d c : Copy) → Fills token d c → Ends token None d c
all_ends token d c f = fills_end token None d c tt f

-- ---- the bound

pub answers_names : (base : ℕ) (a : DeltaAnswer) (v : ℕ) → IsDeltaEnd base a → NamesPin a v → AnswersPin a v
answers_names base (Ended (answer.Complete version)) v end x = absurd end
answers_names base (Ended (answer.PinGone pin oldest)) v end x = x
answers_names base a v end x = tt

pub bounded_map : (n tries limit : ℕ) (token : List ℕ) (base : ℕ) (first : Option StageState) (P Q : ℕ → Type 0) (h : HubState) → ((v : ℕ) → P v → Q v) → DeltaBounded n tries limit token base first P h → DeltaBounded n tries limit token base first Q h
bounded_map n tries limit token base (Some s) P Q h f b = b
bounded_map n tries limit token base None P Q h f b = ⊎_elim (λ (few : n ≤ tries). inl few) (λ x. inr (x.0, f x.0 x.1, x.2)) b

pub end_pin : (base : ℕ) (a : DeltaAnswer) (c : Copy) (h i : HubState) (v : ℕ) → IsDeltaEnd base a → IsNewPin (NamesPinIf (Some a)) c h i v → IsNewPin (AnswersPin a) c h i v
end_pin base a c h i v end x = record { newest = x.newest; standing = x.standing; named = answers_names base a v end x.named; stage = x.stage }

stage_pin : (o : Option Stage) (st : StageState) (v : ℕ) → option_map state_of o ≡ Some st → IfSome o (λ s. s.pin ≡ v) → v ≡ st.pin
stage_pin None st v e x = absurd (none-some _ e)
stage_pin (Some s) st v e x = sym x ∙ ap (λ (y : StageState). y.pin) (same_Some _ _ e)

swapped_stage : (c : Copy) (o : Option Stage) (st : StageState) → option_map state_of o ≡ Some st → (swapped c o).stage ≡ None
swapped_stage c None st e = absurd (none-some _ e)
swapped_stage c (Some s) st e = refl

no_stage : (v : ℕ) (o : Option Stage) → o ≡ None → IfSome o (λ s. s.pin ≡ v)
no_stage v o e = subst (λ (o : Option Stage). IfSome o (λ s. s.pin ≡ v)) (sym e) tt

pub swap_pin : (e : SyncAnswer) (st : StageState) (c a : Copy) (h i : HubState) (v : ℕ) → stage_of c ≡ Some st → SwapsIn e st.pin c a → IsNewPin (NamesPinIf None) c h i v → IsNewPin (AnswersPin (Ended e)) a h i v
swap_pin (answer.Complete version) st c a h i v is x y = record {
  newest = y.newest;
  standing = y.standing;
  named = stage_pin c.stage st v is y.stage ∙ sym x.0;
  stage = no_stage v a.stage (ap (λ (d : Copy). d.stage) x.1 ∙ swapped_stage c c.stage st is);
}
swap_pin answer.KeeperFault st c a h i v is x y = record {
  newest = y.newest;
  standing = y.standing;
  named = tt;
  stage = ⊎_elim (λ (e : a ≡ c). subst (λ (d : Copy). IfSome d.stage (λ s. s.pin ≡ v)) (sym e) y.stage)
      (λ (e : a ≡ copy_after Swap c). no_stage v a.stage (ap (λ (d : Copy). d.stage) e ∙ swapped_stage c c.stage st is)) x;
}
swap_pin answer.NoMemory st c a h i v is x y = record { newest = y.newest; standing = y.standing; named = tt; stage = subst (λ (d : Copy). IfSome d.stage (λ s. s.pin ≡ v)) (sym x) y.stage }
swap_pin e st c a h i v is x y = absurd x

-- ---- marks

pub delta_marks : (token : List ℕ) (a : DeltaAnswer) (b c : Copy) (t : LinkState) → DeltaLeaves token a b c → MarksTold b t → MarksTold c t
delta_marks token (Ended a) b c t leaves marks = marks_kept token a b c t leaves marks
delta_marks token NoBase b c t leaves marks = subst (λ d. MarksTold d t) (sym leaves) marks
delta_marks token (BaseGone held oldest) b c t leaves marks = marks_kept token answer.HubFault b c t leaves.1 marks

-- ---- completeness

pub base_stands : (base : ℕ) (token : List ℕ) (c : Copy) (h : HubState) → CopyFits c h → HasBase base token c → base < length h.published
base_stands base token c h fits has = held_stands c.held c.stage h base token fits.held has

same_base : (o : Option Held) (m n : ℕ) (token : List ℕ) → IsBase m token o → IsBase n token o → m ≡ n
same_base None m n token x y = absurd x
same_base (Some held) m n token x y = sym x.0 ∙ y.0

pub one_base : (m n : ℕ) (token : List ℕ) (c : Copy) → HasBase m token c → HasBase n token c → m ≡ n
one_base m n token c x y = same_base c.held m n token x y

-- what is said of a version that is held
pub some_held : (S : Copy → Type 0) (token : List ℕ) (o : Option ℕ) (base : ℕ) → IfSome o (λ base. (c : Copy) → S c → HasBase base token c) → o ≡ Some base → (c : Copy) → S c → HasBase base token c
some_held S token o base x is = subst (λ (o : Option ℕ). IfSome o (λ base. (c : Copy) → S c → HasBase base token c)) is x
