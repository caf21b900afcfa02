-- The parts of a synchronisation make the whole.
use Rattle.std.proofs.Common.{◌≡◌, ◌≢◌, ◌+◌, ◌≤◌, ◌⊎◌, inl, inr, ⊎_elim, ℕ, Bool, true, false, List, length, Option}
use Rattle.std.proofs.Common.{Some, None, Ok, Err, refl, sym, ◌∙◌, ap, subst, arith}
use Rattle.std.specs.Prelude.{if◌then◌else◌, option_map, bytes_eq}
use Rattle.std.proofs.lemmas.List.{take_all}
use Rattle.std.proofs.lemmas.Option.{same_Some}
use Rattle.std.proofs.lemmas.Slice.Eq.{bytes_eq-Decides}
use Rattle.keeper_memory.specs.copy.Changes.{copy_after, held_of, swapped}
use Rattle.keeper_memory.specs.copy.Copies.{Copy, Held, Stage}
use Rattle.keeper_memory.specs.copy.Lists.{kind_count}
use Rattle.keeper_memory.specs.copy.States.{stage_of, state_of}
use Rattle.keeper_memory.specs.declared.copy.change.CopyChange.TheVariants.{Run, Drop, Swap}
use Rattle.keeper_memory.specs.declared.copy.state.CopyState.{CopyState}
use Rattle.keeper_memory.specs.declared.copy.state.StageState.{StageState}
use Rattle.keeper_memory.specs.declared.copy.state.TheConstants.{LAST}
use Rattle.exchange_link.specs.Agreement.{CopyFits, HeldFits, HeldFitsIf, NoneAbove, StageAgrees, StageFits}
use Rattle.exchange_link.specs.Agreement.{StageFitsIf}
use Rattle.exchange_link.specs.Causes.{AsksOn, CauseOf, LastLaw, IsAside, kept_of}
use Rattle.exchange_link.specs.Completeness.{IsDone}
use Rattle.exchange_link.specs.Exchanges.{LinkState}
use Rattle.hub_spec.specs.views.Cuts.{cut}
use Rattle.exchange_link.specs.Sayings.{knows}
use Rattle.hub_spec.specs.rules.Checks.{version_at}
use Rattle.exchange_link.specs.Places.{kinds_of}
use Rattle.exchange_link.specs.Synchronised.{CompleteAt, HeldLaw, HeldTold, IsPinOf, Leaves, MayStay, StageLaw, StageOn}
use Rattle.exchange_link.specs.Synchronised.{Synchronised, held_at, own_stage, own_state}
use Rattle.exchange_link.specs.declared.answer.SyncAnswer.{SyncAnswer}
use Rattle.exchange_link.specs.declared.answer.SyncAnswer.TheVariants as answer
use Rattle.exchange_link.proofs.CutLemmas.{cut_whole}
use Rattle.exchange_link.proofs.FitLemmas.{held_alone}
use Rattle.roster_types.specs.Records.{Record}
use Rattle.version_core.specs.HubStates.{HubState}
use Rattle.exchange_link.proofs.RunLemmas.{above_more, below_from, ready_from}
use Rattle.exchange_link.proofs.StageLemmas.{on_token}
use Rattle.exchange_link.specs.Beginning.{Enters, EntersRun}
use Rattle.exchange_link.specs.declared.beginning.NoRun.{NoRun}
use Rattle.exchange_link.specs.declared.beginning.NoRun.TheVariants as no_run
use Rattle.consumer_sync.specs.Filling.{CauseIf, Ends, HasToken, IsEnd, IsEndIf, LastAsked, PinLaw, StageEnds}
use Rattle.exchange_link.specs.Requests.{Asks, IsReady}
use Rattle.consumer_sync.specs.Requests.{IsUnmarked}
use Rattle.consumer_sync.specs.Starting.{Aborts, Drops, StartCause, SwapsIn, run_begun, unentered, without_other}

-- a beginning that failed
fail_fits : (token : List ℕ) (b a : Copy) (h : HubState) → Aborts token b a → CopyFits b h → CopyFits a h
fail_fits token b a h f x = record {
  stage = ⊎_elim (λ (e : a.stage ≡ b.stage). subst (λ o. StageFitsIf o h) (sym e) x.stage) (λ e. subst (λ o. StageFitsIf o h) (sym e.1) tt) f.stage;
  held = subst (λ o. HeldFitsIf o a.stage h) (sym f.held)
      (⊎_elim (λ (e : a.stage ≡ b.stage). subst (λ o. HeldFitsIf b.held o h) (sym e) x.held) (λ e. subst (λ o. HeldFitsIf b.held o h) (sym e.1) (held_alone b.held b.stage h x.held)) f.stage);
}

fail_agree : (token : List ℕ) (b a : Copy) (t : LinkState) → Aborts token b a → StageAgrees b t → StageAgrees a t
fail_agree token b a t f h = record {
  differ = h.differ;
  below = ⊎_elim (λ (e : a.run ≡ b.run). above_more b.run a.run t.sent (omega (arith, e)) h.below) (λ (e : a.run ≡ b.run + 1). above_more b.run a.run t.sent (omega (arith, e)) h.below) f.run;
  fits = fail_fits token b a t.hub f h.fits;
}

pub fail_stage : (token : List ℕ) (b a : Copy) → Aborts token b a → (StageOn token (own_stage token b.stage) a.stage) ⊎ (a.stage ≡ b.stage)
fail_stage token b a f = ⊎_elim (λ (e : a.stage ≡ b.stage). inr e)
    (λ e. inl (subst (λ o. StageOn token o a.stage) (sym e.0) (subst (λ o. StageOn token None o) (sym e.1) tt))) f.stage

fail_leaves : (token : List ℕ) (e : SyncAnswer) (b a : Copy) → MayStay e → Aborts token b a → Leaves token e b a
fail_leaves token answer.KeeperFault b a m f = record { run = f.run; entries = f.entries; last_number = f.last_number; held = inl f.held; stage = ⊎_elim (λ x. inl x) (λ x. inr (inr (tt, x))) (fail_stage token b a f) }
fail_leaves token answer.NoMemory b a m f = record { run = f.run; entries = f.entries; last_number = f.last_number; held = f.held; stage = ⊎_elim (λ x. inl x) (λ x. inr (inr (tt, x))) (fail_stage token b a f) }
fail_leaves token e b a m f = absurd m

fail_held : (token : List ℕ) (e : SyncAnswer) (b a : Copy) (t : LinkState) → MayStay e → Aborts token b a → HeldTold token e b t a t
fail_held token answer.KeeperFault b a t m f = inl f.held
fail_held token answer.NoMemory b a t m f = f.held
fail_held token e b a t m f = absurd m

fail_sync : (token : List ℕ) (e : SyncAnswer) (b a : Copy) (t : LinkState) → MayStay e → Aborts token b a → StageAgrees b t → Synchronised token e b t a t
fail_sync token e b a t m f h = record { leaves = fail_leaves token e b a m f; agree = fail_agree token b a t f h; held = fail_held token e b a t m f }

pub enter_fails : (token : List ℕ) (b a : Copy) → EntersRun b a → Aborts token b a
enter_fails token b a x = ⊎_elim
    (λ (e : a ≡ b). subst (λ (d : Copy). Aborts token b d) (sym e) (record { run = inl refl; held = refl; entries = refl; last_number = refl; stage = inl refl }))
    (λ (e : a ≡ copy_after (Run (b.run + 1)) b). subst (λ (d : Copy). Aborts token b d) (sym e) (record { run = inr refl; held = refl; entries = refl; last_number = refl; stage = inl refl })) x

last_sync : (token : List ℕ) (b a : Copy) (t : LinkState) → a ≡ b → StageAgrees b t → Synchronised token answer.LastRun b t a t
last_sync token b a t e h = subst (λ (d : Copy). Synchronised token answer.LastRun b t d t) (sym e)
    (record { leaves = record { run = inl refl; entries = refl; last_number = refl; held = refl; stage = refl }; agree = h; held = refl })

-- the run isn't entered
pub enter_sync : (token : List ℕ) (e : NoRun) (b a : Copy) (t : LinkState) → Enters (Err e) b a → StageAgrees b t → Synchronised token (unentered e) b t a t
enter_sync token no_run.LastRun b a t x h = last_sync token b a t x.1 h
enter_sync token no_run.KeeperFault b a t x h = fail_sync token answer.KeeperFault b a t tt (enter_fails token b a x) h
enter_sync token no_run.NoMemory b a t x h = fail_sync token answer.NoMemory b a t tt (enter_fails token b a x) h

pub enter_leaves : (token : List ℕ) (e : NoRun) (b a : Copy) → Enters (Err e) b a → Leaves token (unentered e) b a
enter_leaves token no_run.LastRun b a x = subst (λ (d : Copy). Leaves token answer.LastRun b d) (sym x.1) (record { run = inl refl; entries = refl; last_number = refl; held = refl; stage = refl })
enter_leaves token no_run.KeeperFault b a x = fail_leaves token answer.KeeperFault b a tt (enter_fails token b a x)
enter_leaves token no_run.NoMemory b a x = fail_leaves token answer.NoMemory b a tt (enter_fails token b a x)

-- its cause
pub enter_cause : (K : Type 0) (e : NoRun) → (e ≡ no_run.KeeperFault → K) → StartCause K (unentered e)
enter_cause K no_run.LastRun k = tt
enter_cause K no_run.KeeperFault k = k refl
enter_cause K no_run.NoMemory k = tt

-- the same of the answer that the code gives
pub unentered_cause : {K : Type 0} {e : NoRun} {a : SyncAnswer} → a ≡ unentered e → (e ≡ no_run.KeeperFault → K) → StartCause K a
unentered_cause {K} {e} {a} is cause = subst (λ (a : SyncAnswer). StartCause K a) (sym is) (enter_cause K e cause)

stay_from : (K : Type 0) (e : SyncAnswer) → e ≢ answer.LastRun → StartCause K e → MayStay e
stay_from K answer.LastRun n k = absurd (n refl)
stay_from K answer.KeeperFault n k = tt
stay_from K answer.NoMemory n k = tt
stay_from K e n k = absurd k

pub drop_fails : (token : List ℕ) (b m a : Copy) (e : SyncAnswer) → m ≡ copy_after (Run (b.run + 1)) b → Drops token (Err e) m a → Aborts token b a
drop_fails token b m a e em x = ⊎_elim
    (λ (h : a ≡ m). subst (λ (d : Copy). Aborts token b d) (sym (h ∙ em)) (record { run = inr refl; held = refl; entries = refl; last_number = refl; stage = inl refl }))
    (λ h. subst (λ (d : Copy). Aborts token b d) (sym (h.1 ∙ ap (copy_after Drop) em))
    (record { run = inr refl; held = refl; entries = refl; last_number = refl; stage = inr (ap (λ (d : Copy). own_stage token d.stage) (sym em) ∙ h.0, refl) })) x

-- the stage under another token isn't dropped
pub drop_sync : (token : List ℕ) (run : ℕ) (e : SyncAnswer) (b m a : Copy) (s : CopyState) (t : LinkState) (K : Type 0) → (e ≢ answer.LastRun) × StartCause K e → Enters (Ok s) b m → Drops token (Err e) m a → StageAgrees b t → Synchronised token e b t a t
drop_sync token run e b m a s t K k x y h = fail_sync token e b a t (stay_from K e k.0 k.1) (drop_fails token b m a e x.1 y) h

own_if : (b : Bool) (s : Stage) (h : HubState) → StageFits s h → StageFitsIf (if b then Some s else None) h
own_if true s h x = x
own_if false s h x = tt

own_agrees : (token : List ℕ) (o : Option Stage) (h : HubState) → StageFitsIf o h → StageFitsIf (own_stage token o) h
own_agrees token None h x = tt
own_agrees token (Some s) h x = own_if (bytes_eq s.token token) s h x

own_held_if : (b : Bool) (o : Option Held) (s : Stage) (h : HubState) → HeldFitsIf o (Some s) h → HeldFitsIf o (if b then Some s else None) h
own_held_if true o s h x = x
own_held_if false o s h x = held_alone o (Some s) h x

own_held : (token : List ℕ) (o : Option Held) (stage : Option Stage) (h : HubState) → HeldFitsIf o stage h → HeldFitsIf o (own_stage token stage) h
own_held token o None h x = x
own_held token o (Some s) h x = own_held_if (bytes_eq s.token token) o s h x

-- the copy with which the loop begins
pub begun_is : (token : List ℕ) (b m a : Copy) (s : CopyState) (o : Option StageState) → Enters (Ok s) b m → Drops token (Ok o) m a → a ≡ run_begun token b
begun_is token b m a s o x y = y ∙ ap (without_other token) x.1

-- what the loop is given
pub entry : (token : List ℕ) (run : ℕ) (b a : Copy) (t : LinkState) → a ≡ run_begun token b → run ≡ b.run + 1 → StageAgrees b t → CopyFits a t.hub × IsReady run 0 t.sent
entry token run b a t e er h = (
  subst (λ (d : Copy). CopyFits d t.hub) (sym e) (record { stage = own_agrees token b.stage t.hub h.fits.stage; held = own_held token b.held b.stage t.hub h.fits.held }),
  ready_from b.run run t.sent er h.differ h.below,
)

fill_stage : (token : List ℕ) (e : SyncAnswer) (old new : Option Stage) → IsEnd e → StageEnds token (Some e) (own_stage token old) new → StageLaw token e old new
fill_stage token (answer.Complete v) old new c x = absurd c
fill_stage token answer.LastRun old new c x = absurd c
fill_stage token (answer.PinGone p o) old new c x = x
fill_stage token answer.KeeperFault old new c x = ⊎_elim (λ y. inl y) (λ y. inr (inl (tt, y))) x
fill_stage token e old new c x = inl x

fill_held : (e : SyncAnswer) (b a : Copy) → IsEnd e → a.held ≡ b.held → HeldLaw e b a
fill_held (answer.Complete v) b a c x = absurd c
fill_held answer.KeeperFault b a c x = inl x
fill_held e b a c x = x

fill_told : (token : List ℕ) (e : SyncAnswer) (b a : Copy) (t u : LinkState) → IsEnd e → a.held ≡ b.held → HeldTold token e b t a u
fill_told token (answer.Complete v) b a t u c x = absurd c
fill_told token answer.KeeperFault b a t u c x = inl x
fill_told token e b a t u c x = x

-- the loop ended with an answer: over any link
pub fill_leaves : (token : List ℕ) (e : SyncAnswer) (b d a : Copy) → d ≡ run_begun token b → IsEnd e → Ends token (Some e) d a → Leaves token e b a
fill_leaves token e b d a ed c x =
    let y : Ends token (Some e) (run_begun token b) a = subst (λ (d : Copy). Ends token (Some e) d a) ed x in
    record { run = inr y.run; entries = y.entries; last_number = y.last_number; held = fill_held e b a c y.held; stage = fill_stage token e b.stage a.stage c y.stage }

agree_after : (token : List ℕ) (run n : ℕ) (r : Option SyncAnswer) (b a : Copy) (t u : LinkState) → Ends token r (run_begun token b) a → run ≡ b.run + 1 → Asks run 0 n IsUnmarked t u → StageAgrees b t → CopyFits a u.hub → StageAgrees a u
agree_after token run n r b a t u y er asks h s =
    let ready = asks.ready (ready_from b.run run t.sent er h.differ h.below) in
    record { differ = ready.differ; below = subst (λ x. NoneAbove x u.sent) (er ∙ sym y.run) (below_from run n u.sent ready.spent); fits = s }

-- and over one that tells
pub fill_sync : (token : List ℕ) (run n : ℕ) (e : SyncAnswer) (b d a : Copy) (t u : LinkState) → d ≡ run_begun token b → IsEnd e → Ends token (Some e) d a → run ≡ b.run + 1
    → Asks run 0 n IsUnmarked t u → StageAgrees b t → CopyFits a u.hub → Synchronised token e b t a u
fill_sync token run n e b d a t u ed c x er asks h s =
    let y : Ends token (Some e) (run_begun token b) a = subst (λ (d : Copy). Ends token (Some e) d a) ed x in
    record { leaves = fill_leaves token e b d a ed c x; agree = agree_after token run n (Some e) b a t u y er asks h s; held = fill_told token e b a t u c y.held }

pin_if : (b : Bool) (f : Stage) (h : HubState) (s : StageState) → PinLaw (if b then Some (state_of f) else None) h (Some s) → IsPinOf (if b then Some f else None) h s.pin
pin_if true f h s x = x
pin_if false f h s x = x

-- the law of the pin, as the whole call has it
pub pin_law : (token : List ℕ) (o : Option Stage) (h : HubState) (s : StageState) → PinLaw (own_state token (option_map state_of o)) h (Some s) → IsPinOf (own_stage token o) h s.pin
pin_law token None h s x = x
pin_law token (Some f) h s x = pin_if (bytes_eq f.token token) f h s x

stage_some : (o : Option Stage) (st : StageState) → option_map state_of o ≡ Some st → (s : Stage) × (o ≡ Some s) × (state_of s ≡ st)
stage_some None st e = cc
stage_some (Some s) st e = (s, refl, same_Some _ _ e)

-- all kinds of a stage are the version's
whole : (s : Stage) (h : HubState) → StageFits s h → length s.done ≡ kind_count → s.done ≡ cut (version_at h s.pin) s.token
whole s h x all =
    let V = version_at h s.pin in
    sym x.fits.done ∙ take_all (length s.done) (cut V s.token) (omega (arith, cut_whole V s.token, all))

-- the swapped copy
abbrev pub swapped_in : Copy → Stage → Copy
swapped_in c s = record c { held = Some (held_of s); stage = None }

complete_at : (token : List ℕ) (b c : Copy) (s : Stage) (t u : LinkState) → StageFits s u.hub → length s.done ≡ kind_count → s.token ≡ token → IsPinOf (own_stage token b.stage) t.hub s.pin → CompleteAt s.pin token b t (swapped_in c s) u
complete_at token b c s t u x all et p = record {
  held = ap (λ (l : List (List Record)). let h : Option Held = Some (record { version = s.pin; token = Some s.token; lists = l }) in h) (whole s u.hub x all) ∙ ap (λ (t : List ℕ). Some (held_at s.pin t u.hub)) et;
  stage = refl;
  standing = x.standing;
  known = subst (λ t. knows (version_at u.hub s.pin) t ≡ true) et x.fits.known;
  pin = p;
}

-- what is known when all kinds are staged
pub record Ready (token : List ℕ) (run n : ℕ) (b c : Copy) (st : StageState) (t u : LinkState) : Type 0 where
  pub ends : Ends token None (run_begun token b) c
  pub state : stage_of c ≡ Some st
  pub all : st.kinds_done ≡ kind_count
  pub run_is : run ≡ b.run + 1
  pub asks : Asks run 0 n IsUnmarked t u
  pub agree : StageAgrees b t
  pub fits : CopyFits c u.hub
  pub law : PinLaw (own_state token (stage_of b)) t.hub (Some st)

swap_complete : (token : List ℕ) (run n : ℕ) (b c : Copy) (st : StageState) (t u : LinkState) (s : Stage) → Ready token run n b c st t u → c.stage ≡ Some s → state_of s ≡ st → CompleteAt st.pin token b t (swapped_in c s) u
swap_complete token run n b c st t u s r e es =
    let on : StageOn token (own_stage token b.stage) (Some s) = subst (λ o. StageOn token (own_stage token b.stage) o) e (r.ends).stage in
    let ag : StageFits s u.hub = subst (λ o. StageFitsIf o u.hub) e r.fits.stage in
    let all : length s.done ≡ kind_count = ap (λ (x : StageState). x.kinds_done) es ∙ r.all in
    let p : st.pin ≡ s.pin = ap (λ (x : StageState). x.pin) (sym es) in
    subst (λ v. CompleteAt v token b t (swapped_in c s) u) (sym p)
    (complete_at token b c s t u ag all (on_token token b.stage s on) (subst (λ v. IsPinOf (own_stage token b.stage) t.hub v) p (pin_law token b.stage t.hub st r.law)))

swapped_fits : (s : Stage) (h : HubState) → StageFits s h → length s.done ≡ kind_count → HeldFits (held_of s) None h
swapped_fits s h x all = record { standing = x.standing; below = tt; seen = record { known = x.fits.known; same = whole s h x all } }

swap_agree : (token : List ℕ) (run n : ℕ) (b c : Copy) (st : StageState) (t u : LinkState) (s : Stage) → Ready token run n b c st t u → c.stage ≡ Some s → state_of s ≡ st → StageAgrees (swapped_in c s) u
swap_agree token run n b c st t u s r e es =
    let x = agree_after token run n None b c t u r.ends r.run_is r.asks r.agree r.fits in
    let fits : StageFits s u.hub = subst (λ o. StageFitsIf o u.hub) e r.fits.stage in
    record { differ = x.differ; below = x.below; fits = record { stage = tt; held = swapped_fits s u.hub fits (ap (λ (x : StageState). x.kinds_done) es ∙ r.all) } }

-- a stage that was swapped in
swap_done : (token : List ℕ) (run n : ℕ) (b c : Copy) (st : StageState) (t u : LinkState) (s : Stage) → Ready token run n b c st t u → c.stage ≡ Some s → state_of s ≡ st → Synchronised token (answer.Complete st.pin) b t (swapped_in c s) u
swap_done token run n b c st t u s r e es = record {
  leaves = record {
    run = inr (r.ends).run;
    entries = (r.ends).entries;
    last_number = (r.ends).last_number;
    held = (s, record { held = refl; pin = ap (λ (x : StageState). x.pin) es; all = ap (λ (x : StageState). x.kinds_done) es ∙ r.all; stage = refl });
    stage = inr (inl (tt, refl));
  };
  agree = swap_agree token run n b c st t u s r e es;
  held = swap_complete token run n b c st t u s r e es;
}

swap_broken : (token : List ℕ) (run n : ℕ) (b c : Copy) (st : StageState) (t u : LinkState) (s : Stage) → Ready token run n b c st t u → c.stage ≡ Some s → state_of s ≡ st → Synchronised token answer.KeeperFault b t (swapped_in c s) u
swap_broken token run n b c st t u s r e es = record {
  leaves = record {
    run = inr (r.ends).run;
    entries = (r.ends).entries;
    last_number = (r.ends).last_number;
    held = inr (s, record { held = refl; pin = refl; all = ap (λ (x : StageState). x.kinds_done) es ∙ r.all; stage = refl });
    stage = inr (inl (tt, refl));
  };
  agree = swap_agree token run n b c st t u s r e es;
  held = inr (st.pin, swap_complete token run n b c st t u s r e es);
}

kept_sync : (token : List ℕ) (run n : ℕ) (b c : Copy) (st : StageState) (t u : LinkState) (e : SyncAnswer) → MayStay e → Ready token run n b c st t u → Synchronised token e b t c u
kept_sync token run n b c st t u answer.KeeperFault m r = record {
  leaves = record { run = inr (r.ends).run; entries = (r.ends).entries; last_number = (r.ends).last_number; held = inl (r.ends).held; stage = inl (r.ends).stage };
  agree = agree_after token run n None b c t u r.ends r.run_is r.asks r.agree r.fits;
  held = inl (r.ends).held;
}
kept_sync token run n b c st t u answer.NoMemory m r = record {
  leaves = record { run = inr (r.ends).run; entries = (r.ends).entries; last_number = (r.ends).last_number; held = (r.ends).held; stage = inl (r.ends).stage };
  agree = agree_after token run n None b c t u r.ends r.run_is r.asks r.agree r.fits;
  held = (r.ends).held;
}
kept_sync token run n b c st t u e m r = absurd m

swap_to : (c : Copy) (s : Stage) → c.stage ≡ Some s → copy_after Swap c ≡ swapped_in c s
swap_to c s e = ap (swapped c) e

-- the last step
pub swap_sync : (token : List ℕ) (run n : ℕ) (b c a : Copy) (st : StageState) (t u : LinkState) (e : SyncAnswer) → Ready token run n b c st t u → SwapsIn e st.pin c a → Synchronised token e b t a u
swap_sync token run n b c a st t u (answer.Complete v) r x =
    let s = stage_some c.stage st r.state in
    subst (λ (v : ℕ). Synchronised token (answer.Complete v) b t a u) (sym x.0)
    (subst (λ (d : Copy). Synchronised token (answer.Complete st.pin) b t d u) (sym (x.1 ∙ swap_to c s.0 s.1)) (swap_done token run n b c st t u s.0 r s.1 s.2))
swap_sync token run n b c a st t u answer.KeeperFault r x =
    let s = stage_some c.stage st r.state in
    ⊎_elim (λ (h : a ≡ c). subst (λ (d : Copy). Synchronised token answer.KeeperFault b t d u) (sym h) (kept_sync token run n b c st t u answer.KeeperFault tt r))
    (λ (h : a ≡ copy_after Swap c). subst (λ (d : Copy). Synchronised token answer.KeeperFault b t d u) (sym (h ∙ swap_to c s.0 s.1)) (swap_broken token run n b c st t u s.0 r s.1 s.2)) x
swap_sync token run n b c a st t u answer.NoMemory r x = subst (λ (d : Copy). Synchronised token answer.NoMemory b t d u) (sym x) (kept_sync token run n b c st t u answer.NoMemory tt r)
swap_sync token run n b c a st t u e r x = absurd x

-- completeness at the beginning
pub enter_done : (e : NoRun) (b a : Copy) (K : Type 0) → (e ≡ no_run.KeeperFault → K) → Enters (Err e) b a → (K → ⊥) → (b.run ≡ LAST → ⊥) → IsDone (unentered e)
enter_done no_run.LastRun b a K k x quiet low = absurd (low x.0)
enter_done no_run.KeeperFault b a K k x quiet low = absurd (quiet (k refl))
enter_done no_run.NoMemory b a K k x quiet low = tt

pub drop_done : (e : SyncAnswer) (K : Type 0) → (e ≢ answer.LastRun) × StartCause K e → (K → ⊥) → IsDone e
drop_done answer.LastRun K k quiet = absurd (k.0 refl)
drop_done answer.KeeperFault K k quiet = absurd (quiet k.1)
drop_done answer.NoMemory K k quiet = tt
drop_done e K k quiet = absurd k.1

-- how the kinds end, from the copy with which they begin
ends_begun : (token : List ℕ) (b d c : Copy) → d ≡ run_begun token b
    → Ends token None d c → Ends token None (run_begun token b) c
ends_begun token b d c is ends = subst (λ (d : Copy). Ends token None d c) is ends

-- the last step over any link
pub swap_leaves : (token : List ℕ) (b d c a : Copy) (st : StageState) (e : SyncAnswer) → d ≡ run_begun token b → Ends token None d c → stage_of c ≡ Some st → st.kinds_done ≡ kind_count → SwapsIn e st.pin c a → Leaves token e b a
swap_leaves token b d c a st (answer.Complete v) ed x0 state all x =
    let y = ends_begun token b d c ed x0 in
    let s = stage_some c.stage st state in
    subst (λ (v : ℕ). Leaves token (answer.Complete v) b a) (sym x.0)
    (subst (λ (d : Copy). Leaves token (answer.Complete st.pin) b d) (sym (x.1 ∙ swap_to c s.0 s.1)) (record {
      run = inr y.run;
      entries = y.entries;
      last_number = y.last_number;
      held = (s.0, record { held = refl; pin = ap (λ (x : StageState). x.pin) s.2; all = ap (λ (x : StageState). x.kinds_done) s.2 ∙ all; stage = refl });
      stage = inr (inl (tt, refl));
    }))
swap_leaves token b d c a st answer.KeeperFault ed x0 state all x =
    let y = ends_begun token b d c ed x0 in
    let s = stage_some c.stage st state in
    ⊎_elim (λ (h : a ≡ c). subst (λ (d : Copy). Leaves token answer.KeeperFault b d) (sym h) (record { run = inr y.run; entries = y.entries; last_number = y.last_number; held = inl y.held; stage = inl y.stage }))
    (λ (h : a ≡ copy_after Swap c). subst (λ (d : Copy). Leaves token answer.KeeperFault b d) (sym (h ∙ swap_to c s.0 s.1)) (record {
      run = inr y.run;
      entries = y.entries;
      last_number = y.last_number;
      held = inr (s.0, record { held = refl; pin = refl; all = ap (λ (x : StageState). x.kinds_done) s.2 ∙ all; stage = refl });
      stage = inr (inl (tt, refl));
    })) x
swap_leaves token b d c a st answer.NoMemory ed x0 state all x =
    let y = ends_begun token b d c ed x0 in
    subst (λ (d : Copy). Leaves token answer.NoMemory b d) (sym x) (record { run = inr y.run; entries = y.entries; last_number = y.last_number; held = y.held; stage = inl y.stage })
swap_leaves token b d c a st e ed x0 state all x = absurd x

-- an answer of the pages is one of their own
pub cause_end : (asked : LastAsked) (missed broke : Type 0) (result : Option SyncAnswer) → CauseIf asked missed broke result → IsEndIf result
cause_end asked missed broke None c = tt
cause_end asked missed broke (Some (answer.Complete v)) c = c
cause_end asked missed broke (Some answer.LastRun) c = c
cause_end asked missed broke (Some a) c = tt

pub cause_whole : (asked : LastAsked) (missed broke more : Type 0) (a : SyncAnswer) → (broke → more) → CauseIf asked missed broke (Some a)
    → CauseOf asked.stage asked.limit asked.own missed more a
cause_whole asked missed broke more (answer.Complete v) f c = absurd c
cause_whole asked missed broke more answer.LastRun f c = absurd c
cause_whole asked missed broke more answer.KeeperFault f c = f c
cause_whole asked missed broke more a f c = c

own_token_if : (b : Bool) (s : StageState) (token : List ℕ) → (b ≡ true → s.token ≡ token) → HasToken token (if b then Some s else None)
own_token_if true s token e = e refl
own_token_if false s token e = tt

-- what is left is under the token
pub own_token : (token : List ℕ) (o : Option StageState) → HasToken token (own_state token o)
own_token token None = tt
own_token token (Some s) = own_token_if (bytes_eq s.token token) s token (λ h. (bytes_eq-Decides s.token token).0 h)

own_few_if : (b : Bool) (s : StageState) → s.kinds_done ≤ kind_count → kinds_of (if b then Some s else None) ≤ kind_count
own_few_if true s le = le
own_few_if false s le = omega arith

pub own_few : (token : List ℕ) (o : Option StageState) → kinds_of o ≤ kind_count → kinds_of (own_state token o) ≤ kind_count
own_few token None le = le
own_few token (Some s) le = own_few_if (bytes_eq s.token token) s le

-- ---- causes at the beginning and at the end

pub start_cause : (limit : ℕ) (kept : List ℕ) (missed broke more : Type 0) (e : SyncAnswer) → (broke → more) → StartCause broke e → CauseOf None limit (kept_of kept 0 0) missed more e
start_cause limit kept missed broke more answer.LastRun f k = tt
start_cause limit kept missed broke more answer.KeeperFault f k = f k
start_cause limit kept missed broke more answer.NoMemory f k = tt
start_cause limit kept missed broke more e f k = absurd k

pub start_on : (broke : Type 0) (e : SyncAnswer) → StartCause broke e → AsksOn e → ⊥
start_on broke answer.LastRun k on = on
start_on broke answer.KeeperFault k on = on
start_on broke answer.NoMemory k on = on
start_on broke e k on = k

abbrev pub IsFinish : SyncAnswer → ℕ → Type 0
IsFinish result pin = (result ≡ answer.Complete pin) ⊎ ((result ≡ answer.KeeperFault) ⊎ (result ≡ answer.NoMemory))

pub finish_by : (P : SyncAnswer → Type 0) (result : SyncAnswer) (pin : ℕ) → IsFinish result pin → P (answer.Complete pin) → (result ≡ answer.KeeperFault → P answer.KeeperFault) → P answer.NoMemory → P result
finish_by P result pin x a b d = ⊎_elim
    (λ (e : result ≡ answer.Complete pin). subst P (sym e) a)
    (λ y. ⊎_elim (λ (e : result ≡ answer.KeeperFault). subst P (sym e) (b e)) (λ (e : result ≡ answer.NoMemory). subst P (sym e) d) y) x

run_swapped : (c : Copy) (o : Option Stage) → (swapped c o).run ≡ c.run
run_swapped c None = refl
run_swapped c (Some s) = refl

pub swap_run : (e : SyncAnswer) (pin : ℕ) (c a : Copy) → SwapsIn e pin c a → a.run ≡ c.run
swap_run (answer.Complete v) pin c a x = ap (λ (d : Copy). d.run) x.1 ∙ run_swapped c c.stage
swap_run answer.KeeperFault pin c a x = ⊎_elim (λ (h : a ≡ c). ap (λ (d : Copy). d.run) h) (λ (h : a ≡ copy_after Swap c). ap (λ (d : Copy). d.run) h ∙ run_swapped c c.stage) x
swap_run answer.NoMemory pin c a x = ap (λ (d : Copy). d.run) x
swap_run e pin c a x = absurd x

-- ---- the last run

start_aside : (broke : Type 0) (e : SyncAnswer) → StartCause broke e → (e ≡ answer.LastRun) ⊎ IsAside e
start_aside broke answer.LastRun k = inl refl
start_aside broke answer.KeeperFault k = inr tt
start_aside broke answer.NoMemory k = inr tt
start_aside broke e k = absurd k

pub last_entered : (e : NoRun) (b a : Copy) → Enters (Err e) b a → LastLaw (unentered e) b a
last_entered no_run.LastRun b a x = record { only = λ h. x; exact = λ _. inl refl }
last_entered no_run.KeeperFault b a x = record { only = λ h. cc; exact = λ _. inr tt }
last_entered no_run.NoMemory b a x = record { only = λ h. cc; exact = λ _. inr tt }

pub last_dropped : (e : SyncAnswer) (b a : Copy) (broke : Type 0) → (e ≢ answer.LastRun) × StartCause broke e → LastLaw e b a
last_dropped e b a broke k = record { only = λ h. absurd (k.0 h); exact = λ _. start_aside broke e k.1 }

end_other : (e : SyncAnswer) → IsEnd e → e ≢ answer.LastRun
end_other e i h = subst (λ (e : SyncAnswer). IsEnd e) h i

pub last_low : (e : SyncAnswer) (b a : Copy) (run : ℕ) → e ≢ answer.LastRun → run ≡ b.run + 1 → run ≤ LAST → LastLaw e b a
last_low e b a run n e2 le = record { only = λ h. absurd (n h); exact = λ h. absurd (omega (arith, h, e2, le)) }

pub last_ended : (e : SyncAnswer) (b a : Copy) (run : ℕ) → IsEnd e → run ≡ b.run + 1 → run ≤ LAST → LastLaw e b a
last_ended e b a run i e2 le = last_low e b a run (end_other e i) e2 le

pub finish_other : (result : SyncAnswer) (pin : ℕ) → IsFinish result pin → result ≢ answer.LastRun
finish_other result pin x = finish_by (λ a. a ≢ answer.LastRun) result pin x (λ e. cc) (λ k e. cc) (λ e. cc)
