-- A call's beginning and its end.
use Rattle.std.proofs.Common.{◌≡◌, ◌≢◌, ◌+◌, ◌*◌, ◌≤◌, inl, inr, ⊎_elim, ℕ, List, refl, sym, ◌∙◌, ap, subst, arith}
use Rattle.std.specs.Prelude.{Result, Ok, Err}
use Rattle.keeper_memory.specs.copy.Changes.{Commits, copy_after}
use Rattle.keeper_memory.specs.copy.Copies.{Copy}
use Rattle.keeper_memory.specs.declared.copy.change.CopyChange.TheVariants.{Enter, Run}
use Rattle.exchange_link.specs.Agreement.{CopyFits, HeldFitsIf, NoneAbove, StageFitsIf}
use Rattle.exchange_link.specs.Between.{CopyRun, LinkRun}
use Rattle.exchange_link.specs.Causes.{IsMore}
use Rattle.exchange_link.specs.Exchanges.{LinkState}
use Rattle.exchange_link.specs.Marks.{Agree}
use Rattle.hub_spec.proofs.AgreeLemmas.{entering_keeps}
use Rattle.roster_base.specs.Faults.{Rose}
use Rattle.roster_base.specs.declared.keeper.KeeperError.{KeeperError}
use Rattle.roster_base.specs.declared.keeper.KeeperError.TheVariants as fault
use Rattle.keeper_memory.specs.declared.copy.state.CopyState.{CopyState}
use Rattle.keeper_memory.specs.declared.copy.state.TheConstants.{LAST}
use Rattle.exchange_link.specs.SendCauses.{SendCaused, SendLastLaw}
use Rattle.exchange_link.specs.SendCompleteness.{CanSendAll, IsFine}
use Rattle.exchange_link.specs.Sent.{AllSettled, SendLeaves, SettlesMore, unsettled}
use Rattle.exchange_link.specs.SentTold.{WasSent}
use Rattle.exchange_link.specs.declared.send_answer.SendAnswer.{SendAnswer}
use Rattle.exchange_link.specs.declared.send_answer.SendAnswer.TheVariants as answer
use Rattle.exchange_link.proofs.FitLemmas.{copy_on}
use Rattle.exchange_link.proofs.RunLemmas.{above_more, below_from, ready_from}
use Rattle.exchange_link.specs.Beginning.{Enters, EntersRun}
use Rattle.exchange_link.specs.Requests.{Moved}
use Rattle.exchange_link.specs.declared.beginning.NoRun.{NoRun}
use Rattle.exchange_link.specs.declared.beginning.NoRun.TheVariants as why
use Rattle.consumer_outbox.proofs.WalkLemmas.{settles_none}
use Rattle.consumer_outbox.specs.Sends.{Ready, SoFar, not_begun}
use Rattle.version_core.specs.HubStates.{HubState}
use Rattle.version_core.specs.declared.mark.Write.{Write}

-- a copy with the same stage, which holds the same, fits
fits_same : (before after : Copy) (h : HubState) → after.stage ≡ before.stage → after.held ≡ before.held → CopyFits before h → CopyFits after h
fits_same before after h stage held fits = record {
  stage = subst (λ o. StageFitsIf o h) (sym stage) fits.stage;
  held = subst (λ o. HeldFitsIf o after.stage h) (sym held) (subst (λ o. HeldFitsIf before.held o h) (sym stage) fits.held);
}

-- ---- entering

entered_agrees : (number : ℕ) (write : Write) (before : Copy) (told : LinkState) → number ≡ before.last_number + 1 → Agree before told → Agree (copy_after (Enter number write) before) told
entered_agrees number write before told next agree = record {
  stage = record { differ = agree.stage.differ; below = agree.stage.below; fits = fits_same before (copy_after (Enter number write) before) told.hub refl refl agree.stage.fits };
  marks = entering_keeps before.entries before.last_number number write told.hub told.sent next agree.marks;
}

pub commits_agree : (number : ℕ) (write : Write) (result : Result (Unit {0}) KeeperError) (before after : Copy) (told : LinkState) → number ≡ before.last_number + 1 → Commits (Enter number write) result before after → Agree before told → Agree after told
commits_agree number write (Ok x) before after told next e agree = subst (λ c. Agree c told) (sym e) (entered_agrees number write before told next agree)
commits_agree number write (Err fault.Failed) before after told next x agree = ⊎_elim
    (λ (e : after ≡ before). subst (λ c. Agree c told) (sym e) agree)
    (λ (e : after ≡ copy_after (Enter number write) before). subst (λ c. Agree c told) (sym e) (entered_agrees number write before told next agree)) x
commits_agree number write (Err fault.NoMemory) before after told next e agree = subst (λ c. Agree c told) (sym e) agree

-- ---- no run was entered

same_leaves : (a : SendAnswer) (before after : Copy) → AllSettled a 0 after.entries → after ≡ before → SendLeaves a before after
same_leaves a before after all e = record {
  run = inl (ap (λ (c : Copy). c.run) e);
  held = ap (λ (c : Copy). c.held) e;
  stage = ap (λ (c : Copy). c.stage) e;
  last_number = ap (λ (c : Copy). c.last_number) e;
  count = 0;
  entries = subst (SettlesMore 0 before.entries) (ap (λ (c : Copy). c.entries) (sym e)) (settles_none before.entries);
  all = all;
}

run_leaves : (a : SendAnswer) (before after : Copy) → AllSettled a 0 after.entries → EntersRun before after → SendLeaves a before after
run_leaves a before after all x = ⊎_elim
    (λ (e : after ≡ before). same_leaves a before after all e)
    (λ (e : after ≡ copy_after (Run (before.run + 1)) before). record {
      run = inr (ap (λ (c : Copy). c.run) e);
      held = ap (λ (c : Copy). c.held) e;
      stage = ap (λ (c : Copy). c.stage) e;
      last_number = ap (λ (c : Copy). c.last_number) e;
      count = 0;
      entries = subst (SettlesMore 0 before.entries) (ap (λ (c : Copy). c.entries) (sym e)) (settles_none before.entries);
      all = all;
    }) x

pub start_leaves : (cause : NoRun) (before after : Copy) → Enters (Err cause) before after → SendLeaves (not_begun cause) before after
start_leaves why.LastRun before after x = same_leaves answer.LastRun before after tt x.1
start_leaves why.KeeperFault before after x = run_leaves answer.KeeperFault before after tt x
start_leaves why.NoMemory before after x = run_leaves answer.NoMemory before after tt x

last_fault : answer.KeeperFault ≡ answer.LastRun → ⊥
last_fault e = cc

last_memory : answer.NoMemory ≡ answer.LastRun → ⊥
last_memory e = cc

pub start_last : (cause : NoRun) (before after : Copy) → Enters (Err cause) before after → SendLastLaw (not_begun cause) before after
start_last why.LastRun before after x = record { only = λ _. x; exact = λ _. inl refl }
start_last why.KeeperFault before after x = record { only = λ e. absurd (last_fault e); exact = λ _. inr tt }
start_last why.NoMemory before after x = record { only = λ e. absurd (last_memory e); exact = λ _. inr tt }

pub start_fine : (cause : NoRun) (broke : Type 0) (before after : Copy) → Enters (Err cause) before after → (cause ≡ why.KeeperFault → broke) → ¬ broke → before.run ≢ LAST → IsFine (not_begun cause)
start_fine why.LastRun broke before after x f quiet low = absurd (low x.0)
start_fine why.KeeperFault broke before after x f quiet low = absurd (quiet (f refl))
start_fine why.NoMemory broke before after x f quiet low = tt

module _ (token : List ℕ) (tries : ℕ) (copies : CopyRun) (link : LinkRun) (none : IsMore link.asked_before 0 link.asked_now) where
  start_caused : (cause : NoRun) → (cause ≡ why.KeeperFault → Rose copies.faults_before copies.faults_now)
      → SendCaused token tries copies link (not_begun cause)
  start_caused why.LastRun f = record { run = 0; count = 0; counts = none; runs = λ p. absurd (omega (arith, p)); only = tt; exact = λ w own. absurd (omega (arith, own.from)); names = λ c stands. tt; last = λ ends. absurd ends }
  start_caused why.KeeperFault f = record { run = 0; count = 0; counts = none; runs = λ p. absurd (omega (arith, p)); only = f refl; exact = λ w own. absurd (omega (arith, own.from)); names = λ c stands. tt; last = λ ends. absurd ends }
  start_caused why.NoMemory f = record { run = 0; count = 0; counts = none; runs = λ p. absurd (omega (arith, p)); only = tt; exact = λ w own. absurd (omega (arith, own.from)); names = λ c stands. tt; last = λ ends. absurd ends }

  pub started_caused : (cause : NoRun) (a : SendAnswer) → a ≡ not_begun cause
      → (cause ≡ why.KeeperFault → Rose copies.faults_before copies.faults_now) → SendCaused token tries copies link a
  started_caused cause a e f = subst (λ a. SendCaused token tries copies link a) (sym e) (start_caused cause f)

-- ---- what a copy agrees on

-- the agreement where only the run number changed
pub run_agrees : (before after : Copy) (told : LinkState) → EntersRun before after → Agree before told → Agree after told
run_agrees before after told x agree = ⊎_elim
    (λ (e : after ≡ before). subst (λ c. Agree c told) (sym e) agree)
    (λ (e : after ≡ copy_after (Run (before.run + 1)) before). subst (λ c. Agree c told) (sym e) (record {
      stage = record { differ = agree.stage.differ; below = above_more before.run (before.run + 1) told.sent (omega arith) agree.stage.below; fits = fits_same before (copy_after (Run (before.run + 1)) before) told.hub refl refl agree.stage.fits };
      marks = agree.marks;
    })) x

pub start_agrees : (cause : NoRun) (before after : Copy) (told : LinkState) → Enters (Err cause) before after → Agree before told → Agree after told
start_agrees why.LastRun before after told x agree = subst (λ c. Agree c told) (sym x.1) agree
start_agrees why.KeeperFault before after told x agree = run_agrees before after told x agree
start_agrees why.NoMemory before after told x agree = run_agrees before after told x agree

-- ---- a run was entered

pub ready_begun : (s : CopyState) (before mid : Copy) (told : LinkState) → Enters (Ok s) before mid → Agree before told → Ready s.run 0 mid told
ready_begun s before mid told x agree = subst (λ c. Ready s.run 0 c told) (sym x.1) (record {
  marks = agree.marks;
  numbers = ready_from before.run s.run told.sent x.0 agree.stage.differ agree.stage.below;
})

pub run_is : (s : CopyState) (n : ℕ) (before mid after : Copy) → Enters (Ok s) before mid → SoFar n mid after → after.run ≡ s.run
run_is s n before mid after x y = y.run ∙ ap (λ (c : Copy). c.run) x.1 ∙ sym x.0

pub leaves_ended : (s : CopyState) (a : SendAnswer) (n : ℕ) (before mid after : Copy) → Enters (Ok s) before mid → SoFar n mid after → AllSettled a n after.entries → SendLeaves a before after
leaves_ended s a n before mid after x y all = record {
  run = inr (y.run ∙ ap (λ (c : Copy). c.run) x.1);
  held = y.held ∙ ap (λ (c : Copy). c.held) x.1;
  stage = y.stage ∙ ap (λ (c : Copy). c.stage) x.1;
  last_number = y.last_number ∙ ap (λ (c : Copy). c.last_number) x.1;
  count = n;
  entries = subst (λ es. SettlesMore n es after.entries) (ap (λ (c : Copy). c.entries) x.1) y.entries;
  all = all;
}

pub bound_begun : (s : CopyState) (tries start asked : ℕ) (before mid : Copy) → Enters (Ok s) before mid → asked ≤ start + tries * unsettled mid.entries → asked ≤ start + tries * unsettled before.entries
bound_begun s tries start asked before mid x few = subst (λ es. asked ≤ start + tries * unsettled es) (ap (λ (c : Copy). c.entries) x.1) few

pub agree_ended : (s : CopyState) (n k : ℕ) (before mid after : Copy) (told tells : LinkState) → Enters (Ok s) before mid → SoFar n mid after → Moved told tells → Agree before told → Ready s.run k after tells → Agree after tells
agree_ended s n k before mid after told tells x y moved agree ready = record {
  stage = record {
    differ = ready.numbers.differ;
    below = subst (λ r. NoneAbove r tells.sent) (sym (run_is s n before mid after x y)) (below_from s.run k tells.sent ready.numbers.spent);
    fits = fits_same before after tells.hub (y.stage ∙ ap (λ (c : Copy). c.stage) x.1) (y.held ∙ ap (λ (c : Copy). c.held) x.1) (copy_on before told.hub tells.hub moved.grew agree.stage.fits);
  };
  marks = ready.marks;
}

pub last_ended : (s : CopyState) (a : SendAnswer) (before mid after : Copy) → Enters (Ok s) before mid → s.run ≤ LAST → a ≢ answer.LastRun → SendLastLaw a before after
last_ended s a before mid after x low other = record { only = λ e. absurd (other e); exact = λ e. absurd (let next = x.0 in omega (arith, next, low, e)) }

pub can_begun : (s : CopyState) (token : List ℕ) (since : ℕ) (before mid : Copy) (state : HubState) → Enters (Ok s) before mid → CanSendAll token since before.entries state → CanSendAll token since mid.entries state
can_begun s token since before mid state x can = subst (λ es. CanSendAll token since es state) (ap (λ (c : Copy). c.entries) (sym x.1)) can

pub start_told : (cause : NoRun) (token : List ℕ) (before after : Copy) (told : LinkState) → Enters (Err cause) before after → Agree before told → WasSent token (not_begun cause) before told after told
start_told why.LastRun token before after told x agree = record { leaves = start_leaves why.LastRun before after x; agree = start_agrees why.LastRun before after told x agree; cause = tt }
start_told why.KeeperFault token before after told x agree = record { leaves = start_leaves why.KeeperFault before after x; agree = start_agrees why.KeeperFault before after told x agree; cause = tt }
start_told why.NoMemory token before after told x agree = record { leaves = start_leaves why.NoMemory before after x; agree = start_agrees why.NoMemory before after told x agree; cause = tt }
