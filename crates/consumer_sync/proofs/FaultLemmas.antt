-- What is left of a stage where the keeper failed.
use Rattle.std.proofs.Common.{◌≡◌, ◌⊎◌, inl, inr, ℕ, true, false, List, Option, None, Some, Err, cond, refl, sym}
use Rattle.std.proofs.Common.{ap, subst, ⊎_elim}
use Rattle.std.specs.Prelude.{bytes_eq, is_some}
use Rattle.consumer_sync.proofs.CauseLemmas.{answer_cause}
use Rattle.consumer_sync.proofs.FillLemmas.{grows_refl}
use Rattle.consumer_sync.proofs.SyncLemmas.{enter_fails, swap_leaves}
use Rattle.consumer_sync.specs.Faulted.{FaultLaw, SaysGone}
use Rattle.consumer_sync.specs.Filling.{Ends, last_asked}
use Rattle.consumer_sync.specs.Judging.{judged}
use Rattle.consumer_sync.specs.Staging.{IsGone, answer_of}
use Rattle.consumer_sync.specs.Starting.{Aborts, SwapsIn, run_begun, unentered}
use Rattle.exchange_link.specs.Beginning.{Enters}
use Rattle.exchange_link.specs.declared.beginning.NoRun.{NoRun}
use Rattle.exchange_link.specs.declared.beginning.NoRun.TheVariants as no_run
use Rattle.consumer_sync.specs.declared.judging.Act.{Act}
use Rattle.consumer_sync.specs.declared.judging.Act.TheVariants as act
use Rattle.keeper_memory.specs.copy.Changes.{copy_after}
use Rattle.keeper_memory.specs.copy.Copies.{Copy, Stage}
use Rattle.keeper_memory.specs.copy.Lists.{kind_count}
use Rattle.keeper_memory.specs.copy.States.{stage_of}
use Rattle.keeper_memory.specs.declared.copy.change.CopyChange.TheVariants.{Swap}
use Rattle.keeper_memory.specs.declared.copy.state.StageState.{StageState}
use Rattle.exchange_link.specs.Causes.{IsOwnReply, kept_of}
use Rattle.exchange_link.specs.Places.{next_kind, staged_of}
use Rattle.exchange_link.specs.Synchronised.{IsSwapped, StageOn, own_stage}
use Rattle.exchange_link.specs.declared.answer.SyncAnswer.{SyncAnswer}
use Rattle.exchange_link.specs.declared.answer.SyncAnswer.TheVariants as answer
use Rattle.http_wire.specs.declared.reply_reading.WireReply.{WireReply}

gone_is : (a : Act) → IsGone a → (pin : ℕ) × (oldest : ℕ) × (a ≡ act.PinGone pin oldest)
gone_is (act.PinGone pin oldest) is = (pin, oldest, refl)
gone_is other is = absurd is

-- an act that lets the stage go comes of such a reply alone
pub says_gone : (stage : Option StageState) (limit : ℕ) (w : WireReply) (kept : List ℕ) (run n : ℕ) → IsOwnReply kept run n w → IsGone (judged stage limit w) → SaysGone kept
says_gone stage limit w kept run n own is =
    let (pin, oldest, same) = gone_is (judged stage limit w) is in
    let asked = last_asked stage limit (kept_of kept run n) in
    let gives = ap (λ a. answer_of a (next_kind stage) (staged_of stage)) same in
    let (r, from, status, old, _) = answer_cause asked w (Some (answer.PinGone pin oldest)) (Unit {0}) (Unit {0}) own (sym gives) in
    (r, from.text, status, ap (λ o. is_some o) old)

own_goes : (token : List ℕ) (old new : Option Stage) → new ≡ old → (own_stage token old ≡ None) ⊎ StageOn token (own_stage token old) new
own_goes token None new e = inl refl
own_goes token (Some s) new e = elim (bytes_eq s.token token) as (λ b. (cond b (Some s) None ≡ None) ⊎ StageOn token (cond b (Some s) None) new) [
  | true ↦ inr (subst (λ (o : Option Stage). StageOn token (Some s) o) (sym e) (grows_refl s))
  | false ↦ inl refl
]

pub abort_faults : (token kept : List ℕ) (b a : Copy) → Aborts token b a → FaultLaw token kept b a
abort_faults token kept b a x = ⊎_elim (λ (same : a.stage ≡ b.stage). ⊎_elim (λ none. inl none) (λ on. inr (inl on)) (own_goes token b.stage a.stage same)) (λ other. inl other.0) x.stage

pub enter_faults : (token kept : List ℕ) (e : NoRun) (b a : Copy) → unentered e ≡ answer.KeeperFault → Enters (Err e) b a → FaultLaw token kept b a
enter_faults token kept no_run.LastRun b a is x = absurd (cc is)
enter_faults token kept no_run.KeeperFault b a is x = abort_faults token kept b a (enter_fails token b a x)
enter_faults token kept no_run.NoMemory b a is x = absurd (cc is)

pub fill_faults : (token kept : List ℕ) (b d a : Copy) → d ≡ run_begun token b → StageOn token d.stage a.stage ⊎ SaysGone kept → FaultLaw token kept b a
fill_faults token kept b d a ed x = ⊎_elim (λ on. inr (inl (subst (λ (c : Copy). StageOn token c.stage a.stage) ed on))) (λ gone. inr (inr (inr gone))) x

pub swap_faults : (token kept : List ℕ) (b d c a : Copy) (st : StageState) (e : SyncAnswer) → d ≡ run_begun token b → Ends token None d c → stage_of c ≡ Some st → st.kinds_done ≡ kind_count
    → e ≡ answer.KeeperFault → SwapsIn e st.pin c a → FaultLaw token kept b a
swap_faults token kept b d c a st e ed ends state all is x =
    ⊎_elim
    (λ (same : a ≡ c). inr (inl (subst (λ (k : Copy). StageOn token (own_stage token b.stage) k.stage) (sym same) (subst (λ (k : Copy). Ends token None k c) ed ends).stage)))
    (λ (swapped : a ≡ copy_after Swap c).
    let whole = (swap_leaves token b d c a st (answer.Complete st.pin) ed ends state all (refl, swapped)).held in
    inr (inr (inl (whole.0, subst (λ v. IsSwapped v whole.0 a) (sym whole.1.pin) whole.1))))
    (subst (λ (s : SyncAnswer). SwapsIn s st.pin c a) is x)
