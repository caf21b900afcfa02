-- What is promised of the outbox between a copy and a link: the clauses of `consumer_outbox::enter` and
-- `consumer_outbox::send`, one by one.
use Rattle.std.specs.Prelude.{◌≡◌, ◌≢◌, ℕ, ◌*◌, ◌+◌, ◌≤◌, Result, Err}
use Rattle.keeper_memory.specs.copy.Copies.{Copy}
use Rattle.keeper_memory.specs.declared.copy.state.TheConstants.{LAST}
use Rattle.exchange_link.specs.Asked.{AsksWrites}
use Rattle.exchange_link.specs.Entering.{EntersWrite}
use Rattle.exchange_link.specs.Exchanges.{LinkState}
use Rattle.exchange_link.specs.Marks.{Agree}
use Rattle.exchange_link.specs.Pairs.{AtEach}
use Rattle.exchange_link.specs.SendCauses.{SendCaused, SendLastLaw}
use Rattle.exchange_link.specs.SendCompleteness.{CanSendAll, IsFine}
use Rattle.exchange_link.specs.Sent.{SendLeaves, unsettled}
use Rattle.exchange_link.specs.SentTold.{WasSent}
use Rattle.exchange_link.specs.declared.send_answer.EnterError.{EnterError}
use Rattle.exchange_link.specs.declared.send_answer.EnterError.TheVariants as error
use Rattle.exchange_link.specs.declared.send_answer.SendAnswer.{SendAnswer}
use Rattle.roster_base.specs.Faults.{Rose}
use Rattle.version_core.specs.HubStates.{newest_number}
use Rattle.version_core.specs.declared.mark.Write.{Write}
use Rattle.exchange_link.specs.Between.{CopyRun, FromBefore, FromBoth, LinkRun, copy_with}
use Rattle.hub_words.specs.Tasks.{Sending}

-- ---- entering

-- what holds of the entering of a write that gives `r`, in the words of `IsSyncOf`
pub record IsEnterOf (write : Write) (r : Result ℕ EnterError) (copies : CopyRun) : Type 0 where
  pub told : FromBefore copies (EntersWrite write r)
  -- over any link that agrees with the copy before
  pub agree : (told : LinkState) → ((c : Copy) → copies.stood c → Agree c told) → (c : Copy) → copies.stands c → Agree c told
  pub cause : r ≡ Err error.KeeperFault → Rose copies.faults_before copies.faults_now

-- ---- sending

-- copy and link agreed before, where both tell, on the stage and on the marks
abbrev pub AgreedAll : CopyRun → LinkRun → Type 0
AgreedAll copy link = AtEach copy.stood link.told Agree

-- what holds of a sending with the answer `a`, in the words of `IsSyncOf`
pub record IsSendOf (task : Sending) (a : SendAnswer) (copies : CopyRun) (link : LinkRun) : Type 0 where
  -- over any link
  pub copy : (after : Copy) → copies.stands after → (before : Copy) × copies.stood before × SendLeaves a before after
      × (link.asked_now ≤ link.asked_before + task.tries * unsettled before.entries)
  pub last_run : FromBefore copies (SendLastLaw a)
  pub cause : SendCaused task.token task.tries copies link a
  -- over one that tells
  pub asks : FromBoth copies link
      (λ before told after tells. AsksWrites task.token task.tries link a (copy_with before told) (copy_with after tells))
  pub told : AgreedAll copies link → FromBoth copies link (WasSent task.token a)
  -- where no call of the link and of the copy's keeper failed
  pub complete : AgreedAll copies link → ¬ Rose link.faults_before link.faults_now → ¬ Rose copies.faults_before copies.faults_now
      → FromBoth copies link (λ before told after tells. before.run ≢ LAST → ¬ Rose told.hub_faults tells.hub_faults
      → CanSendAll task.token (newest_number told.hub) before.entries tells.hub → IsFine a)
