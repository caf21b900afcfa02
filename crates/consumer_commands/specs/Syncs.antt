-- What is promised of a synchronisation between a copy and a link: the clauses of `consumer_sync::sync`, one by one.
use Rattle.std.specs.Prelude.{◌≡◌, ◌≢◌, ℕ, ◌+◌, ◌≤◌}
use Rattle.consumer_deltas.specs.Below.Faulted.{FaultLaw}
use Rattle.keeper_memory.specs.copy.Copies.{Copy}
use Rattle.keeper_memory.specs.copy.States.{stage_of}
use Rattle.keeper_memory.specs.declared.copy.state.TheConstants.{LAST}
use Rattle.exchange_link.specs.Agreement.{StagesAgree}
use Rattle.exchange_link.specs.Asked.{AsksPages}
use Rattle.exchange_link.specs.Bounds.{Bounded, IsCallPin}
use Rattle.exchange_link.specs.Causes.{Caused, LastLaw, ToldCause}
use Rattle.exchange_link.specs.Completeness.{IsDone, StandsAt, first_pin}
use Rattle.exchange_link.specs.Exchanges.{LinkState}
use Rattle.exchange_link.specs.Marks.{MarksTold}
use Rattle.exchange_link.specs.Pairs.{AtEach, LinkFrom}
use Rattle.exchange_link.specs.Synchronised.{Leaves, Synchronised, own_state}
use Rattle.exchange_link.specs.declared.answer.SyncAnswer.{SyncAnswer}
use Rattle.exchange_link.specs.declared.answer.SyncAnswer.TheVariants.{KeeperFault}
use Rattle.roster_base.specs.Faults.{Rose}
use Rattle.exchange_link.specs.Between.{Call, CopyRun, FromBefore, FromBoth, LinkRun, call_with}
use Rattle.hub_words.specs.Tasks.{Task}

-- the call that a task asks for
abbrev pub call_of : Task → Call
call_of task = call_with task.token task.limit task.tries

-- before the call the copy agreed with what the link told, where both tell
abbrev pub Agreed : CopyRun → LinkRun → Type 0
Agreed copy link = StagesAgree copy.stood link.told

-- what holds of a synchronisation with the answer `a`. `stood`, `told` and `before` speak of the time before the call,
-- `stands`, `tells` and `after` of that behind it
pub record IsSyncOf (task : Task) (a : SyncAnswer) (copies : CopyRun) (link : LinkRun) : Type 0 where
  -- over any link
  pub copy : FromBefore copies (Leaves task.token a)
  pub faulted : a ≡ KeeperFault → FromBefore copies (FaultLaw task.token link.kept)
  pub last_run : FromBefore copies (LastLaw a)
  pub later : copies.faults_before ≤ copies.faults_now
  pub cause : Caused (call_of task) copies link a
  -- over one that tells
  pub asks : LinkFrom link.told link.tells (λ before after. AsksPages (call_of task) copies link a before.sent after.sent)
  pub told : Agreed copies link → FromBoth copies link (Synchronised task.token a)
  pub bound : Agreed copies link → AtEach copies.stands link.tells (λ after tells.
      (before : Copy) × copies.stood before × (n : ℕ) × (link.asked_now ≤ link.asked_before + n)
      × Bounded n task.tries task.limit task.token (own_state task.token (stage_of before)) (λ v. IsCallPin a after tells.sent v) tells.hub)
  pub cause_told : Agreed copies link → AtEach copies.stands link.tells (λ after tells.
      (told : LinkState) × link.told told × ToldCause task.token told tells a)
  -- where no call of the link and of the copy's keeper failed
  pub complete : Agreed copies link → ¬ Rose link.faults_before link.faults_now → ¬ Rose copies.faults_before copies.faults_now
      → FromBoth copies link (λ before told after tells. before.run ≢ LAST → ¬ Rose told.hub_faults tells.hub_faults
      → StandsAt (first_pin (own_state task.token (stage_of before)) told.hub) task.token tells.hub → IsDone a)
  -- where they agreed on marks
  pub marks : AtEach copies.stood link.told MarksTold → AtEach copies.stands link.tells MarksTold
