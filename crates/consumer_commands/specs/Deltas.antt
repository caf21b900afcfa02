-- What is promised of an incremental synchronisation between a copy and a link: the clauses of
-- `consumer_deltas::delta_sync`, one by one.
use Rattle.std.specs.Prelude.{◌≡◌, ◌≢◌, ◌⊎◌, ℕ, ◌+◌, ◌≤◌}
use Rattle.exchange_link.specs.Between.{CopyRun, FromBefore, FromBoth, LinkRun}
use Rattle.consumer_commands.specs.Syncs.{Agreed, call_of}
use Rattle.consumer_deltas.specs.DeltaAnswers.{BaseLaw, DeltaLeaves, DeltaTold, HasBase}
use Rattle.consumer_deltas.specs.DeltaCalls.{AnswersPin, AsksDeltas, DeltaBounded, DeltaFaultLaw, DeltaLastLaw}
use Rattle.consumer_deltas.specs.DeltaCalls.{DeltaSynchronised, IsDeltaDone, IsNewPin}
use Rattle.consumer_deltas.specs.DeltaCauses.{DeltaCaused}
use Rattle.consumer_deltas.specs.declared.answer.DeltaAnswer.{DeltaAnswer}
use Rattle.exchange_link.specs.Completeness.{StandsAt, first_pin}
use Rattle.exchange_link.specs.Exchanges.{LinkState}
use Rattle.exchange_link.specs.Marks.{MarksTold}
use Rattle.exchange_link.specs.Pairs.{AtEach, LinkFrom}
use Rattle.exchange_link.specs.Synchronised.{own_state}
use Rattle.hub_words.specs.Tasks.{Task}
use Rattle.keeper_memory.specs.copy.Copies.{Copy}
use Rattle.keeper_memory.specs.copy.States.{stage_of}
use Rattle.keeper_memory.specs.declared.copy.state.TheConstants.{LAST}
use Rattle.roster_base.specs.Faults.{Rose}

-- what holds of an incremental synchronisation with the answer `a`, in the words of `IsSyncOf`
pub record IsDeltaOf (task : Task) (a : DeltaAnswer) (copies : CopyRun) (link : LinkRun) : Type 0 where
  -- over any link
  pub copy : FromBefore copies (DeltaLeaves task.token a)
  pub base : FromBefore copies (λ before after. BaseLaw task.token a before)
  pub faulted : FromBefore copies (DeltaFaultLaw task.token link.kept a)
  pub last_run : FromBefore copies (DeltaLastLaw a)
  pub cause : DeltaCaused (call_of task) copies link a
  pub later : copies.faults_before ≤ copies.faults_now
  pub link_later : link.faults_before ≤ link.faults_now
  -- over one that tells
  pub asks : LinkFrom link.told link.tells (λ before after. AsksDeltas (call_of task) copies link a before.sent after.sent)
  pub told : Agreed copies link → FromBoth copies link (DeltaSynchronised task.token a)
  pub bound : Agreed copies link → AtEach copies.stands link.tells (λ after tells.
      (before : Copy) × (told : LinkState) × copies.stood before × link.told told × (n : ℕ) × (link.asked_now ≤ link.asked_before + n)
      × ((n ≡ 0) ⊎ ((base : ℕ) × HasBase base task.token before
      × DeltaBounded n task.tries task.limit task.token base (own_state task.token (stage_of before)) (IsNewPin (AnswersPin a) after told.hub tells.hub) tells.hub)))
  pub cause_told : Agreed copies link → AtEach copies.stands link.tells (λ after tells.
      (told : LinkState) × link.told told × DeltaTold task.token told tells a)
  -- where no call of the link and of the copy's keeper failed
  pub complete : Agreed copies link → ¬ Rose link.faults_before link.faults_now → ¬ Rose copies.faults_before copies.faults_now
      → FromBoth copies link (λ before told after tells. before.run ≢ LAST → ¬ Rose told.hub_faults tells.hub_faults
      → StandsAt (first_pin (own_state task.token (stage_of before)) told.hub) task.token tells.hub
      → (base : ℕ) → HasBase base task.token before → StandsAt base task.token tells.hub → IsDeltaDone a)
  -- where they agreed on marks
  pub marks : AtEach copies.stood link.told MarksTold → AtEach copies.stands link.tells MarksTold
