-- Why an incremental synchronisation answers as it does.
use Rattle.std.specs.Prelude.{◌≡◌, ◌⊎◌, ◌<◌, ◌≤◌, ℕ, List, Option, None, Some, IfSome}
use Rattle.consumer_deltas.specs.DeltaAnswers.{HasBase}
use Rattle.consumer_deltas.specs.DeltaCalls.{IsDeltaAside}
use Rattle.consumer_deltas.specs.DeltaFilling.{Halts}
use Rattle.consumer_deltas.specs.declared.answer.DeltaAnswer.{DeltaAnswer}
use Rattle.consumer_deltas.specs.declared.answer.DeltaAnswer.TheVariants.{Ended, BaseGone, NoBase}
use Rattle.consumer_deltas.specs.declared.judging.Place.{Place}
use Rattle.exchange_link.specs.Between.{Call, CopyRun, LinkRun}
use Rattle.exchange_link.specs.Causes.{IsMore, IsOwnReply, IsPageStatus, MissedAll}
use Rattle.exchange_link.specs.declared.answer.SyncAnswer.TheVariants as answer
use Rattle.http_wire.specs.declared.reply_reading.WireReply.{WireReply}
use Rattle.keeper_memory.specs.copy.Copies.{Copy}
use Rattle.roster_base.specs.Faults.{Rose}

-- no base or no run, and so nothing asked for; every kind staged and swapped in, keeper or memory gave up, or the cause
-- of a kind that ended the call
pub data DeltaCause (kept : List ℕ) (run count : ℕ) (missed broke : Type 0) (copies : Copy → Type 0) (place : Place) (a : DeltaAnswer) : Type 0 where
  Unbased : count ≡ 0 → a ≡ NoBase → DeltaCause kept run count missed broke copies place a
  OutOfRuns : count ≡ 0 → a ≡ Ended answer.LastRun → DeltaCause kept run count missed broke copies place a
  Swapped : (version : ℕ) → a ≡ Ended (answer.Complete version) → DeltaCause kept run count missed broke copies place a
  Broke : broke → a ≡ Ended answer.KeeperFault → DeltaCause kept run count missed broke copies place a
  Wants : a ≡ Ended answer.NoMemory → DeltaCause kept run count missed broke copies place a
  Halted : Halts kept run count missed broke copies place a → DeltaCause kept run count missed broke copies place a

-- the answer that the own reply to the request for this page gives
pub record RepliesTo (here : Place) (w : WireReply) (a : DeltaAnswer) : Type 0 where
  pub unknown : w.status ≡ 401 → a ≡ Ended answer.UnknownToken
  pub fault : w.status ≡ 500 → a ≡ Ended answer.HubFault
  pub memory : w.status ≡ 503 → a ≡ Ended answer.HubNoMemory
  pub pin_gone : (pin oldest : ℕ) → here.pin ≡ Some pin → w.status ≡ 404 → w.oldest ≡ Some oldest → pin < oldest → a ≡ Ended (answer.PinGone pin oldest)
  pub base_gone : (oldest : ℕ) → w.status ≡ 404 → w.oldest ≡ Some oldest → here.base < oldest → IfSome here.pin (λ pin. oldest ≤ pin) → a ≡ BaseGone here.base oldest

-- the same, or want of memory or the keeper's fault, which come before it
abbrev pub RepliesIf : Place → WireReply → DeltaAnswer → Type 0
RepliesIf place w a = IsDeltaAside a ⊎ ((here : Place) × (here.base ≡ place.base) × ((here.pin ≡ place.pin) ⊎ (place.pin ≡ None)) × RepliesTo here w a)

-- kinds that are all staged came as pages
abbrev pub RepliesOn : Place → WireReply → Option DeltaAnswer → Type 0
RepliesOn place w None = IsPageStatus w.status
RepliesOn place w (Some a) = RepliesIf place w a

-- the cause of an answer: the run, the number of exchanges of the call, and the first page of the kind at which it ended
pub record DeltaCaused (call : Call) (copies : CopyRun) (link : LinkRun) (a : DeltaAnswer) : Type 0 where
  pub run : ℕ
  pub count : ℕ
  pub place : Place
  pub held : 1 ≤ count → (c : Copy) → copies.stands c
      → (before : Copy) × copies.stood before × HasBase place.base call.token before
  pub few : 1 ≤ count → place.limit ≡ call.limit
  pub counts : IsMore link.asked_before count link.asked_now
  pub runs : 1 ≤ count → (c : Copy) → copies.stands c → c.run ≡ run
  pub only : DeltaCause link.kept run count (MissedAll call.tries link count)
      (Rose copies.faults_before copies.faults_now) copies.stands place a
  pub exact : (w : WireReply) → IsOwnReply link.kept run count w → RepliesIf place w a
