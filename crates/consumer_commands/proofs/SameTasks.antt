-- A task as it was asked for.
use Rattle.std.proofs.Common.{◌≡◌, ℕ, List, refl, subst}
use Rattle.exchange_link.specs.Between.{CopyRun, LinkRun}
use Rattle.consumer_commands.specs.Deltas.{IsDeltaOf}
use Rattle.consumer_commands.specs.Sends.{IsSendOf}
use Rattle.consumer_commands.specs.Syncs.{IsSyncOf}
use Rattle.hub_words.specs.Tasks.{Sending, Task}
use Rattle.consumer_deltas.specs.declared.answer.DeltaAnswer.{DeltaAnswer}
use Rattle.exchange_link.specs.declared.answer.SyncAnswer.{SyncAnswer}
use Rattle.exchange_link.specs.declared.send_answer.SendAnswer.{SendAnswer}

module _ (task : Task) (token : List ℕ) (limit tries : ℕ) (a : token ≡ task.token) (b : limit ≡ task.limit) (c : tries ≡ task.tries) where
  same_task : record { token = token; limit = limit; tries = tries } ≡ task
  same_task = rw (a, b, c) refl

  pub synced_as : (answer : SyncAnswer) (copies : CopyRun) (link : LinkRun) → IsSyncOf (record { token = token; limit = limit; tries = tries }) answer copies link → IsSyncOf task answer copies link
  synced_as answer copies link = subst (λ (t : Task). IsSyncOf t answer copies link) same_task

  pub delta_as : (answer : DeltaAnswer) (copies : CopyRun) (link : LinkRun) → IsDeltaOf (record { token = token; limit = limit; tries = tries }) answer copies link → IsDeltaOf task answer copies link
  delta_as answer copies link = subst (λ (t : Task). IsDeltaOf t answer copies link) same_task

module _ (task : Sending) (token : List ℕ) (tries : ℕ) (a : token ≡ task.token) (c : tries ≡ task.tries) where
  same_sending : record { token = token; tries = tries } ≡ task
  same_sending = rw (a, c) refl

  pub sent_as : (answer : SendAnswer) (copies : CopyRun) (link : LinkRun) → IsSendOf (record { token = token; tries = tries }) answer copies link → IsSendOf task answer copies link
  sent_as answer copies link = subst (λ (t : Sending). IsSendOf t answer copies link) same_sending
