-- How the ends of the parts make the end of the whole.
use Rattle.std.proofs.Common.{◌≡◌, ℕ, true, false, Result, Ok, Err, refl}
use Rattle.std.specs.Prelude.{IfErr, IfOk}
use Rattle.consumer_deltas.specs.declared.answer.DeltaAnswer.{DeltaAnswer}
use Rattle.consumer_deltas.specs.declared.answer.DeltaAnswer.TheVariants as delta
use Rattle.exchange_link.specs.declared.answer.SyncAnswer.{SyncAnswer}
use Rattle.exchange_link.specs.declared.answer.SyncAnswer.TheVariants as answer
use Rattle.hub_cascade.specs.declared.error.CascadeError.{CascadeError}
use Rattle.hub_core.specs.declared.published.Published.{Published}
use Rattle.hub_follow.specs.Ends.{IfCascaded, IfDone, IsMiss, after_cascade, answer_of_miss, end_of_delta, end_of_sync}
use Rattle.hub_follow.specs.Ends.{lacks_base, sync_of, synced}
use Rattle.hub_follow.specs.declared.answer.Missed.{Missed}
use Rattle.hub_follow.specs.declared.answer.Missed.TheVariants as missed

pub true_false : {K : Type 0} → true ≡ false → K
true_false e = cc

pub false_true : {K : Type 0} → false ≡ true → K
false_true e = cc

-- ---- the synchronisation

pub sync_whole : (a : SyncAnswer) → sync_of (end_of_sync a) ≡ a
sync_whole (answer.Complete version) = refl
sync_whole a = refl

pub sync_delta : (a : SyncAnswer) → sync_of (end_of_delta (delta.Ended a)) ≡ a
sync_delta (answer.Complete version) = refl
sync_delta a = refl

pub miss_sync : (a : SyncAnswer) → IfErr (end_of_sync a) IsMiss
miss_sync (answer.Complete version) = tt
miss_sync a = tt

pub miss_delta : (d : DeltaAnswer) → lacks_base d ≡ false → IfErr (end_of_delta d) IsMiss
miss_delta (delta.Ended (answer.Complete version)) e = tt
miss_delta (delta.Ended a) e = tt
miss_delta delta.NoBase e = true_false e
miss_delta (delta.BaseGone held oldest) e = true_false e

-- ---- the whole

pub cascaded : (version : ℕ) (made : Result Published CascadeError) (P : Result Published CascadeError → Type 0) (Q : Type 0) → P made → IfCascaded (after_cascade version made) P Q
cascaded version (Ok published) P Q p = p
cascaded version (Err error) P Q p = p

pub uncascaded : (m : Missed) (P : Result Published CascadeError → Type 0) (Q : Type 0) → Q → IfCascaded (answer_of_miss m) P Q
uncascaded (missed.Sync a) P Q q = q
uncascaded (missed.Delta a) P Q q = q

pub synced_cascade : (version : ℕ) (made : Result Published CascadeError) → (let r : Result ℕ Missed = Ok version in synced (after_cascade version made) ≡ r)
synced_cascade version (Ok published) = refl
synced_cascade version (Err error) = refl

pub synced_miss : (m : Missed) → (let r : Result ℕ Missed = Err m in synced (answer_of_miss m) ≡ r)
synced_miss (missed.Sync a) = refl
synced_miss (missed.Delta a) = refl

-- ---- what is served

pub done_cascade : (version : ℕ) (made : Result Published CascadeError) (P : ℕ → Type 0) → IfOk made (λ _. P version) → IfDone (after_cascade version made) P
done_cascade version (Ok published) P p = p
done_cascade version (Err error) P p = tt

pub done_miss : (m : Missed) (P : ℕ → Type 0) → IfDone (answer_of_miss m) P
done_miss (missed.Sync a) P = tt
done_miss (missed.Delta a) P = tt
