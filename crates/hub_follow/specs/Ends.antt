-- How following another hub ends.
use Rattle.std.specs.Prelude.{ℕ, Bool, true, false, Result, Ok, Err, ⊤}
use Rattle.consumer_deltas.specs.DeltaCalls.{IsDeltaDone}
use Rattle.consumer_deltas.specs.declared.answer.DeltaAnswer.{DeltaAnswer}
use Rattle.consumer_deltas.specs.declared.answer.DeltaAnswer.TheVariants as delta
use Rattle.exchange_link.specs.Completeness.{IsDone}
use Rattle.exchange_link.specs.declared.answer.SyncAnswer.{SyncAnswer}
use Rattle.exchange_link.specs.declared.answer.SyncAnswer.TheVariants as answer
use Rattle.hub_cascade.specs.declared.error.CascadeError.{CascadeError}
use Rattle.hub_cascade.specs.declared.error.CascadeError.TheVariants as error
use Rattle.hub_core.specs.declared.published.Published.{Published}
use Rattle.hub_follow.specs.declared.answer.FollowAnswer.{FollowAnswer}
use Rattle.hub_follow.specs.declared.answer.FollowAnswer.TheVariants as follow
use Rattle.hub_follow.specs.declared.answer.Missed.{Missed}
use Rattle.hub_follow.specs.declared.answer.Missed.TheVariants as missed

-- ---- the synchronisation

-- there is nothing from which the differences could be asked for
abbrev pub lacks_base : DeltaAnswer → Bool
lacks_base (delta.Ended a) = false
lacks_base delta.NoBase = true
lacks_base (delta.BaseGone held oldest) = true

-- the version that a whole synchronisation brought
abbrev pub end_of_sync : SyncAnswer → Result ℕ Missed
end_of_sync (answer.Complete version) = Ok version
end_of_sync a = Err (missed.Sync a)

-- the version that an incremental synchronisation brought
abbrev pub end_of_delta : DeltaAnswer → Result ℕ Missed
end_of_delta (delta.Ended (answer.Complete version)) = Ok version
end_of_delta a = Err (missed.Delta a)

-- the answer of the synchronisation that ended so; behind the last two a whole one is made
abbrev pub sync_of : Result ℕ Missed → SyncAnswer
sync_of (Ok version) = answer.Complete version
sync_of (Err (missed.Sync a)) = a
sync_of (Err (missed.Delta (delta.Ended a))) = a
sync_of (Err (missed.Delta delta.NoBase)) = answer.LastRun
sync_of (Err (missed.Delta (delta.BaseGone held oldest))) = answer.LastRun

-- no complete one is missed, and none without a base
abbrev pub IsMiss : Missed → Type 0
IsMiss (missed.Sync (answer.Complete version)) = ⊥
IsMiss (missed.Sync a) = ⊤
IsMiss (missed.Delta (delta.Ended (answer.Complete version))) = ⊥
IsMiss (missed.Delta (delta.Ended a)) = ⊤
IsMiss (missed.Delta delta.NoBase) = ⊥
IsMiss (missed.Delta (delta.BaseGone held oldest)) = ⊥

-- ---- the whole

-- how its synchronisation ended
abbrev pub synced : FollowAnswer → Result ℕ Missed
synced (follow.Done version published) = Ok version
synced (follow.Sync a) = Err (missed.Sync a)
synced (follow.Delta a) = Err (missed.Delta a)
synced (follow.Cascade version e) = Ok version

-- the answer where nothing was cascaded
abbrev pub answer_of_miss : Missed → FollowAnswer
answer_of_miss (missed.Sync a) = follow.Sync a
answer_of_miss (missed.Delta a) = follow.Delta a

-- the answer behind a cascade of a version that the copy holds
abbrev pub after_cascade : ℕ → Result Published CascadeError → FollowAnswer
after_cascade version (Ok published) = follow.Done version published
after_cascade version (Err e) = follow.Cascade version e

-- what holds of the cascade's answer, and what holds where none was made
abbrev pub IfCascaded : FollowAnswer → (Result Published CascadeError → Type 0) → Type 0 → Type 0
IfCascaded (follow.Done version published) P Q = P (Ok published)
IfCascaded (follow.Sync a) P Q = Q
IfCascaded (follow.Delta a) P Q = Q
IfCascaded (follow.Cascade version e) P Q = P (Err e)

-- done, or want of memory at any end
abbrev pub IsFollowed : FollowAnswer → Type 0
IsFollowed (follow.Done version published) = ⊤
IsFollowed (follow.Sync a) = IsDone a
IsFollowed (follow.Delta a) = IsDeltaDone a
IsFollowed (follow.Cascade version error.NoMemory) = ⊤
IsFollowed (follow.Cascade version e) = ⊥

-- what holds of the version that was cascaded whole
abbrev pub IfDone : FollowAnswer → (ℕ → Type 0) → Type 0
IfDone (follow.Done version published) P = P version
IfDone (follow.Sync a) P = ⊤
IfDone (follow.Delta a) P = ⊤
IfDone (follow.Cascade version e) P = ⊤
