-- What `follow` answers: a copy brought up to date with another hub, and what it then holds as the rows of a feed.
use Rattle.std.specs.Prelude.{◌≡◌, ◌⊎◌, ℕ, ◌+◌, ◌<◌, ◌≤◌, ◌++◌, ⊤, List, [], Result, Ok, Err, IfErr}
use Rattle.exchange_link.specs.Between.{CopyRun, FromBefore, FromBoth, LinkRun, copy_since, link_since}
use Rattle.consumer_commands.specs.SyncLines.{sync_text}
use Rattle.consumer_commands.specs.Syncs.{Agreed, call_of}
use Rattle.consumer_commands.specs.Below.DeltaAnswers.{DeltaTold, LacksBase}
use Rattle.consumer_commands.specs.Below.DeltaCauses.{DeltaCaused}
use Rattle.consumer_commands.specs.Below.DeltaGathering.{IsGiven}
use Rattle.consumer_commands.specs.Below.DeltaAnswer.{DeltaAnswer}
use Rattle.consumer_commands.specs.Below.DeltaAnswer.TheVariants as delta
use Rattle.consumer_commands.specs.Below.Place.{Place}
use Rattle.exchange_link.specs.Causes.{Caused, IsMore, ToldCause}
use Rattle.exchange_link.specs.Completeness.{IsDone}
use Rattle.exchange_link.specs.Exchanges.{LinkState}
use Rattle.exchange_link.specs.Marks.{MarksTold}
use Rattle.exchange_link.specs.Pairs.{AtEach}
use Rattle.exchange_link.specs.declared.answer.SyncAnswer.TheVariants as answer
use Rattle.hub_cascade.specs.declared.error.CascadeError.{CascadeError}
use Rattle.hub_core.specs.declared.published.Published.{Published}
use Rattle.hub_follow.specs.Catching.{BeginsFromHeld, CatchesUp, CatchesUpTold, MayCatchUp}
use Rattle.hub_follow.specs.Ends.{IsMiss, sync_of}
use Rattle.hub_follow.specs.declared.answer.FollowAnswer.{FollowAnswer}
use Rattle.hub_follow.specs.declared.answer.FollowAnswer.TheVariants as follow
use Rattle.hub_follow.specs.declared.answer.Missed.{Missed}
use Rattle.hub_follow.specs.declared.answer.Missed.TheVariants as missed
use Rattle.hub_words.specs.Tasks.{Task}
use Rattle.keeper_memory.specs.Kept.{KeptState}
use Rattle.keeper_memory.specs.copy.Copies.{Copy}
use Rattle.keeper_memory.specs.declared.copy.state.TheConstants.{LAST}
use Rattle.roster_base.specs.Faults.{Rose}
use Rattle.roster_types.specs.Records.{Record}
use Rattle.hub_commands.specs.CascadeAnswers.{CascadeRun, TellsCascade, or_ended}
use Rattle.hub_commands.specs.Outside.{HaveRisen, HaveStood}
use Rattle.hub_commands.specs.PublishAnswers.{IsTold}
use Rattle.hub_commands.specs.declared.answer.Answer.{Answer}
use Rattle.hub_commands.specs.declared.answer.End.{End}
use Rattle.hub_commands.specs.declared.answer.End.TheVariants.{DeltaSynced, HubFailed, NoMemory, Synced}

-- why an incremental synchronisation had no base: it asked for nothing, or the own reply to its last request says that
-- the base is gone
abbrev pub IsUnbased : List ℕ → ℕ → ℕ → DeltaAnswer → Type 0
IsUnbased kept run count (delta.Ended a) = ⊥
IsUnbased kept run count delta.NoBase = count ≡ 0
IsUnbased kept run count (delta.BaseGone version oldest) = (place : Place) × (held : List Record) × IsGiven kept run count place held (delta.BaseGone version oldest)

-- an incremental synchronisation that had no base: its run, its exchanges and its answer, and the counts between it and
-- the whole one behind it
pub record UnbasedDelta (copies : CopyRun) (link : LinkRun) : Type 0 where
  pub run : ℕ
  pub count : ℕ
  pub kept : List ℕ
  pub first : DeltaAnswer
  pub unbased : IsUnbased kept run count first
  pub asked : ℕ
  pub faults : ℕ
  pub link_faults : ℕ
  pub counts : IsMore link.asked_before count asked
  pub later : copies.faults_before ≤ faults
  pub link_later : link.faults_before ≤ link_faults

-- the call that is named made the answer
abbrev pub MissCause : Task → CopyRun → LinkRun → Result ℕ Missed → Type 0
MissCause task copies link (Ok version) = ⊤
MissCause task copies link (Err (missed.Delta a)) = DeltaCaused (call_of task) copies link a
MissCause task copies link (Err (missed.Sync a)) = (mid : UnbasedDelta copies link)
    × Caused (call_of task) (copy_since copies mid.faults) (link_since link mid.asked mid.link_faults) a

-- what a link that tells adds
abbrev pub MissTold : Task → LinkRun → LinkState → Result ℕ Missed → Type 0
MissTold task link tells (Ok version) = ⊤
MissTold task link tells (Err (missed.Delta a)) = (told : LinkState) × link.told told × DeltaTold task.token told tells a
MissTold task link tells (Err (missed.Sync a)) = (told : LinkState) × link.told told × ToldCause task.token told tells a

-- what is promised of the synchronisation in it: the clauses of `hub_follow::follow` about copy and link, one by one
pub record IsCaughtUp (task : Task) (synced : Result ℕ Missed) (copies : CopyRun) (link : LinkRun) : Type 0 where
  -- over any link
  pub shape : IfErr synced IsMiss
  pub copy : FromBefore copies (CatchesUp (sync_of synced))
  pub cause : MissCause task copies link synced
  -- over one that tells
  pub first : ((c : Copy) → copies.stood c → LacksBase task.token c → ⊥) → AtEach copies.stands link.tells (λ after tells.
      (told : LinkState) × link.told told × BeginsFromHeld task.token task.limit copies.stood told.sent tells.sent)
  pub told : Agreed copies link → FromBoth copies link (CatchesUpTold task.token (sync_of synced))
  pub cause_told : Agreed copies link → AtEach copies.stands link.tells (λ after tells. MissTold task link tells synced)
  -- where no call of the link and of the copy's keeper failed
  pub complete : Agreed copies link → ¬ Rose link.faults_before link.faults_now → ¬ Rose copies.faults_before copies.faults_now
      → FromBoth copies link (λ before told after tells.
      before.run + 1 < LAST → ¬ Rose told.hub_faults tells.hub_faults → MayCatchUp task.token copies.stood before told tells
      → IsDone (sync_of synced))
  -- where they agreed on marks
  pub marks : AtEach copies.stood link.told MarksTold → AtEach copies.stands link.tells MarksTold

-- the line of a complete synchronisation, before what its cascade tells
abbrev pub completed : ℕ → List ℕ
completed version = sync_text (answer.Complete version)

-- what is told of a call whose synchronisation ended so: the line of the version that the copy holds, and what its
-- cascade tells, or where memory ran out nothing of both; or the line of the synchronisation, where nothing is cascaded
abbrev pub TellsFollow : CascadeRun → Result ℕ Missed → Answer → KeptState → KeptState → Type 0
TellsFollow run (Ok version) answer before after =
    ((more : List ℕ) × (answer.done ≡ completed version ++ more) × TellsCascade run more answer.end before after)
    ⊎ ((answer.done ≡ []) × (answer.end ≡ NoMemory) × (more : List ℕ) × (end : End) × TellsCascade run more end before after)
TellsFollow run (Err (missed.Sync a)) answer before after =
    HaveStood run.keeper × (after ≡ before) × (answer.done ≡ []) × ((answer.end ≡ Synced a) ⊎ (answer.end ≡ NoMemory))
TellsFollow run (Err (missed.Delta a)) answer before after =
    HaveStood run.keeper × (after ≡ before) × (answer.done ≡ []) × ((answer.end ≡ DeltaSynced a) ⊎ (answer.end ≡ NoMemory))

-- the hub couldn't be opened: its keeper failed, or memory ran out
pub record IsShut (run : CascadeRun) (link : LinkRun) (answer : Answer) (before after : KeptState) : Type 0 where
  pub done : answer.done ≡ []
  pub end : ((answer.end ≡ HubFailed) × HaveRisen run.keeper) ⊎ (answer.end ≡ NoMemory)
  pub same : run.copy.same × link.same × (after ≡ before)

-- the answer to `follow`: the hub behind the link is followed as the task says, and what the copy then holds is cascaded
abbrev pub IsFollowAnswer : Task → CascadeRun → LinkRun → Answer → KeptState → KeptState → Type 0
IsFollowAnswer task run link answer before after =
    ((synced : Result ℕ Missed) × IsCaughtUp task synced run.copy link × TellsFollow run synced answer before after)
    ⊎ IsShut run link answer before after

-- ---- what the steps of it tell

-- what is told of a version that the copy holds, and of what was made of it: its line and that of the cascade, or where
-- memory runs out nothing
abbrev pub TellsVersion : List ℕ → ℕ → Result Published CascadeError → Answer → Type 0
TellsVersion feed version made answer =
    ((cascaded : Answer) × IsTold feed (or_ended made) cascaded × (answer ≡ record { done = completed version ++ cascaded.done; end = cascaded.end }))
    ⊎ (answer ≡ record { done = []; end = NoMemory })

-- what is told of how following ended
abbrev pub TellsEnd : List ℕ → FollowAnswer → Answer → Type 0
TellsEnd feed (follow.Done version published) answer = TellsVersion feed version (Ok published) answer
TellsEnd feed (follow.Sync a) answer = answer ≡ record { done = []; end = Synced a }
TellsEnd feed (follow.Delta a) answer = answer ≡ record { done = []; end = DeltaSynced a }
TellsEnd feed (follow.Cascade version e) answer = TellsVersion feed version (Err e) answer
