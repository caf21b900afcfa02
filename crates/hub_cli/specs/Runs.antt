-- What a run of the program answers, and why.
use Rattle.std.specs.Prelude.{◌≡◌, ◌⊎◌, ℕ, [], Result, Ok, Err}
use Rattle.exchange_link.specs.Between.{CopyRun, LinkRun}
use Rattle.script_runs.specs.Below.AskAnswers.{IsAskAnswer}
use Rattle.script_runs.specs.Below.CascadeAnswers.{IsCascadeAnswer, cascade_run}
use Rattle.script_runs.specs.Below.ConsumerAnswers.{IsDeltaAnswer, IsListAnswer, IsSyncAnswer}
use Rattle.script_runs.specs.Below.ExportAnswers.{IsExportAnswer, IsManifestAnswer, IsSinceAnswer}
use Rattle.script_runs.specs.Below.FollowAnswers.{IsFollowAnswer}
use Rattle.script_runs.specs.Below.GrantAnswers.{IsGrantAnswer}
use Rattle.script_runs.specs.Below.OutboxAnswers.{IsEnterAnswer, IsOutboxAnswer, IsSendAnswer}
use Rattle.script_runs.specs.Below.Outside.{HaveStood, NothingFailed, Outside}
use Rattle.script_runs.specs.Below.Runs.{IsPublishAnswer, IsShowAnswer, WantsMemory}
use Rattle.script_runs.specs.Below.Answer.{Answer}
use Rattle.script_runs.specs.Below.End.TheVariants.{BadWord}
use Rattle.hub_words.specs.declared.words.Command.{Command}
use Rattle.hub_words.specs.declared.words.Command.TheVariants.{Ask, Cascade, Enter, Export, ExportManifest, ExportSince}
use Rattle.hub_words.specs.declared.words.Command.TheVariants.{Follow, Grant, ListHeld, Make, Outbox, Publish, Rehearse}
use Rattle.hub_words.specs.declared.words.Command.TheVariants.{Send, Show, Sync, SyncDelta}
use Rattle.hub_words.specs.declared.words.Parsed.{Parsed}
use Rattle.keeper_memory.specs.Kept.{KeptState}
use Rattle.script_runs.specs.Makings.{IsMakeAnswer}
use Rattle.script_runs.specs.Rehearsals.{IsRehearseAnswer}

-- the consumer's copy and its link are as they were
abbrev pub ConsumerRests : CopyRun → LinkRun → Type 0
ConsumerRests copy link = copy.same × link.same

-- the answer of a command, what it does to the consumer's copy and its link, and the states of the hub before it and
-- after it
abbrev pub IsCommandAnswer : Command → Outside → CopyRun → LinkRun → Answer → KeptState → KeptState → Type 0
IsCommandAnswer (Show kind) outside copy link answer before after = ConsumerRests copy link × (after ≡ before) × IsShowAnswer kind outside answer
IsCommandAnswer (Publish feeds) outside copy link answer before after = ConsumerRests copy link × IsPublishAnswer outside feeds answer before after
IsCommandAnswer (Grant file) outside copy link answer before after = ConsumerRests copy link × IsGrantAnswer outside file answer.done answer.end before after
IsCommandAnswer (Ask file) outside copy link answer before after = ConsumerRests copy link × IsAskAnswer outside file answer.done answer.end before after
IsCommandAnswer (Sync task) outside copy link answer before after = (after ≡ before) × NothingFailed outside × IsSyncAnswer task copy link answer
IsCommandAnswer (SyncDelta task) outside copy link answer before after = (after ≡ before) × NothingFailed outside × IsDeltaAnswer task copy link answer
IsCommandAnswer (Cascade feed) outside copy link answer before after = HaveStood outside.folder × link.same × IsCascadeAnswer (cascade_run feed outside.moment outside.keeper copy) answer before after
IsCommandAnswer (Follow task feed) outside copy link answer before after = HaveStood outside.folder × IsFollowAnswer task (cascade_run feed outside.moment outside.keeper copy) link answer before after
IsCommandAnswer (Enter task) outside copy link answer before after = (after ≡ before) × HaveStood outside.keeper × link.same × IsEnterAnswer task outside copy answer
IsCommandAnswer (Send task) outside copy link answer before after = (after ≡ before) × NothingFailed outside × IsSendAnswer task copy link answer
IsCommandAnswer Outbox outside copy link answer before after = (after ≡ before) × NothingFailed outside × link.same × IsOutboxAnswer copy answer
IsCommandAnswer (ListHeld kind) outside copy link answer before after = (after ≡ before) × NothingFailed outside × link.same × IsListAnswer kind copy answer
IsCommandAnswer (ExportManifest mode) outside copy link answer before after = ConsumerRests copy link × (after ≡ before) × NothingFailed outside × IsManifestAnswer mode answer
IsCommandAnswer (Export kind) outside copy link answer before after = (after ≡ before) × NothingFailed outside × link.same × IsExportAnswer kind copy answer
IsCommandAnswer (ExportSince kind dir) outside copy link answer before after = (after ≡ before) × HaveStood outside.keeper × link.same × IsSinceAnswer kind dir outside copy answer
IsCommandAnswer (Rehearse file) outside copy link answer before after =
    ConsumerRests copy link × (after ≡ before) × HaveStood outside.keeper × IsRehearseAnswer outside.files outside.folder file answer.done answer.end
IsCommandAnswer (Make count) outside copy link answer before after =
    ConsumerRests copy link × (after ≡ before) × NothingFailed outside × IsMakeAnswer count answer.done answer.end

-- the answer to words
abbrev pub IsAnswer : Result Parsed ℕ → Outside → CopyRun → LinkRun → Answer → KeptState → KeptState → Type 0
IsAnswer (Err place) outside copy link answer before after =
    ConsumerRests copy link × (after ≡ before) × (((answer ≡ record { done = []; end = BadWord place }) × NothingFailed outside) ⊎ WantsMemory answer)
IsAnswer (Ok parsed) outside copy link answer before after =
    IsCommandAnswer parsed.command outside copy link answer before after ⊎ (ConsumerRests copy link × (after ≡ before) × WantsMemory answer)
