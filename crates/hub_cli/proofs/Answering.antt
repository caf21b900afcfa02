-- What is answered to the words of each command.
use Rattle.std.proofs.Common.{◌≡◌, ◌≢◌, ℕ, List, [], ◌++◌, Some, Result, Ok, Err, IsErr}
use Rattle.std.proofs.Common.{append-nil, length, refl, sym, ap, subst, ◌∙◌, inl, inr}
use Rattle.exchange_link.specs.Between.{CopyRun, LinkRun}
use Rattle.script_runs.specs.Below.SyncLines.{sync_status, sync_text}
use Rattle.script_runs.specs.Below.Syncs.{IsSyncOf}
use Rattle.script_runs.specs.Below.DeltaAnswer.TheVariants as delta
use Rattle.hub_words.specs.Tasks.{Sending, Task}
use Rattle.csv_sets.specs.Files as files
use Rattle.exchange_link.specs.declared.answer.SyncAnswer.{SyncAnswer}
use Rattle.exchange_link.specs.declared.answer.SyncAnswer.TheVariants as sync
use Rattle.exchange_link.specs.declared.send_answer.EnterError.TheVariants as enter
use Rattle.exchange_link.specs.declared.send_answer.SendAnswer.TheVariants as send
use Rattle.keeper_memory.specs.Kept.{KeptState}
use Rattle.roster_values.specs.declared.kind.Kind.{Kind}
use Rattle.roster_values.specs.declared.mode.Mode.{Mode}
use Rattle.script_runs.specs.Below.AskAnswers.{IsAskAnswer}
use Rattle.script_runs.specs.Below.GrantAnswers.{IsGrantAnswer}
use Rattle.script_runs.specs.Below.Answers.{IsPrinted, status_of, text_of}
use Rattle.script_runs.specs.Below.CascadeAnswers.{IsCascadeAnswer, cascade_run}
use Rattle.script_runs.specs.Below.ConsumerAnswers.{IsDeltaAnswer, IsListAnswer, IsSyncAnswer}
use Rattle.script_runs.specs.Below.FollowAnswers.{IsFollowAnswer}
use Rattle.script_runs.specs.Below.ExportAnswers.{IsExportAnswer}
use Rattle.script_runs.specs.Below.ExportAnswers.{IsManifestAnswer, IsSinceAnswer}
use Rattle.script_runs.specs.Below.OutboxAnswers.{IsEnterAnswer, IsOutboxAnswer, IsSendAnswer}
use Rattle.script_runs.specs.Below.Outside.{HaveStood, NothingFailed, Outside}
use Rattle.script_runs.specs.Below.Runs.{IsPublishAnswer, IsShowAnswer, LeadsFrom}
use Rattle.hub_cli.specs.Runs.{ConsumerRests, IsAnswer, IsCommandAnswer}
use Rattle.hub_words.specs.Words.{command_in}
use Rattle.script_runs.specs.Below.Answer.{Answer}
use Rattle.script_runs.specs.Below.End.{End}
use Rattle.script_runs.specs.Below.End.TheVariants as ends
use Rattle.hub_words.specs.declared.task.Feed.{Feed}
use Rattle.hub_words.specs.declared.words.Command.{Command}
use Rattle.hub_words.specs.declared.words.Command.TheVariants.{Ask, Cascade, Enter, Export, ExportManifest, ExportSince}
use Rattle.hub_words.specs.declared.words.Command.TheVariants.{Follow, Grant, ListHeld, Make, Outbox, Publish, Rehearse}
use Rattle.hub_words.specs.declared.words.Command.TheVariants.{Send, Show, Sync, SyncDelta}
use Rattle.hub_words.specs.declared.words.EnterTask.{EnterTask}
use Rattle.hub_words.specs.declared.words.Parsed.{Parsed}
use Rattle.script_runs.proofs.Below.Leading.{leads-nowhere, leads-on}
use Rattle.script_runs.proofs.Making.{make_done}
use Rattle.script_runs.proofs.Rehearsing.{rehearse_done}
use Rattle.script_runs.specs.Makings.{IsMakeAnswer, MakesDistrict}
use Rattle.script_runs.specs.Rehearsals.{IsRehearseAnswer, IsScriptOf}
use Rattle.script_runs.specs.Runs.{RunsFirst, printed}
use Rattle.world_scripts.specs.declared.script.Line.{Line}
use Rattle.hub_cli.proofs.Ending.{Blames, answer-bad, answer-says, answer-words}
use Rattle.hub_cli.proofs.Wanting.{leads-printed}
use Rattle.hub_words.specs.Statuses.{bad_words_status, done_status, no_memory_status}

module _ (o : Outside) (copy : CopyRun) (link : LinkRun) where
  pub leads-words : {old new : KeptState → Type 0} (r : Result Parsed ℕ) (a : Answer) → LeadsFrom old new (IsAnswer r o copy link a) → status_of a.end ≡ bad_words_status → IsErr r
  leads-words {old} {new} r a from = answer-words o copy link r a from.before from.after from.some

  pub leads-bad : {old new : KeptState → Type 0} (r : Result Parsed ℕ) (a : Answer) → LeadsFrom old new (IsAnswer r o copy link a) → IsErr r → status_of a.end ≢ no_memory_status → status_of a.end ≡ bad_words_status
  leads-bad {old} {new} r a from = answer-bad o copy link r a from.before from.after from.some

  pub leads-says : {old new : KeptState → Type 0} (r : Result Parsed ℕ) (a : Answer) → LeadsFrom old new (IsAnswer r o copy link a) → Blames o copy link a.end
  leads-says {old} {new} r a from = answer-says o copy link r a from.before from.after from.some

  -- ---- a synchronisation

  synced : (task : Task) (a : Answer) → IsSyncAnswer task copy link a → status_of a.end ≢ no_memory_status → (s : SyncAnswer) × IsSyncOf task s copy link × (status_of a.end ≡ sync_status s) × (text_of a ≡ sync_text s)
  synced task a (none, s, is, inl same) other = (s, is, ap status_of same, text)
    where
      text : text_of a ≡ sync_text s
      text = rw (none, same) refl
  synced task a (none, s, is, inr same) other = absurd (other (ap status_of same))

  spelled : (task : Task) (parsed : Parsed) (a : Answer) (before after : KeptState) → parsed.command ≡ Sync task → IsCommandAnswer parsed.command o copy link a before after → IsSyncAnswer task copy link a
  spelled task parsed a before after same is = let told : IsCommandAnswer (Sync task) o copy link a before after = subst (λ (c : Command). IsCommandAnswer c o copy link a before after) same is in told.2

  answer-synced : (task : Task) (r : Result Parsed ℕ) (a : Answer) (before after : KeptState) → command_in r ≡ Some (Sync task) → IsAnswer r o copy link a before after → status_of a.end ≢ no_memory_status
      → (s : SyncAnswer) × IsSyncOf task s copy link × (status_of a.end ≡ sync_status s) × (text_of a ≡ sync_text s)
  answer-synced task (Err place) a before after same is other = absurd (cc same)
  answer-synced task (Ok parsed) a before after same (inl is) other = synced task a (spelled task parsed a before after (cc same) is) other
  answer-synced task (Ok parsed) a before after same (inr wants) other = absurd (other (ap status_of wants.2.1))

  -- what is told of words that spell `sync` is told of a synchronisation
  pub leads-synced : {old new : KeptState → Type 0} (task : Task) (r : Result Parsed ℕ) (a : Answer) → command_in r ≡ Some (Sync task) → LeadsFrom old new (IsAnswer r o copy link a) → status_of a.end ≢ no_memory_status
      → (s : SyncAnswer) × IsSyncOf task s copy link × (status_of a.end ≡ sync_status s) × (text_of a ≡ sync_text s)
  leads-synced {old} {new} task r a same from other = answer-synced task r a from.before from.after same from.some other

  -- ---- a rehearsal, and a district

  rehearsed : (file : List ℕ) (parsed : Parsed) (a : Answer) (before after : KeptState) → parsed.command ≡ Rehearse file → IsCommandAnswer parsed.command o copy link a before after → IsRehearseAnswer o.files o.folder file a.done a.end
  rehearsed file parsed a before after same is = let told : IsCommandAnswer (Rehearse file) o copy link a before after = subst (λ (c : Command). IsCommandAnswer c o copy link a before after) same is in told.3

  answer-rehearsed : (file : List ℕ) (r : Result Parsed ℕ) (a : Answer) (before after : KeptState) → command_in r ≡ Some (Rehearse file) → IsAnswer r o copy link a before after → status_of a.end ≡ done_status
      → (lines : List Line) × IsScriptOf o.files file lines × (run : RunsFirst o.files lines (length lines)) × (text_of a ≡ printed run.stages)
  answer-rehearsed file (Err place) a before after same is zero = absurd (cc same)
  answer-rehearsed file (Ok parsed) a before after same (inl is) zero =
      let (ends_so, lines, of, run, prints) = rehearse_done o.files o.folder file a.done a.end (rehearsed file parsed a before after (cc same) is) zero in
      (lines, of, run, ap (λ (e : End). text_of (record { done = a.done; end = e })) ends_so ∙ append-nil a.done ∙ prints)
  answer-rehearsed file (Ok parsed) a before after same (inr wants) zero = absurd (cc (sym (ap status_of wants.2.1) ∙ zero))

  -- what is told with status 0 of words that spell `rehearse` is what a run prints
  pub leads-rehearsed : {old new : KeptState → Type 0} (file : List ℕ) (r : Result Parsed ℕ) (a : Answer) → command_in r ≡ Some (Rehearse file) → LeadsFrom old new (IsAnswer r o copy link a) → status_of a.end ≡ done_status
      → (lines : List Line) × IsScriptOf o.files file lines × (run : RunsFirst o.files lines (length lines)) × (text_of a ≡ printed run.stages)
  leads-rehearsed {old} {new} file r a same from zero = answer-rehearsed file r a from.before from.after same from.some zero

  made : (count : ℕ) (parsed : Parsed) (a : Answer) (before after : KeptState) → parsed.command ≡ Make count → IsCommandAnswer parsed.command o copy link a before after → IsMakeAnswer count a.done a.end
  made count parsed a before after same is = let told : IsCommandAnswer (Make count) o copy link a before after = subst (λ (c : Command). IsCommandAnswer c o copy link a before after) same is in told.3

  answer-made : (count : ℕ) (r : Result Parsed ℕ) (a : Answer) (before after : KeptState) → command_in r ≡ Some (Make count) → IsAnswer r o copy link a before after → status_of a.end ≡ done_status
      → (version : ℕ) × (done : List ℕ) × MakesDistrict count (sync.Complete version) done × (text_of a ≡ done ++ sync_text (sync.Complete version))
  answer-made count (Err place) a before after same is zero = absurd (cc same)
  answer-made count (Ok parsed) a before after same (inl is) zero =
      let (version, ends_so, makes) = make_done count a.done a.end (made count parsed a before after (cc same) is) zero in
      (version, a.done, makes, ap (λ (e : End). text_of (record { done = a.done; end = e })) ends_so)
  answer-made count (Ok parsed) a before after same (inr wants) zero = absurd (cc (sym (ap status_of wants.2.1) ∙ zero))

  -- and of words that spell `make`, the summary of a district
  pub leads-made : {old new : KeptState → Type 0} (count : ℕ) (r : Result Parsed ℕ) (a : Answer) → command_in r ≡ Some (Make count) → LeadsFrom old new (IsAnswer r o copy link a) → status_of a.end ≡ done_status
      → (version : ℕ) × (done : List ℕ) × MakesDistrict count (sync.Complete version) done × (text_of a ≡ done ++ sync_text (sync.Complete version))
  leads-made {old} {new} count r a same from zero = answer-made count r a from.before from.after same from.some zero

  -- ---- what is written

  -- a command's answer is one to the words that spell the command
  module _ (old new : KeptState → Type 0) (parsed : Parsed) where
    leads-command : (command : Command) → parsed.command ≡ command → (a : Answer) → LeadsFrom old new (IsCommandAnswer command o copy link a) → LeadsFrom old new (IsAnswer (Ok parsed) o copy link a)
    leads-command command same a from =
        leads-on old old new (IsCommandAnswer command o copy link a) (IsAnswer (Ok parsed) o copy link a) (λ kept stands. stands)
        (λ before after is. inl (subst (λ (c : Command). IsCommandAnswer c o copy link a before after) (sym same) is)) from

    -- what is printed of it is one too
    leads-told : (command : Command) → parsed.command ≡ command → (answer : Answer) → LeadsFrom old new (IsCommandAnswer command o copy link answer) → (a : Answer) → IsPrinted answer a
        → LeadsFrom old new (IsAnswer (Ok parsed) o copy link a)
    leads-told command same answer from a printed = leads-printed copy link old new (Ok parsed) o answer a printed (leads-command command same answer from)

  -- a command that looks at no consumer
  leads-resting : (old new : KeptState → Type 0) → ConsumerRests copy link → (leads : KeptState → KeptState → Type 0) → LeadsFrom old new leads → LeadsFrom old new (λ before after. ConsumerRests copy link × leads before after)
  leads-resting old new rests leads = leads-on old old new leads (λ before after. ConsumerRests copy link × leads before after) (λ kept stands. stands) (λ before after is. (rests, is))

  pub leads-shown : {stands : KeptState → Type 0} (parsed : Parsed) (kind : Kind) → parsed.command ≡ Show kind → ConsumerRests copy link → (answer : Answer) → IsShowAnswer kind o answer → (a : Answer) → IsPrinted answer a
      → LeadsFrom stands stands (IsAnswer (Ok parsed) o copy link a)
  leads-shown {stands} parsed kind same rests answer is =
      leads-told stands stands parsed (Show kind) same answer (leads-nowhere stands (IsCommandAnswer (Show kind) o copy link answer) (λ kept. (rests, refl, is)))

  pub leads-published : {old new : KeptState → Type 0} (parsed : Parsed) (feeds : List Feed) → parsed.command ≡ Publish feeds
      → ConsumerRests copy link → (answer : Answer) → LeadsFrom old new (IsPublishAnswer o feeds answer)
      → (a : Answer) → IsPrinted answer a → LeadsFrom old new (IsAnswer (Ok parsed) o copy link a)
  leads-published {old} {new} parsed feeds same rests answer leads =
      leads-told old new parsed (Publish feeds) same answer
      (leads-resting old new rests (IsPublishAnswer o feeds answer) leads)

  pub leads-granted : {old new : KeptState → Type 0} (parsed : Parsed) (file : List ℕ) → parsed.command ≡ Grant file
      → ConsumerRests copy link → (answer : Answer) → LeadsFrom old new (IsGrantAnswer o file answer.done answer.end)
      → (a : Answer) → IsPrinted answer a → LeadsFrom old new (IsAnswer (Ok parsed) o copy link a)
  leads-granted {old} {new} parsed file same rests answer leads =
      leads-told old new parsed (Grant file) same answer
      (leads-resting old new rests (IsGrantAnswer o file answer.done answer.end) leads)

  pub leads-asked : {old new : KeptState → Type 0} (parsed : Parsed) (file : List ℕ) → parsed.command ≡ Ask file
      → ConsumerRests copy link → (a : Answer) → LeadsFrom old new (IsAskAnswer o file a.done a.end)
      → LeadsFrom old new (IsAnswer (Ok parsed) o copy link a)
  leads-asked {old} {new} parsed file same rests a leads =
      leads-command old new parsed (Ask file) same a (leads-resting old new rests (IsAskAnswer o file a.done a.end) leads)

  pub leads-synchronised : {stands : KeptState → Type 0} (parsed : Parsed) (task : Task) → parsed.command ≡ Sync task → NothingFailed o → (answer : Answer) → IsSyncAnswer task copy link answer → (a : Answer) → IsPrinted answer a
      → LeadsFrom stands stands (IsAnswer (Ok parsed) o copy link a)
  leads-synchronised {stands} parsed task same nothing answer is =
      leads-told stands stands parsed (Sync task) same answer (leads-nowhere stands (IsCommandAnswer (Sync task) o copy link answer) (λ kept. (refl, nothing, is)))

  pub leads-delta : {stands : KeptState → Type 0} (parsed : Parsed) (task : Task) → parsed.command ≡ SyncDelta task → NothingFailed o → (answer : Answer) → IsDeltaAnswer task copy link answer → (a : Answer) → IsPrinted answer a
      → LeadsFrom stands stands (IsAnswer (Ok parsed) o copy link a)
  leads-delta {stands} parsed task same nothing answer is =
      leads-told stands stands parsed (SyncDelta task) same answer (leads-nowhere stands (IsCommandAnswer (SyncDelta task) o copy link answer) (λ kept. (refl, nothing, is)))

  pub leads-cascaded : {old new : KeptState → Type 0} (parsed : Parsed) (feed : List ℕ) → parsed.command ≡ Cascade feed → HaveStood o.folder → link.same → (answer : Answer)
      → LeadsFrom old new (IsCascadeAnswer (cascade_run feed o.moment o.keeper copy) answer) → (a : Answer) → IsPrinted answer a → LeadsFrom old new (IsAnswer (Ok parsed) o copy link a)
  leads-cascaded {old} {new} parsed feed same stood rests answer from =
      leads-told old new parsed (Cascade feed) same answer
      (leads-on old old new (IsCascadeAnswer (cascade_run feed o.moment o.keeper copy) answer) (IsCommandAnswer (Cascade feed) o copy link answer) (λ kept stands. stands) (λ before after is. (stood, rests, is)) from)

  pub leads-followed : {old new : KeptState → Type 0} (parsed : Parsed) (task : Task) (feed : List ℕ) → parsed.command ≡ Follow task feed → HaveStood o.folder → (answer : Answer)
      → LeadsFrom old new (IsFollowAnswer task (cascade_run feed o.moment o.keeper copy) link answer) → (a : Answer) → IsPrinted answer a → LeadsFrom old new (IsAnswer (Ok parsed) o copy link a)
  leads-followed {old} {new} parsed task feed same stood answer from =
      leads-told old new parsed (Follow task feed) same answer
      (leads-on old old new (IsFollowAnswer task (cascade_run feed o.moment o.keeper copy) link answer) (IsCommandAnswer (Follow task feed) o copy link answer) (λ kept stands. stands) (λ before after is. (stood, is)) from)

  pub leads-entered : {stands : KeptState → Type 0} (parsed : Parsed) (task : EnterTask) → parsed.command ≡ Enter task → HaveStood o.keeper → link.same → (answer : Answer) → IsEnterAnswer task o copy answer → (a : Answer) → IsPrinted answer a
      → LeadsFrom stands stands (IsAnswer (Ok parsed) o copy link a)
  leads-entered {stands} parsed task same stood rests answer is =
      leads-told stands stands parsed (Enter task) same answer (leads-nowhere stands (IsCommandAnswer (Enter task) o copy link answer) (λ kept. (refl, stood, rests, is)))

  pub leads-sent : {stands : KeptState → Type 0} (parsed : Parsed) (task : Sending) → parsed.command ≡ Send task → NothingFailed o → (answer : Answer) → IsSendAnswer task copy link answer → (a : Answer) → IsPrinted answer a
      → LeadsFrom stands stands (IsAnswer (Ok parsed) o copy link a)
  leads-sent {stands} parsed task same nothing answer is =
      leads-told stands stands parsed (Send task) same answer (leads-nowhere stands (IsCommandAnswer (Send task) o copy link answer) (λ kept. (refl, nothing, is)))

  pub leads-outbox : {stands : KeptState → Type 0} (parsed : Parsed) → parsed.command ≡ Outbox → NothingFailed o → link.same → (answer : Answer) → IsOutboxAnswer copy answer → (a : Answer) → IsPrinted answer a
      → LeadsFrom stands stands (IsAnswer (Ok parsed) o copy link a)
  leads-outbox {stands} parsed same nothing rests answer is =
      leads-told stands stands parsed Outbox same answer (leads-nowhere stands (IsCommandAnswer Outbox o copy link answer) (λ kept. (refl, nothing, rests, is)))

  pub leads-listed : {stands : KeptState → Type 0} (parsed : Parsed) (kind : Kind) → parsed.command ≡ ListHeld kind → NothingFailed o → link.same → (answer : Answer) → IsListAnswer kind copy answer → (a : Answer) → IsPrinted answer a
      → LeadsFrom stands stands (IsAnswer (Ok parsed) o copy link a)
  leads-listed {stands} parsed kind same nothing rests answer is =
      leads-told stands stands parsed (ListHeld kind) same answer (leads-nowhere stands (IsCommandAnswer (ListHeld kind) o copy link answer) (λ kept. (refl, nothing, rests, is)))

  pub leads-manifest : {stands : KeptState → Type 0} (parsed : Parsed) (mode : Mode) → parsed.command ≡ ExportManifest mode → ConsumerRests copy link → NothingFailed o → (answer : Answer) → IsManifestAnswer mode answer → (a : Answer) → IsPrinted answer a
      → LeadsFrom stands stands (IsAnswer (Ok parsed) o copy link a)
  leads-manifest {stands} parsed mode same rests nothing answer is =
      leads-told stands stands parsed (ExportManifest mode) same answer (leads-nowhere stands (IsCommandAnswer (ExportManifest mode) o copy link answer) (λ kept. (rests, refl, nothing, is)))

  pub leads-exported : {stands : KeptState → Type 0} (parsed : Parsed) (kind : Kind) → parsed.command ≡ Export kind → NothingFailed o → link.same → (answer : Answer) → IsExportAnswer kind copy answer → (a : Answer) → IsPrinted answer a
      → LeadsFrom stands stands (IsAnswer (Ok parsed) o copy link a)
  leads-exported {stands} parsed kind same nothing rests answer is =
      leads-told stands stands parsed (Export kind) same answer (leads-nowhere stands (IsCommandAnswer (Export kind) o copy link answer) (λ kept. (refl, nothing, rests, is)))

  pub leads-exported-since : {stands : KeptState → Type 0} (parsed : Parsed) (kind : Kind) (dir : List ℕ) → parsed.command ≡ ExportSince kind dir → HaveStood o.keeper → link.same → (answer : Answer) → IsSinceAnswer kind dir o copy answer → (a : Answer) → IsPrinted answer a
      → LeadsFrom stands stands (IsAnswer (Ok parsed) o copy link a)
  leads-exported-since {stands} parsed kind dir same stood rests answer is =
      leads-told stands stands parsed (ExportSince kind dir) same answer (leads-nowhere stands (IsCommandAnswer (ExportSince kind dir) o copy link answer) (λ kept. (refl, stood, rests, is)))

  pub leads-made-answer : {stands : KeptState → Type 0} (parsed : Parsed) (count : ℕ) → parsed.command ≡ Make count → ConsumerRests copy link → NothingFailed o → (answer : Answer) → IsMakeAnswer count answer.done answer.end → (a : Answer) → IsPrinted answer a
      → LeadsFrom stands stands (IsAnswer (Ok parsed) o copy link a)
  leads-made-answer {stands} parsed count same rests nothing answer is =
      leads-told stands stands parsed (Make count) same answer (leads-nowhere stands (IsCommandAnswer (Make count) o copy link answer) (λ kept. (rests, refl, nothing, is)))

  pub leads-rehearsed-answer : {stands : KeptState → Type 0} (parsed : Parsed) (file : List ℕ) → parsed.command ≡ Rehearse file → ConsumerRests copy link → HaveStood o.keeper → (a : Answer) → IsRehearseAnswer o.files o.folder file a.done a.end
      → LeadsFrom stands stands (IsAnswer (Ok parsed) o copy link a)
  leads-rehearsed-answer {stands} parsed file same rests stood a is =
      leads-command stands stands parsed (Rehearse file) same a (leads-nowhere stands (IsCommandAnswer (Rehearse file) o copy link a) (λ kept. (rests, refl, stood, is)))
