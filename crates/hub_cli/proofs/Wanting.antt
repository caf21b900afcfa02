-- Answers for want of memory.
use Rattle.std.proofs.Common.{◌≡◌, ◌≢◌, ◌⊎◌, ℕ, ℤ, List, [], Option, Some, None, Result, Ok, Err}
use Rattle.std.proofs.Common.{length, refl, sym, ap, subst, ◌∙◌, inl, inr}
use Rattle.exchange_link.specs.Between.{CopyRun, LinkRun}
use Rattle.script_runs.specs.Below.DeltaAnswer.TheVariants as delta
use Rattle.hub_words.specs.Tasks.{Sending, Task}
use Rattle.script_runs.specs.Below.Held.{IsHeldText}
use Rattle.script_runs.specs.Below.Outbox.{IsOutboxText}
use Rattle.csv_sets.specs.declared.fault.SetFault.{SetFault}
use Rattle.csv_sets.specs.Files as files
use Rattle.exchange_link.specs.declared.answer.SyncAnswer.TheVariants as sync
use Rattle.exchange_link.specs.declared.send_answer.EnterError.{EnterError}
use Rattle.exchange_link.specs.declared.send_answer.EnterError.TheVariants as enter
use Rattle.exchange_link.specs.declared.send_answer.SendAnswer.TheVariants as send
use Rattle.keeper_memory.specs.Kept.{KeptState}
use Rattle.csv_sets.specs.Written.{written_text}
use Rattle.keeper_memory.specs.copy.Copies.{Copy, held_list}
use Rattle.roster_types.specs.declared.set_row.SetRow.{SetRow}
use Rattle.roster_values.specs.declared.kind.Kind.{Kind}
use Rattle.roster_values.specs.declared.mode.Mode.{Mode}
use Rattle.roster_values.specs.declared.mode.Mode.TheVariants.{Bulk}
use Rattle.script_runs.specs.Below.Answers.{IsPrinted}
use Rattle.script_runs.specs.Below.ConsumerAnswers.{IsDeltaAnswer, IsSyncAnswer, ReadEnds}
use Rattle.script_runs.specs.Below.ExportAnswers.{ExportEnds, HasTooMany, IsChangesExport, IsExport}
use Rattle.script_runs.specs.Below.ExportAnswers.{IsManifestAnswer, IsSinceAnswer, rows_in}
use Rattle.script_runs.specs.Below.OutboxAnswers.{IsEnterAnswer, IsEntered, IsSendAnswer}
use Rattle.script_runs.specs.Below.Outside.{NothingFailed, Outside}
use Rattle.script_runs.specs.Below.Runs.{IsShowAnswer, LeadsFrom, WantsMemory}
use Rattle.hub_cli.specs.Runs.{ConsumerRests, IsAnswer, IsCommandAnswer}
use Rattle.script_runs.specs.Below.ShowAnswers.{IsShown, answer_of_file, answer_of_rows}
use Rattle.script_runs.specs.Below.Answer.{Answer}
use Rattle.script_runs.specs.Below.End.TheVariants as ends
use Rattle.hub_words.specs.declared.words.Command.{Command}
use Rattle.hub_words.specs.declared.words.Command.TheVariants.{Ask, Cascade, Enter, Export, ExportManifest, ExportSince}
use Rattle.hub_words.specs.declared.words.Command.TheVariants.{Follow, Grant, ListHeld, Make, Outbox, Publish, Rehearse}
use Rattle.hub_words.specs.declared.words.Command.TheVariants.{Send, Show, Sync, SyncDelta}
use Rattle.hub_words.specs.declared.words.EnterTask.{EnterTask}
use Rattle.hub_words.specs.declared.words.Parsed.{Parsed}
use Rattle.script_runs.proofs.Below.Asking.{ask-wants}
use Rattle.script_runs.proofs.Below.Cascading.{cascade-wants}
use Rattle.script_runs.proofs.Below.Following.{follow-wants}
use Rattle.script_runs.proofs.Below.Granting.{grant-wants}
use Rattle.script_runs.proofs.Below.Leading.{leads-nowhere, leads-on}
use Rattle.script_runs.proofs.Below.Publishing.{run-wants}
use Rattle.script_runs.proofs.Making.{make_wants}
use Rattle.script_runs.proofs.Rehearsing.{rehearse_wants}
use Rattle.script_runs.specs.Runs.{printed}

abbrev pub out_of_memory : Answer
out_of_memory = record { done = []; end = ends.NoMemory }

-- ---- want of memory for the line of an end

rows-done : (kind : Kind) (at : ℤ) (r : Result (List SetRow) SetFault) → (answer_of_rows kind at r).end ≢ ends.Done → (answer_of_rows kind at r).done ≡ []
rows-done kind at (Ok rows) other = absurd (other refl)
rows-done kind at (Err fault) other = refl

file-done : (kind : Kind) (at : ℤ) (file : Option (List ℕ)) → (answer_of_file kind at file).end ≢ ends.Done → (answer_of_file kind at file).done ≡ []
file-done kind at None other = refl
file-done kind at (Some bytes) other = rows-done kind at (files.file_of kind Bulk bytes) other

shown-done : (o : Outside) (kind : Kind) (a : Answer) → IsShown o kind a → a.end ≢ ends.Done → a.done ≡ []
shown-done o kind a shown other = ap (λ (x : Answer). x.done) shown.is ∙ file-done kind shown.at shown.file (λ e. other (ap (λ (x : Answer). x.end) shown.is ∙ e))

show-wants : (kind : Kind) (o : Outside) (a : Answer) → IsShowAnswer kind o a → a.end ≢ ends.Done → WantsMemory (record a { end = ends.NoMemory })
show-wants kind o a (inl failed) other = (failed.0, refl)
show-wants kind o a (inr (inl shown)) other = (shown-done o kind a shown.0 other, refl)
show-wants kind o a (inr (inr wants)) other = (wants.0, refl)

module _ (copy : CopyRun) (link : LinkRun) where
  sync-wants : (task : Task) (a : Answer) → IsSyncAnswer task copy link a → IsSyncAnswer task copy link (record a { end = ends.NoMemory })
  sync-wants task a (none, s, is, how) = (none, s, is, inr refl)

  delta-wants : (task : Task) (a : Answer) → IsDeltaAnswer task copy link a → IsDeltaAnswer task copy link (record a { end = ends.NoMemory })
  delta-wants task a (none, d, is, how) = (none, d, is, inr refl)

  read-wants : (is_text : List ℕ → Type 0) (a : Answer) → ReadEnds is_text copy a → a.end ≢ ends.Done → ReadEnds is_text copy (record a { end = ends.NoMemory })
  read-wants is_text a (inl told) other = absurd (other told.0)
  read-wants is_text a (inr (inl failed)) other = inr (inr (refl, failed.1))
  read-wants is_text a (inr (inr wants)) other = inr (inr (refl, wants.1))

  manifest-wants : (mode : Mode) (a : Answer) → IsManifestAnswer mode a → a.end ≢ ends.Done → IsManifestAnswer mode (record a { end = ends.NoMemory })
  manifest-wants mode a (inl told) other = absurd (other told.1)
  manifest-wants mode a (inr wants) other = inr (wants.0, refl)

  export-wants : (IsText : (Copy → Type 0) → List ℕ → Type 0) (HasBytes : Copy → ℕ → Type 0) (kind : Kind) (a : Answer) → ExportEnds IsText HasBytes kind copy a → a.end ≢ ends.Done → ExportEnds IsText HasBytes kind copy (record a { end = ends.NoMemory })
  export-wants IsText HasBytes kind a (stays, inl reads) other = (stays, inl (read-wants (IsText copy.stands) a reads other))
  export-wants IsText HasBytes kind a (stays, inr refused) other = (stays, inl (inr (inr (refl, refused.0))))

  since-wants : (kind : Kind) (dir : List ℕ) (o : Outside) (a : Answer) → IsSinceAnswer kind dir o copy a → a.end ≢ ends.Done → IsSinceAnswer kind dir o copy (record a { end = ends.NoMemory })
  since-wants kind dir o a (inl (end, same, reads, is)) other = inl (ends.NoMemory, same, tt, ap (λ (x : Answer). record x { end = ends.NoMemory }) is)
  since-wants kind dir o a (inr (set, at, reads, moment, ends_so)) other = inr (set, at, reads, moment, export-wants (IsChangesExport at (rows_in kind set.parts) kind) (HasTooMany at (rows_in kind set.parts) kind) kind a ends_so other)

  send-wants : (task : Sending) (a : Answer) → IsSendAnswer task copy link a → IsSendAnswer task copy link (record a { end = ends.NoMemory })
  send-wants task a (none, s, is, how) = (none, s, is, inr refl)

  entered-wants : (r : Result ℕ EnterError) (a : Answer) → IsEntered r a → a.end ≢ ends.Done → IsEntered r (record a { end = ends.NoMemory })
  entered-wants (Ok number) a (inl told) other = absurd (other told.1)
  entered-wants (Ok number) a (inr wants) other = inr (wants.0, refl)
  entered-wants (Err error) a is other = (is.0, inr refl)

  enter-wants : (task : EnterTask) (o : Outside) (a : Answer) → IsEnterAnswer task o copy a → a.end ≢ ends.Done → IsEnterAnswer task o copy (record a { end = ends.NoMemory })
  enter-wants task o a (inl (end, same, reads, is)) other = inl (ends.NoMemory, same, tt, ap (λ (x : Answer). record x { end = ends.NoMemory }) is)
  enter-wants task o a (inr (write, r, reads, is, entered)) other = inr (write, r, reads, is, entered-wants r a entered other)

  command-wants : (command : Command) (o : Outside) (a : Answer) (before after : KeptState) → IsCommandAnswer command o copy link a before after → a.end ≢ ends.Done
      → IsCommandAnswer command o copy link (record a { end = ends.NoMemory }) before after ⊎ (ConsumerRests copy link × (after ≡ before) × WantsMemory (record a { end = ends.NoMemory }))
  command-wants (Show kind) o a before after is other = inr (is.0, is.1, show-wants kind o a is.2 other)
  command-wants (Publish feeds) o a before after (rests, inl failed) other = inr (rests, failed.0, (failed.1.0, refl))
  command-wants (Publish feeds) o a before after (rests, inr run) other = inl (rests, inr (run-wants o feeds a.done a.end before after run))
  command-wants (Grant file) o a before after is other = inl (is.0, grant-wants o file a.done a.end before after is.1 other)
  command-wants (Ask file) o a before after is other = inl (is.0, ask-wants o file a.done a.end before after is.1 other)
  command-wants (Sync task) o a before after is other = inl (is.0, is.1, sync-wants task a is.2)
  command-wants (SyncDelta task) o a before after is other = inl (is.0, is.1, delta-wants task a is.2)
  command-wants (Cascade feed) o a before after is other = inl (is.0, is.1, cascade-wants feed o.moment o.keeper copy a before after is.2 other)
  command-wants (Follow task feed) o a before after is other = inl (is.0, follow-wants task feed o.moment o.keeper copy link a before after is.1 other)
  command-wants (Enter task) o a before after is other = inl (is.0, is.1, is.2, enter-wants task o a is.3 other)
  command-wants (Send task) o a before after is other = inl (is.0, is.1, send-wants task a is.2)
  command-wants Outbox o a before after is other = inl (is.0, is.1, is.2, (is.3.0, read-wants (IsOutboxText copy.stands) a is.3.1 other))
  command-wants (ListHeld kind) o a before after is other = inl (is.0, is.1, is.2, (is.3.0, read-wants (IsHeldText kind copy.stands) a is.3.1 other))
  command-wants (ExportManifest mode) o a before after is other = inl (is.0, is.1, is.2, manifest-wants mode a is.3 other)
  command-wants (Export kind) o a before after is other = inl (is.0, is.1, is.2, export-wants (IsExport kind) (λ c bytes. bytes ≡ length (written_text kind (held_list c kind))) kind a is.3 other)
  command-wants (ExportSince kind dir) o a before after is other = inl (is.0, is.1, is.2, since-wants kind dir o a is.3 other)
  command-wants (Rehearse file) o a before after is other = inl (is.0, is.1, is.2, rehearse_wants o.files o.folder file a.done a.end is.3 other)
  command-wants (Make count) o a before after is other = inl (is.0, is.1, is.2, make_wants count a.done a.end is.3)

  answer-wants : (r : Result Parsed ℕ) (o : Outside) (a : Answer) (before after : KeptState) → IsAnswer r o copy link a before after → a.end ≢ ends.Done → IsAnswer r o copy link (record a { end = ends.NoMemory }) before after
  answer-wants (Err place) o a before after (rests, same, inl bad) other = (rests, same, inr (ap (λ (x : Answer). x.done) bad.0, refl))
  answer-wants (Err place) o a before after (rests, same, inr wants) other = (rests, same, inr (wants.0, refl))
  answer-wants (Ok parsed) o a before after (inl is) other = command-wants parsed.command o a before after is other
  answer-wants (Ok parsed) o a before after (inr wants) other = inr (wants.0, wants.1, (wants.2.0, refl))

  -- what is printed of an answer is one
  answer-printed : (r : Result Parsed ℕ) (o : Outside) (a b : Answer) (before after : KeptState) → IsPrinted a b → IsAnswer r o copy link a before after → IsAnswer r o copy link b before after
  answer-printed r o a b before after (inl same) is = subst (λ (x : Answer). IsAnswer r o copy link x before after) (sym same) is
  answer-printed r o a b before after (inr (other, same)) is = subst (λ (x : Answer). IsAnswer r o copy link x before after) (sym same) (answer-wants r o a before after is other)

  pub leads-printed : (old new : KeptState → Type 0) (r : Result Parsed ℕ) (o : Outside) (a b : Answer) → IsPrinted a b → LeadsFrom old new (IsAnswer r o copy link a) → LeadsFrom old new (IsAnswer r o copy link b)
  leads-printed old new r o a b printed =
      leads-on old old new (IsAnswer r o copy link a) (IsAnswer r o copy link b) (λ kept stands. stands) (λ before after is. answer-printed r o a b before after printed is)

module _ (o : Outside) (copy : CopyRun) (link : LinkRun) where
  -- want of memory before anything is done
  pub leads-no-memory : (stands : KeptState → Type 0) (r : Result Parsed ℕ) → ConsumerRests copy link → (a : Answer) → IsPrinted out_of_memory a → LeadsFrom stands stands (IsAnswer r o copy link a)
  leads-no-memory stands r rests a printed = leads-printed copy link stands stands r o out_of_memory a printed (leads-nowhere stands (IsAnswer r o copy link out_of_memory) (λ kept. wants r kept))
    where
      wants : (r : Result Parsed ℕ) (kept : KeptState) → IsAnswer r o copy link out_of_memory kept kept
      wants (Err place) kept = (rests, refl, inr (refl, refl))
      wants (Ok parsed) kept = inr (rests, refl, (refl, refl))

  -- what is printed of bad words
  pub leads-bad-words : (stands : KeptState → Type 0) (place : ℕ) → ConsumerRests copy link → NothingFailed o → (a : Answer) → IsPrinted (record { done = []; end = ends.BadWord place }) a → LeadsFrom stands stands (IsAnswer (Err place) o copy link a)
  leads-bad-words stands place rests nothing a printed =
      leads-printed copy link stands stands (Err place) o (record { done = []; end = ends.BadWord place }) a printed
      (leads-nowhere stands (IsAnswer (Err place) o copy link (record { done = []; end = ends.BadWord place })) (λ kept. (rests, refl, inl (refl, nothing))))
