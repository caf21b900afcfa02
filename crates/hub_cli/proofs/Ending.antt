-- What an answer's status says.
use Rattle.std.proofs.Common.{◌≡◌, ◌≢◌, ℕ, ℤ, List, [], Option, Some, None, Result, Ok, Err, IsErr}
use Rattle.std.proofs.Common.{length, refl, sym, true, ap, subst, ◌∙◌, inl, inr}
use Rattle.exchange_link.specs.Between.{CopyRun, LinkRun}
use Rattle.script_runs.specs.Below.Deltas.{IsDeltaOf}
use Rattle.script_runs.specs.Below.Syncs.{IsSyncOf}
use Rattle.script_runs.proofs.Below.DeltaDoneLemmas.{cause_fails}
use Rattle.script_runs.specs.Below.DeltaAnswer.{DeltaAnswer}
use Rattle.script_runs.specs.Below.DeltaAnswer.TheVariants as delta
use Rattle.hub_words.specs.Tasks.{Object, Sending, Task}
use Rattle.script_runs.specs.Below.Held.{IsHeldText}
use Rattle.script_runs.specs.Below.Outbox.{IsOutboxText}
use Rattle.script_runs.specs.Below.Sends.{IsEnterOf, IsSendOf}
use Rattle.csv_sets.specs.declared.fault.SetFault.{SetFault}
use Rattle.csv_sets.specs.Files as files
use Rattle.exchange_link.specs.declared.answer.SyncAnswer.{SyncAnswer}
use Rattle.exchange_link.specs.declared.answer.SyncAnswer.TheVariants as sync
use Rattle.exchange_link.specs.declared.send_answer.EnterError.{EnterError}
use Rattle.exchange_link.specs.declared.send_answer.EnterError.TheVariants as enter
use Rattle.exchange_link.specs.declared.send_answer.SendAnswer.{SendAnswer}
use Rattle.exchange_link.specs.declared.send_answer.SendAnswer.TheVariants as send
use Rattle.outside_ports.specs.declared.folder.FileRead.{FileRead}
use Rattle.outside_ports.specs.declared.folder.FileRead.TheVariants.{Absent, Bytes, TooLong}
use Rattle.outside_ports.specs.Files.{Stored}
use Rattle.roster_types.specs.Records.{Record}
use Rattle.row_json.specs.Puts.{put_of}
use Rattle.row_json.specs.declared.fault.JsonFault.{JsonFault}
use Rattle.std.specs.Prelude.{true, false, if◌then◌else◌}
use Rattle.std.specs.Str.{is_utf8}
use Rattle.version_core.specs.declared.mark.Write.{Write}
use Rattle.keeper_memory.specs.Kept.{KeptState}
use Rattle.csv_sets.specs.Written.{written_text}
use Rattle.keeper_memory.specs.copy.Copies.{Copy, held_list}
use Rattle.roster_base.specs.Faults.{Rose}
use Rattle.roster_types.specs.declared.set_row.SetRow.{SetRow}
use Rattle.roster_values.specs.declared.kind.Kind.{Kind}
use Rattle.roster_values.specs.declared.mode.Mode.{Mode}
use Rattle.roster_values.specs.declared.mode.Mode.TheVariants.{Bulk}
use Rattle.script_runs.specs.Below.Answers.{status_of}
use Rattle.script_runs.specs.Below.CascadeAnswers.{IsCascadeAnswer, cascade_run}
use Rattle.script_runs.specs.Below.ConsumerAnswers.{IsDeltaAnswer, IsSyncAnswer, ReadEnds}
use Rattle.script_runs.specs.Below.FollowAnswers.{IsFollowAnswer}
use Rattle.script_runs.specs.Below.ExportAnswers.{ExportEnds, HasTooMany, IsChangesExport, IsExport}
use Rattle.script_runs.specs.Below.ExportAnswers.{IsManifestAnswer, IsSinceAnswer, RefusesExport, earlier_feed, rows_in}
use Rattle.script_runs.specs.Below.OutboxAnswers.{IsEnterAnswer, IsEntered, IsSendAnswer, IsWriteOf}
use Rattle.script_runs.specs.Below.OutboxAnswers.{ReadsWrite, or_bad_row, put_in}
use Rattle.script_runs.specs.Below.Outside.{HaveRisen, Outside}
use Rattle.script_runs.specs.Below.Runs.{IsShowAnswer}
use Rattle.hub_cli.specs.Runs.{IsAnswer, IsCommandAnswer}
use Rattle.script_runs.specs.Below.Steps.{ReadsSet}
use Rattle.script_runs.specs.Below.ShowAnswers.{answer_of_file, answer_of_rows}
use Rattle.script_runs.specs.Below.Answer.{Answer}
use Rattle.script_runs.specs.Below.End.{End}
use Rattle.script_runs.specs.Below.End.TheVariants as ends
use Rattle.hub_words.specs.declared.task.Feed.{Feed}
use Rattle.hub_words.specs.declared.words.Command.{Command}
use Rattle.hub_words.specs.declared.words.Command.TheVariants.{Ask, Cascade, Enter, Export, ExportManifest, ExportSince}
use Rattle.hub_words.specs.declared.words.Command.TheVariants.{Follow, Grant, ListHeld, Make, Outbox, Publish, Rehearse}
use Rattle.hub_words.specs.declared.words.Command.TheVariants.{Send, Show, Sync, SyncDelta}
use Rattle.hub_words.specs.declared.words.EnterTask.{EnterTask}
use Rattle.hub_words.specs.declared.words.EnterTask.TheVariants.{Delete, Put}
use Rattle.hub_words.specs.declared.words.Parsed.{Parsed}
use Rattle.script_runs.proofs.Below.Asking.{ask-says}
use Rattle.script_runs.proofs.Below.Cascading.{CascadeSays, cascade-says}
use Rattle.script_runs.proofs.Below.Following.{follow-says}
use Rattle.script_runs.proofs.Below.Granting.{grant-says}
use Rattle.script_runs.proofs.Below.Publishing.{Says, run-says, says_folder, says_hub, says_quiet}
use Rattle.script_runs.proofs.Rehearsing.{rehearse_says}
use Rattle.script_runs.specs.Makings.{IsMakeAnswer}
use Rattle.hub_words.proofs.Quiet.{is_quiet}
use Rattle.hub_words.specs.Statuses.{bad_words_status, copy_failed_status, folder_failed_status, hub_failed_status, no_memory_status, refused_status}

module _ (o : Outside) where
  says_refused : (end : End) → status_of end ≡ refused_status → Says o end
  says_refused end is = says_quiet o end (ap is_quiet is)

  says_memory : (end : End) → end ≡ ends.NoMemory → Says o end
  says_memory end is = subst (Says o) (sym is) (says_quiet o ends.NoMemory refl)

  rows-say : (kind : Kind) (at : ℤ) (r : Result (List SetRow) SetFault) → Says o (answer_of_rows kind at r).end
  rows-say kind at (Ok rows) = says_quiet o _ refl
  rows-say kind at (Err fault) = says_quiet o _ refl

  file-says : (kind : Kind) (at : ℤ) (file : Option (List ℕ)) → Says o (answer_of_file kind at file).end
  file-says kind at None = says_quiet o _ refl
  file-says kind at (Some bytes) = rows-say kind at (files.file_of kind Bulk bytes)

  show-says : (kind : Kind) (a : Answer) → IsShowAnswer kind o a → Says o a.end
  show-says kind a (inl failed) = subst (Says o) (sym failed.1) (says_folder o failed.2)
  show-says kind a (inr (inl shown)) = subst (λ (x : Answer). Says o x.end) (sym shown.0.is) (file-says kind shown.0.at shown.0.file)
  show-says kind a (inr (inr wants)) = says_memory a.end wants.1

same_end : {a b : End} → (let r : Result Write End = Err a in r ≡ Err b) → a ≡ b
same_end e = cc

-- what refuses the file of a body
or-bad-row : (name : List ℕ) (object : Object) (body : List ℕ) (r : Result Record JsonFault) (end : End) → or_bad_row name object body r ≡ Err end → status_of end ≡ refused_status
or-bad-row name object body (Ok row) end e = absurd (cc e)
or-bad-row name object body (Err fault) end e = ap status_of (same_end (sym e))

put-refused : (object : Object) (at : ℤ) (name : List ℕ) (read : FileRead) (end : End) → put_in object at name read ≡ Err end → status_of end ≡ refused_status
put-refused object at name Absent end e = ap status_of (same_end (sym e))
put-refused object at name TooLong end e = ap status_of (same_end (sym e))
put-refused object at name (Bytes bytes) end e =
    elim (is_utf8 bytes) as (λ b. (if b then or_bad_row name object bytes (put_of object.kind object.id at bytes) else Err (ends.FileNotUtf8 name)) ≡ Err end → status_of end ≡ refused_status) [
      | true ↦ λ same. or-bad-row name object bytes (put_of object.kind object.id at bytes) end same
      | false ↦ λ same. ap status_of (same_end (sym same))
    ] e

write-refused : (files : Option (List Stored)) (moment : Option ℤ) (task : EnterTask) (end : End) → IsWriteOf files moment task (Err end) → status_of end ≡ refused_status
write-refused files moment (Put object file) end (read, at, is, reads, same) = put-refused object at file read end same
write-refused files moment (Delete object) end same = absurd (cc same)

module _ (o : Outside) (copy : CopyRun) (link : LinkRun) where
  -- what the status of an end says of all outside
  record Tells (end : End) : Type 0 where
    words : status_of end ≢ bad_words_status
    folder : status_of end ≡ folder_failed_status → HaveRisen o.folder
    keeper : status_of end ≡ hub_failed_status → HaveRisen o.keeper
    copy_says : status_of end ≡ copy_failed_status → Rose copy.faults_before copy.faults_now

  tells : (end : End) → Says o end → Tells end
  tells end says = record { words = says.words; folder = says.folder; keeper = says.keeper; copy_says = λ e. absurd (says.copy e) }

  tells_quiet : (end : End) → is_quiet (status_of end) ≡ true → Tells end
  tells_quiet end quiet = tells end (says_quiet o end quiet)

  tells_copy : (end : End) → status_of end ≡ copy_failed_status → Rose copy.faults_before copy.faults_now → Tells end
  tells_copy end is rose = record { words = λ e. cc (sym is ∙ e); folder = λ e. cc (sym is ∙ e); keeper = λ e. cc (sym is ∙ e); copy_says = λ e. rose }

  own-tells : (s : SyncAnswer) → s ≢ sync.KeeperFault → Tells (ends.Synced s)
  own-tells sync.KeeperFault other = absurd (other refl)
  own-tells s other = tells_quiet _ refl

  synced-tells : (task : Task) (s : SyncAnswer) → IsSyncOf task s copy link → Tells (ends.Synced s)
  synced-tells task sync.KeeperFault is = tells_copy _ refl is.cause.only
  synced-tells task s is = own-tells s (λ e. cc e)

  sync-tells : (task : Task) (a : Answer) → IsSyncAnswer task copy link a → Tells a.end
  sync-tells task a (none, s, is, inl same) = subst Tells (sym same) (synced-tells task s is)
  sync-tells task a (none, s, is, inr same) = tells a.end (says_memory o a.end same)

  -- an end with the status of another tells as that does
  ended-tells : (s : SyncAnswer) → Tells (ends.Synced s) → Tells (ends.DeltaSynced (delta.Ended s))
  ended-tells s t = record { words = t.words; folder = t.folder; keeper = t.keeper; copy_says = t.copy_says }

  delta_synced-tells : (task : Task) (d : DeltaAnswer) → IsDeltaOf task d copy link → Tells (ends.DeltaSynced d)
  delta_synced-tells task (delta.Ended sync.KeeperFault) is = tells_copy _ refl (cause_fails _ _ _ _ _ _ _ _ is.cause.only refl)
  delta_synced-tells task (delta.Ended s) is = ended-tells s (own-tells s (λ e. cc e))
  delta_synced-tells task delta.NoBase is = tells_quiet _ refl
  delta_synced-tells task (delta.BaseGone held oldest) is = tells_quiet _ refl

  delta-tells : (task : Task) (a : Answer) → IsDeltaAnswer task copy link a → Tells a.end
  delta-tells task a (none, d, is, inl same) = subst Tells (sym same) (delta_synced-tells task d is)
  delta-tells task a (none, d, is, inr same) = tells a.end (says_memory o a.end same)

  -- what is said of a cascade is told of it
  told-says : (end : End) → CascadeSays o.keeper copy end → Tells end
  told-says end says = record { words = says.words; folder = λ e. absurd (says.folder e); keeper = says.keeper; copy_says = says.copy_says }

  cascade-tells : (feed : List ℕ) (a : Answer) (before after : KeptState) → IsCascadeAnswer (cascade_run feed o.moment o.keeper copy) a before after → Tells a.end
  cascade-tells feed a before after is = told-says a.end (cascade-says feed o.moment o.keeper copy a before after is)

  follow-tells : (task : Task) (feed : List ℕ) (a : Answer) (before after : KeptState) → IsFollowAnswer task (cascade_run feed o.moment o.keeper copy) link a before after → Tells a.end
  follow-tells task feed a before after is = told-says a.end (follow-says task feed o.moment o.keeper copy link a before after is)

  read-tells : (is_text : List ℕ → Type 0) (a : Answer) → ReadEnds is_text copy a → Tells a.end
  read-tells is_text a (inl told) = subst Tells (sym told.0) (tells_quiet ends.Done refl)
  read-tells is_text a (inr (inl failed)) = subst Tells (sym failed.0) (tells_copy _ refl failed.2)
  read-tells is_text a (inr (inr wants)) = tells a.end (says_memory o a.end wants.0)

  manifest-tells : (mode : Mode) (a : Answer) → IsManifestAnswer mode a → Tells a.end
  manifest-tells mode a (inl told) = subst Tells (sym told.1) (tells_quiet ends.Done refl)
  manifest-tells mode a (inr wants) = tells a.end (says_memory o a.end wants.1)

  refused-tells : (HasBytes : Copy → ℕ → Type 0) (kind : Kind) (end : End) → RefusesExport HasBytes kind copy.stands end → Tells end
  refused-tells HasBytes kind ends.NothingHeld refuses = tells_quiet _ refl
  refused-tells HasBytes kind (ends.ExportTooLarge named bytes) refuses = tells_quiet _ refl
  refused-tells HasBytes kind end refuses = absurd refuses

  export-tells : (IsText : (Copy → Type 0) → List ℕ → Type 0) (HasBytes : Copy → ℕ → Type 0) (kind : Kind) (a : Answer) → ExportEnds IsText HasBytes kind copy a → Tells a.end
  export-tells IsText HasBytes kind a (stays, inl reads) = read-tells (IsText copy.stands) a reads
  export-tells IsText HasBytes kind a (stays, inr refused) = refused-tells HasBytes kind a.end refused.1

  -- a set that isn't read
  set-tells : (feed : Feed) (end : End) → ReadsSet o.files o.folder feed (Err end) → Tells end
  set-tells feed ends.FolderFailed rose = tells _ (says_folder o rose)
  set-tells feed (ends.Refused fault) reads = tells_quiet _ refl
  set-tells feed ends.NoMemory reads = tells_quiet _ refl
  set-tells feed end reads = absurd reads

  since-tells : (kind : Kind) (dir : List ℕ) (a : Answer) → IsSinceAnswer kind dir o copy a → Tells a.end
  since-tells kind dir a (inl (end, same, reads, is)) = subst (λ (x : Answer). Tells x.end) (sym is) (set-tells (earlier_feed dir) end reads)
  since-tells kind dir a (inr (set, at, reads, moment, ends_so)) = export-tells (IsChangesExport at (rows_in kind set.parts) kind) (HasTooMany at (rows_in kind set.parts) kind) kind a ends_so

  sent-tells : (task : Sending) (s : SendAnswer) → IsSendOf task s copy link → Tells (ends.Sent s)
  sent-tells task send.KeeperFault is = tells_copy _ refl is.cause.only
  sent-tells task s is = tells_quiet _ refl

  send-tells : (task : Sending) (a : Answer) → IsSendAnswer task copy link a → Tells a.end
  send-tells task a (none, s, is, inl same) = subst Tells (sym same) (sent-tells task s is)
  send-tells task a (none, s, is, inr same) = tells a.end (says_memory o a.end same)

  not-entered-tells : (write : Write) (error : EnterError) → IsEnterOf write (Err error) copy → Tells (ends.NotEntered error)
  not-entered-tells write enter.LastNumber is = tells_quiet _ refl
  not-entered-tells write enter.NoMemory is = tells_quiet _ refl
  not-entered-tells write enter.KeeperFault is = tells_copy _ refl (is.cause refl)

  entered-tells : (write : Write) (r : Result ℕ EnterError) (a : Answer) → IsEnterOf write r copy → IsEntered r a → Tells a.end
  entered-tells write (Ok number) a is (inl told) = subst Tells (sym told.1) (tells_quiet ends.Done refl)
  entered-tells write (Ok number) a is (inr wants) = tells a.end (says_memory o a.end wants.1)
  entered-tells write (Err error) a is (none, inl same) = subst Tells (sym same) (not-entered-tells write error is)
  entered-tells write (Err error) a is (none, inr same) = tells a.end (says_memory o a.end same)

  stop-tells : (task : EnterTask) (end : End) → ReadsWrite o task (Err end) → Tells end
  stop-tells task ends.FolderFailed reads = tells _ (says_folder o reads)
  stop-tells task ends.NoMemory reads = tells_quiet _ refl
  stop-tells task end reads = tells end (says_refused o end (write-refused o.files o.moment task end reads.0))

  enter-tells : (task : EnterTask) (a : Answer) → IsEnterAnswer task o copy a → Tells a.end
  enter-tells task a (inl (end, same, reads, is)) = subst (λ (x : Answer). Tells x.end) (sym is) (stop-tells task end reads)
  enter-tells task a (inr (write, r, reads, is, entered)) = entered-tells write r a is entered

  make-tells : (count : ℕ) (done : List ℕ) (end : End) → IsMakeAnswer count done end → Tells end
  make-tells count done (ends.Synced s) is = own-tells s is.copied.keeper
  make-tells count done ends.NoMemory is = tells_quiet _ refl
  make-tells count done end is = absurd is

  command-tells : (command : Command) (a : Answer) (before after : KeptState) → IsCommandAnswer command o copy link a before after → Tells a.end
  command-tells (Show kind) a before after is = tells a.end (show-says o kind a is.2)
  command-tells (Publish feeds) a before after (rests, inl failed) =
      subst Tells (sym failed.1.1) (tells ends.HubFailed (says_hub o failed.1.2))
  command-tells (Publish feeds) a before after (rests, inr run) = tells a.end (run-says o feeds a.done a.end before after run)
  command-tells (Grant file) a before after is = tells a.end (grant-says o file a.done a.end before after is.1)
  command-tells (Ask file) a before after is = tells a.end (ask-says o file a.done a.end before after is.1)
  command-tells (Sync task) a before after is = sync-tells task a is.2
  command-tells (SyncDelta task) a before after is = delta-tells task a is.2
  command-tells (Cascade feed) a before after is = cascade-tells feed a before after is.2
  command-tells (Follow task feed) a before after is = follow-tells task feed a before after is.1
  command-tells (Enter task) a before after is = enter-tells task a is.3
  command-tells (Send task) a before after is = send-tells task a is.2
  command-tells Outbox a before after is = read-tells (IsOutboxText copy.stands) a is.3.1
  command-tells (ListHeld kind) a before after is = read-tells (IsHeldText kind copy.stands) a is.3.1
  command-tells (ExportManifest mode) a before after is = manifest-tells mode a is.3
  command-tells (Export kind) a before after is = export-tells (IsExport kind) (λ c bytes. bytes ≡ length (written_text kind (held_list c kind))) kind a is.3
  command-tells (ExportSince kind dir) a before after is = since-tells kind dir a is.3
  command-tells (Rehearse file) a before after is =
      let says = rehearse_says o.files o.folder file a.done a.end is.3 in
      record { words = says.words; folder = says.folder_rose; keeper = λ e. absurd (says.keeper e); copy_says = λ e. absurd (says.copy e) }
  command-tells (Make count) a before after is = make-tells count a.done a.end is.3

  -- status 2 comes only with bad words
  pub answer-words : (r : Result Parsed ℕ) (a : Answer) (before after : KeptState) → IsAnswer r o copy link a before after → status_of a.end ≡ bad_words_status → IsErr r
  answer-words (Err place) a before after is e = refl
  answer-words (Ok parsed) a before after (inl is) e = absurd ((command-tells parsed.command a before after is).words e)
  answer-words (Ok parsed) a before after (inr wants) e = absurd ((says_memory o a.end wants.2.1).words e)

  -- and always with them, unless memory runs out
  pub answer-bad : (r : Result Parsed ℕ) (a : Answer) (before after : KeptState) → IsAnswer r o copy link a before after → IsErr r → status_of a.end ≢ no_memory_status → status_of a.end ≡ bad_words_status
  answer-bad (Err place) a before after (rests, same, inl bad) err other = ap (λ (x : Answer). status_of x.end) bad.0
  answer-bad (Err place) a before after (rests, same, inr wants) err other = absurd (other (ap status_of wants.1))
  answer-bad (Ok parsed) a before after is err other = cc err

  -- what the statuses of a folder, a keeper and a copy that failed say
  pub record Blames (end : End) : Type 0 where
    pub folder : status_of end ≡ folder_failed_status → HaveRisen o.folder
    pub keeper : status_of end ≡ hub_failed_status → HaveRisen o.keeper
    pub copy_says : status_of end ≡ copy_failed_status → Rose copy.faults_before copy.faults_now

  blames : (end : End) → Tells end → Blames end
  blames end t = record { folder = t.folder; keeper = t.keeper; copy_says = t.copy_says }

  pub answer-says : (r : Result Parsed ℕ) (a : Answer) (before after : KeptState) → IsAnswer r o copy link a before after → Blames a.end
  answer-says (Err place) a before after (rests, same, inl bad) = record { folder = λ e. cc (e, bad.0); keeper = λ e. cc (e, bad.0); copy_says = λ e. cc (e, bad.0) }
  answer-says (Err place) a before after (rests, same, inr wants) = blames a.end (tells a.end (says_memory o a.end wants.1))
  answer-says (Ok parsed) a before after (inl is) = blames a.end (command-tells parsed.command a before after is)
  answer-says (Ok parsed) a before after (inr wants) = blames a.end (tells a.end (says_memory o a.end wants.2.1))
