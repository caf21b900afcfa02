-- What is written by a rehearsal.
use Rattle.std.proofs.Common.{◌≡◌, ◌≢◌, ◌++◌, ℕ, List, [], Option, Some, None, Ok, inl, inr, length, refl, subst, sym}
use Rattle.std.proofs.Common.{arith, true}
use Rattle.std.specs.Io.KnownBytes.{Appends}
use Rattle.hub_commands.proofs.Telling.{writes_as}
use Rattle.hub_commands.specs.Answers.{IsPrinted, end_text, status_of, text_of}
use Rattle.hub_commands.specs.AskAnswers.{IsBytesOf}
use Rattle.hub_commands.specs.Outside.{Faults, HaveRisen, HaveStood, faults_of}
use Rattle.hub_commands.specs.Runs.{Writes}
use Rattle.hub_commands.specs.declared.answer.Answer.{Answer}
use Rattle.hub_commands.specs.declared.answer.End.{End}
use Rattle.hub_commands.specs.declared.answer.End.TheVariants.{Done, FileTooLarge, FolderFailed, MissingFile, NoMemory}
use Rattle.hub_commands.specs.declared.answer.End.TheVariants.{ScriptRefused}
use Rattle.outside_ports.proofs.Appending.{appends_both, part_behind, part_front}
use Rattle.outside_ports.specs.Files.{Stored}
use Rattle.outside_ports.specs.Written.{AppendsPart}
use Rattle.roster_base.specs.Faults.{Rose}
use Rattle.script_runs.specs.Rehearsals.{IsRehearseAnswer, IsScriptOf, PrintsFirst, RehearsesBytes, RunEnds, end_in}
use Rattle.script_runs.specs.Runs as runs
use Rattle.script_runs.specs.declared.run.ScriptEnd.{ScriptEnd}
use Rattle.script_runs.specs.declared.run.ScriptEnd.TheVariants as script
use Rattle.world_scripts.specs.declared.script.Line.{Line}
use Rattle.hub_words.specs.Statuses.{bad_words_status, copy_failed_status, folder_failed_status, hub_failed_status, output_failed_status}
use Rattle.hub_words.proofs.Quiet.{is_quiet, unlike}

-- an answer's line, behind a text that was written before it
module _ (status : ℕ) (old mid new : Option (List ℕ)) (before now : ℕ) (done : List ℕ) (end : End) (wrote : Appends old mid done) where
  behind_it : (a : Answer) → IsPrinted (record { done = []; end = end }) a → (text_of (record a { done = done }) ≡ done ++ text_of a) × IsPrinted (record { done = done; end = end }) (record a { done = done })
  behind_it a (inl same) = subst (λ (x : Answer). (text_of (record x { done = done }) ≡ done ++ text_of x) × IsPrinted (record { done = done; end = end }) (record x { done = done })) (sym same) (refl, inl refl)
  behind_it a (inr (other, same)) = subst (λ (x : Answer). (text_of (record x { done = done }) ≡ done ++ text_of x) × IsPrinted (record { done = done; end = end }) (record x { done = done })) (sym same) (refl, inr (other, refl))

  pub told_behind : Writes status mid new before now (IsPrinted (record { done = []; end = end })) → Writes status old new before now (IsPrinted (record { done = done; end = end }))
  told_behind (a, is, inl (other, same, text, stood)) =
      let b = behind_it a is in
      (record a { done = done }, b.1, inl (other, same, subst (λ (t : List ℕ). Appends old new t) (sym b.0) (appends_both old mid new done (text_of a) wrote text), stood))
  told_behind (a, is, inr (failed, rose, text)) =
      let b = behind_it a is in
      (record a { done = done }, b.1, inr (failed, rose, subst (λ (t : List ℕ). AppendsPart old new t) (sym b.0) (part_behind old mid new done (text_of a) wrote text)))

-- a run's end, as it is told behind what the run wrote
module _ (files : Option (List Stored)) (folder : Faults) (lines : List Line) where
  abbrev Ends : Answer → Type 0
  Ends a = RunEnds files folder lines a.done a.end

  printed_whole : (done : List ℕ) → RunEnds files folder lines done Done → (a : Answer) → IsPrinted (record { done = done; end = Done }) a → Ends a
  printed_whole done ends a (inl same) = subst Ends (sym same) ends
  printed_whole done ends a (inr (other, same)) = absurd (other refl)

  printed_first : (done : List ℕ) (end : End) → PrintsFirst files lines done → RunEnds files folder lines done end → (a : Answer) → IsPrinted (record { done = done; end = end }) a → Ends a
  printed_first done end first ends a (inl same) = subst Ends (sym same) ends
  printed_first done end first ends a (inr (other, same)) = subst Ends (sym same) first

  module _ (status : ℕ) (old mid new : Option (List ℕ)) (before between now : ℕ) where
    told_end : (done : List ℕ) (end : End) → Appends old mid done → between ≡ before → Writes status mid new between now (IsPrinted (record { done = []; end = end }))
        → Writes status old new before now (IsPrinted (record { done = done; end = end }))
    told_end done end wrote stood told = told_behind status old mid new before now done end wrote (subst (λ n. Writes status mid new n now (IsPrinted (record { done = []; end = end }))) stood told)

    pub run_told : (e : ScriptEnd) → runs.Writes files lines old mid e → (e ≡ script.Folder → HaveRisen folder) → (e ≡ script.Done → HaveStood folder) → (e ≡ script.Sink → Rose before between)
        → (e ≢ script.Sink → between ≡ before) → ((ended : End) → end_in e ≡ Some ended → Writes status mid new between now (IsPrinted (record { done = []; end = ended })))
        → (end_in e ≡ None → (status ≡ output_failed_status) × (new ≡ mid) × (now ≡ between)) → Writes status old new before now Ends
    run_told script.Done (run, wrote) risen rests rose stood told none =
        writes_as old new (printed_whole (runs.printed run.stages) (run, refl, rests refl))
        (told_end (runs.printed run.stages) Done wrote (stood (λ e. cc e)) (told Done refl))
    run_told script.Folder (count, few, run, wrote) risen rests rose stood told none =
        let first : PrintsFirst files lines (runs.printed run.stages) = (count, omega (arith, few), run, refl) in
        writes_as old new (printed_first (runs.printed run.stages) FolderFailed first (first, risen refl))
        (told_end (runs.printed run.stages) FolderFailed wrote (stood (λ e. cc e)) (told FolderFailed refl))
    run_told script.NoMemory (count, few, run, wrote) risen rests rose stood told none =
        let first : PrintsFirst files lines (runs.printed run.stages) = (count, few, run, refl) in
        writes_as old new (printed_first (runs.printed run.stages) NoMemory first first)
        (told_end (runs.printed run.stages) NoMemory wrote (stood (λ e. cc e)) (told NoMemory refl))
    run_told script.Sink (count, few, run, part) risen rests rose stood told none =
        let done : List ℕ = runs.printed run.stages in
        let idle = none refl in (
          record { done = done; end = NoMemory },
          (count, few, run, refl),
          inr (idle.0, subst (λ n. Rose before n) (sym idle.2) (rose refl), subst (λ (o : Option (List ℕ)). AppendsPart old o (done ++ end_text NoMemory)) (sym idle.1) (part_front old mid done (end_text NoMemory) part)),
        )

-- the bytes of a file are the script's
of_bytes : (files : Option (List Stored)) (folder : Faults) (file bytes : List ℕ) → IsBytesOf files file (Ok bytes) → (a : Answer) → RehearsesBytes files folder bytes a.done a.end
    → IsRehearseAnswer files folder file a.done a.end
of_bytes files folder file bytes is a runs = by a.end a.done runs
  where
    by : (end : End) (done : List ℕ) → RehearsesBytes files folder bytes done end → IsRehearseAnswer files folder file done end
    by (ScriptRefused n) done (none, refused, stood) = inl (none, (bytes, is, refused, stood))
    by NoMemory done (inl none) = inl (none, tt)
    by NoMemory done (inr (lines, spelled, first)) = inr (lines, (bytes, is, spelled), first)
    by end done runs = inr (runs.0, (bytes, is, runs.1), runs.2)

-- the folder tells the same files behind the read of the script's, which counted no fault
pub of_file : (files mid : Option (List Stored)) (before between now : ℕ) (file bytes : List ℕ) → mid ≡ files → between ≡ before → IsBytesOf files file (Ok bytes) → (a : Answer)
    → RehearsesBytes mid (faults_of between now) bytes a.done a.end → IsRehearseAnswer files (faults_of before now) file a.done a.end
of_file files mid before between now file bytes same stood is a runs =
    of_bytes files (faults_of before now) file bytes is a
    (subst (λ n. RehearsesBytes files (faults_of n now) bytes a.done a.end) stood (subst (λ (fs : Option (List Stored)). RehearsesBytes fs (faults_of between now) bytes a.done a.end) same runs))

-- ---- answers

-- memory may run out for the line of an end
pub rehearse_wants : (files : Option (List Stored)) (folder : Faults) (file done : List ℕ) (end : End) → IsRehearseAnswer files folder file done end → end ≢ Done → IsRehearseAnswer files folder file done NoMemory
rehearse_wants files folder file done end (inl (none, stops)) other = inl (none, tt)
rehearse_wants files folder file done Done (inr (lines, is, ends)) other = absurd (other refl)
rehearse_wants files folder file done FolderFailed (inr (lines, is, ends)) other = inr (lines, is, ends.0)
rehearse_wants files folder file done NoMemory (inr is) other = inr is
rehearse_wants files folder file done end (inr (lines, is, ends)) other = absurd ends

-- what is so of an end with status 0: all lines were run
pub rehearse_done : (files : Option (List Stored)) (folder : Faults) (file done : List ℕ) (end : End) → IsRehearseAnswer files folder file done end → status_of end ≡ 0
    → (end ≡ Done) × (lines : List Line) × IsScriptOf files file lines × (run : runs.RunsFirst files lines (length lines)) × (done ≡ runs.printed run.stages)
rehearse_done files folder file done Done (inl (none, stops)) is = absurd stops
rehearse_done files folder file done Done (inr (lines, of, ends)) is = (refl, lines, of, ends.0, ends.1)
rehearse_done files folder file done FolderFailed answer is = absurd (cc is)
rehearse_done files folder file done NoMemory answer is = absurd (cc is)
rehearse_done files folder file done (MissingFile name) answer is = absurd (cc is)
rehearse_done files folder file done (FileTooLarge name) answer is = absurd (cc is)
rehearse_done files folder file done (ScriptRefused line) answer is = absurd (cc is)
rehearse_done files folder file done end (inl (none, stops)) is = absurd stops
rehearse_done files folder file done end (inr (lines, of, ends)) is = absurd ends

-- what the status of an end says of the folder, and that it blames neither the words nor the hub's keeper or the copy's
pub record RehearseSays (folder : Faults) (end : End) : Type 0 where
  pub words : status_of end ≢ bad_words_status
  pub folder_rose : status_of end ≡ folder_failed_status → HaveRisen folder
  pub keeper : status_of end ≢ hub_failed_status
  pub copy : status_of end ≢ copy_failed_status

quiet_rehearse : (folder : Faults) (end : End) → is_quiet (status_of end) ≡ true → RehearseSays folder end
quiet_rehearse folder end quiet = record {
  words = unlike (status_of end) bad_words_status quiet refl;
  folder_rose = λ e. absurd (unlike (status_of end) folder_failed_status quiet refl e);
  keeper = unlike (status_of end) hub_failed_status quiet refl;
  copy = unlike (status_of end) copy_failed_status quiet refl;
}

risen_rehearse : (folder : Faults) → HaveRisen folder → RehearseSays folder FolderFailed
risen_rehearse folder risen = record { words = λ e. cc e; folder_rose = λ e. risen; keeper = λ e. cc e; copy = λ e. cc e }

pub rehearse_says : (files : Option (List Stored)) (folder : Faults) (file done : List ℕ) (end : End) → IsRehearseAnswer files folder file done end → RehearseSays folder end
rehearse_says files folder file done Done answer = quiet_rehearse folder _ refl
rehearse_says files folder file done NoMemory answer = quiet_rehearse folder _ refl
rehearse_says files folder file done (MissingFile name) answer = quiet_rehearse folder _ refl
rehearse_says files folder file done (FileTooLarge name) answer = quiet_rehearse folder _ refl
rehearse_says files folder file done (ScriptRefused line) answer = quiet_rehearse folder _ refl
rehearse_says files folder file done FolderFailed (inl (none, stops)) = risen_rehearse folder stops
rehearse_says files folder file done FolderFailed (inr (lines, is, ends)) = risen_rehearse folder ends.1
rehearse_says files folder file done end (inl (none, stops)) = absurd stops
rehearse_says files folder file done end (inr (lines, is, ends)) = absurd ends
