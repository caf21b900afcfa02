-- What a run over the real folder, clock and stores answers, which tell nothing of files, moments and copies.
use Rattle.std.specs.Prelude.{◌≡◌, ◌≢◌, ⊤, ℕ, List, [], ◌∷◌, Option, None, Some, Result, IsErr, IfNone}
use Rattle.std.specs.Io.KnownBytes.{Appends}
use Rattle.hub_cli.specs.Below.ConsumerAnswers.{CopyRun, LinkRun, copy_run}
use Rattle.keeper_memory.specs.copy.Copies.{Copy, IsCopy}
use Rattle.keeper_memory.specs.copy.HeldCopy.{empty_copy}
use Rattle.outside_ports.specs.Written.{AppendsPart}
use Rattle.roster_base.specs.Faults.{Rose}
use Rattle.keeper_memory.specs.Kept.{IsKept, KeptState}
use Rattle.version_core.specs.Version.{empty_version}
use Rattle.hub_cli.specs.Below.Answers.{status_of, text_of}
use Rattle.hub_cli.specs.Below.Outside.{Faults, outside_of}
use Rattle.hub_cli.specs.Below.Runs.{LeadsFrom}
use Rattle.hub_cli.specs.Runs.{IsAnswer}
use Rattle.hub_words.specs.Statuses.{bad_words_status, no_memory_status, output_failed_status}
use Rattle.hub_words.specs.Words.{keep_in, store_in}
use Rattle.hub_cli.specs.Below.Answer.{Answer}
use Rattle.hub_words.specs.declared.words.Parsed.{Parsed}

-- version 0 alone, with so many versions to be kept beside the newest
abbrev pub new_hub : ℕ → KeptState
new_hub keep = record { keep = keep; versions = empty_version ∷ []; marks = [] }

-- ---- what a run leaves of a consumer

-- the copy of a keeper in memory, and the counts of its keeper's faults, before a run and after it
pub record RealCopy : Type 0 where
  pub now : Copy
  pub before : ℕ
  pub faults : ℕ

-- the copy was empty, and nothing had failed
abbrev pub new_copy_run : RealCopy → CopyRun
new_copy_run c = copy_run (λ copy. (copy ≡ empty_copy) × IsCopy copy) (λ copy. (copy ≡ c.now) × IsCopy copy) 0 c.faults (c.now ≡ empty_copy)

-- nothing is told of the copy in a store
abbrev pub stored_copy_run : ℕ → ℕ → CopyRun
stored_copy_run before faults = copy_run (λ copy. ⊥) (λ copy. ⊥) before faults (faults ≡ before)

-- the copy is a new one where no store is named
abbrev pub real_copy_run : Option (List ℕ) → RealCopy → CopyRun
real_copy_run None c = new_copy_run c
real_copy_run (Some folder) c = stored_copy_run c.before c.faults

-- the link's counts, before a run and after it, and the answer that it keeps
pub record RealLink : Type 0 where
  pub asked_before : ℕ
  pub asked_now : ℕ
  pub missed : ℕ
  pub kept : List ℕ
  pub faults_before : ℕ
  pub faults_now : ℕ

-- the link tells nothing of a hub
abbrev pub silent_link_run : RealLink → LinkRun
silent_link_run l = record {
  told = λ told. ⊥;
  tells = λ told. ⊥;
  asked_before = l.asked_before;
  asked_now = l.asked_now;
  missed = l.missed;
  kept = l.kept;
  faults_before = l.faults_before;
  faults_now = l.faults_now;
  same = ⊤;
}

-- ---- answers

-- an answer to words over keepers that stood for a state, and then for another, over a copy and over a link
pub record AnswersOver (old new : KeptState → Type 0) (copy : CopyRun) (link : LinkRun) (parsed : Result Parsed ℕ) (answer : Answer) : Type 0 where
  pub folder : Faults
  pub keeper : Faults
  pub leads : LeadsFrom old new (IsAnswer parsed (outside_of None None folder keeper) copy link answer)

-- an answer to words over keepers that stood for a state, and then for another, and over a copy
pub record AnswersFrom (old new : KeptState → Type 0) (copy : CopyRun) (parsed : Result Parsed ℕ) (answer : Answer) : Type 0 where
  pub link : RealLink
  pub over : AnswersOver old new copy (silent_link_run link) parsed answer

-- an answer to words: it leads from a state of a hub to another. Where no store is named, it leads from that of a new
-- hub, and the consumer's copy is a new one
pub record IsRealAnswer (parsed : Result Parsed ℕ) (answer : Answer) : Type 0 where
  pub folder : Faults
  pub keeper : Faults
  pub copy : RealCopy
  pub link : RealLink
  pub before : KeptState
  pub after : KeptState
  pub is : IsKept before
  pub new : IfNone (store_in parsed) (before ≡ new_hub (keep_in parsed))
  pub some : IsAnswer parsed (outside_of None None folder keeper) (real_copy_run (store_in parsed) copy) (silent_link_run link) answer before after

-- the status of such an answer is given, and its text is written
abbrev pub Tells : (Answer → Type 0) → ℕ → Option (List ℕ) → Option (List ℕ) → Type 0
Tells is status old new = (a : Answer) × is a × (status ≡ status_of a.end) × Appends old new (text_of a)

-- a front of such an answer's text is written
abbrev pub TellsPart : (Answer → Type 0) → Option (List ℕ) → Option (List ℕ) → Type 0
TellsPart is old new = (a : Answer) × is a × AppendsPart old new (text_of a)

-- what a run writes, with its status: the text of an answer of which this is so, or where the sink failed a front of
-- such a text
pub record Runs (is : Answer → Type 0) (parsed : Result Parsed ℕ) (status : ℕ) (old new : Option (List ℕ)) (faults_before faults_now : ℕ) : Type 0 where
  pub done : status ≢ output_failed_status → Tells is status old new
  pub part : status ≡ output_failed_status → TellsPart is old new
  pub words_are_bad : status ≡ bad_words_status → IsErr parsed
  pub bad_words : IsErr parsed → status ≢ output_failed_status → status ≢ no_memory_status → status ≡ bad_words_status
  pub sink_failed : status ≡ output_failed_status → Rose faults_before faults_now
  pub sink_stood : status ≢ output_failed_status → faults_now ≡ faults_before

-- between two states of a sink
abbrev pub RunsBetween : {O : Type 0} → (O → Option (List ℕ)) → (O → ℕ) → O → O → ℕ → Result Parsed ℕ → (Answer → Type 0) → Type 0
RunsBetween written faults old new status parsed is = Runs is parsed status (written old) (written new) (faults old) (faults new)
