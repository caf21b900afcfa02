-- What a server over the real sockets writes with its status.
use Rattle.std.specs.Prelude.{◌≡◌, ◌≢◌, ◌==◌, ℕ, List, [], Option, Result, Ok, Err, IsErr, if◌then◌else◌, length}
use Rattle.std.specs.Io.KnownBytes.{Appends}
use Rattle.hub_cli.specs.Below.Lines.{bad_word_text, no_memory}
use Rattle.hub_words.specs.Statuses.{bad_words_status, no_memory_status, output_failed_status}
use Rattle.hub_words.specs.Words.{split_serve}
use Rattle.hub_words.specs.declared.words.ServeWords.{ServeWords}
use Rattle.outside_ports.specs.Written.{AppendsPart}
use Rattle.roster_base.specs.Faults.{Rose}

-- there are as many acceptors and folders as the words of a server name
abbrev pub FitWords : {A F : Type 0} → List A → List F → List (List ℕ) → Type 0
FitWords acceptors folders words = (w : ServeWords) → split_serve words ≡ Ok w → (length acceptors ≡ length w.task.addresses) × (length folders ≡ length w.task.feeds)

-- the text of a status: that memory ran out, the place of words that are bad, or nothing
abbrev pub serve_text : Result ServeWords ℕ → ℕ → List ℕ
serve_text (Ok serve) status = if status == 17 then no_memory else []
serve_text (Err place) status = if status == 17 then no_memory else bad_word_text place

-- what a server writes, with its status: the text of the status, or where the sink failed a front of such a text
pub record Serves (parsed : Result ServeWords ℕ) (status : ℕ) (old new : Option (List ℕ)) (faults_before faults_now : ℕ) : Type 0 where
  pub done : status ≢ output_failed_status → Appends old new (serve_text parsed status)
  pub part : status ≡ output_failed_status → (s : ℕ) × AppendsPart old new (serve_text parsed s)
  pub words_are_bad : status ≡ bad_words_status → IsErr parsed
  pub bad_words : IsErr parsed → status ≢ output_failed_status → status ≢ no_memory_status → status ≡ bad_words_status
  pub sink_failed : status ≡ output_failed_status → Rose faults_before faults_now
  pub sink_stood : status ≢ output_failed_status → faults_now ≡ faults_before

-- between two states of a sink
abbrev pub ServesBetween : {O : Type 0} → (O → Option (List ℕ)) → (O → ℕ) → O → O → ℕ → Result ServeWords ℕ → Type 0
ServesBetween written faults old new status parsed = Serves parsed status (written old) (written new) (faults old) (faults new)
