-- What a command answers, why, and what is written of it.
use Rattle.std.specs.Prelude.{◌≡◌, ◌≢◌, ◌⊎◌, ℕ, List, [], Option}
use Rattle.std.specs.Io.KnownBytes.{Appends}
use Rattle.keeper_memory.specs.Kept.{IsKept, KeptState}
use Rattle.outside_ports.specs.Written.{AppendsPart}
use Rattle.roster_base.specs.Faults.{Rose}
use Rattle.roster_values.specs.declared.kind.Kind.{Kind}
use Rattle.hub_commands.specs.Answers.{status_of, text_of}
use Rattle.hub_commands.specs.declared.answer.Answer.{Answer}
use Rattle.hub_commands.specs.declared.answer.End.TheVariants.{FolderFailed, HubFailed, NoMemory}
use Rattle.hub_commands.specs.Outside.{HaveRisen, HaveStood, Outside}
use Rattle.hub_commands.specs.PublishAnswers.{IsRunOf}
use Rattle.hub_commands.specs.ShowAnswers.{IsShown}
use Rattle.hub_words.specs.Statuses.{output_failed_status}
use Rattle.hub_words.specs.declared.task.Feed.{Feed}

-- memory ran out before anything was done
abbrev pub WantsMemory : Answer → Type 0
WantsMemory answer = (answer.done ≡ []) × (answer.end ≡ NoMemory)

-- the folder failed, and its count of faults rose
abbrev pub IsFolderFailure : Outside → Answer → Type 0
IsFolderFailure outside answer = (answer.done ≡ []) × (answer.end ≡ FolderFailed) × HaveRisen outside.folder

-- the hub couldn't be opened: its keeper failed, and the keeper's count of faults rose
abbrev pub IsHubFailure : Outside → Answer → Type 0
IsHubFailure outside answer = (answer.done ≡ []) × (answer.end ≡ HubFailed) × HaveRisen outside.keeper

-- the answer of `show`, which looks at no hub
abbrev pub IsShowAnswer : Kind → Outside → Answer → Type 0
IsShowAnswer kind outside answer = IsFolderFailure outside answer ⊎ (IsShown outside kind answer × HaveStood outside.folder) ⊎ WantsMemory answer

-- the answer of `publish`
abbrev pub IsPublishAnswer : Outside → List Feed → Answer → KeptState → KeptState → Type 0
IsPublishAnswer outside feeds answer before after = ((after ≡ before) × IsHubFailure outside answer) ⊎ IsRunOf outside feeds answer.done answer.end before after

-- a relation of states holds of a run over a keeper that stood for what `old` holds of, and then for what `new` holds
-- of: there is a state of a hub from which it leads to another; and where the keeper tells, it stood for such a state
-- before
pub record LeadsFrom (old new : KeptState → Type 0) (leads : KeptState → KeptState → Type 0) : Type 0 where
  pub before : KeptState
  pub after : KeptState
  pub is : IsKept before
  pub some : leads before after
  pub told : (now : KeptState) → new now → (stood : KeptState) × old stood × leads stood now

-- between two states of a keeper
abbrev pub LeadsBetween : {H : Type 0} → (H → KeptState → Type 0) → H → H → (KeptState → KeptState → Type 0) → Type 0
LeadsBetween stands_for old new leads = LeadsFrom (stands_for old) (stands_for new) leads

-- what is written, with its status: the text of an answer of which this is so, or where the sink failed a front of such
-- a text
abbrev pub Writes : ℕ → Option (List ℕ) → Option (List ℕ) → ℕ → ℕ → (Answer → Type 0) → Type 0
Writes status old new before now is =
    (answer : Answer) × is answer
    × (((status ≢ output_failed_status) × (status ≡ status_of answer.end) × Appends old new (text_of answer) × (now ≡ before))
    ⊎ ((status ≡ output_failed_status) × Rose before now × AppendsPart old new (text_of answer)))

-- between two states of a sink
abbrev pub WritesBetween : {O : Type 0} → (O → Option (List ℕ)) → (O → ℕ) → O → O → ℕ → (Answer → Type 0) → Type 0
WritesBetween written faults old new status is = Writes status (written old) (written new) (faults old) (faults new) is
