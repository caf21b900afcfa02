-- What a write is answered with, and where it leads.
use Rattle.std.specs.Prelude.{◌≡◌, ◌⊎◌, ◌&&◌, ℕ, ℤ, List, Option, None, Some, Result, Ok, Err, is_some, nat_lt}
use Rattle.std.specs.Option.{ForSome}
use Rattle.gradebook_core.specs.Judging.{verdict_of}
use Rattle.gradebook_core.specs.Outcomes.{check_number}
use Rattle.gradebook_core.specs.declared.judgement.Judgement.{Judgement}
use Rattle.gradebook_core.specs.declared.judgement.Judgement.TheVariants as judgement
use Rattle.gradebook_core.specs.declared.written.Written.{Written}
use Rattle.hub_core.specs.declared.hub_error.HubError.{HubError}
use Rattle.hub_core.specs.declared.hub_error.HubError.TheVariants as error
use Rattle.hub_spec.specs.rules.Verdicts.{Judges, Leads, Refused, Repeat, Same, Verdict}
use Rattle.hub_spec.specs.rules.Written.{done_of, kept_mark, newest_after, outcome_of, state_after}
use Rattle.keeper_memory.specs.Commits.{CanLead, with_commit}
use Rattle.keeper_memory.specs.Kept.{KeptState, newest_kept}
use Rattle.keeper_memory.specs.Parts.{IsPartOf}
use Rattle.keeper_memory.specs.declared.hub_commit.HubCommit.{HubCommit}
use Rattle.version_core.specs.HubStates.{HubState, IsHubState}
use Rattle.version_core.specs.Marks.{CanMark}
use Rattle.version_core.specs.Outcomes.{mark_taken_outcome}
use Rattle.version_core.specs.declared.change.BaseVersion.{BaseVersion}
use Rattle.version_core.specs.declared.change.Change.{Change}
use Rattle.version_core.specs.declared.grant_row.GrantRow.{GrantRow}
use Rattle.version_core.specs.declared.mark.Write.{Write}

-- what a write is told: an outcome, a version, and whether both are kept under its mark
abbrev pub written_as : Option ℕ → ℕ → ℕ → Written
written_as mark outcome version = record { outcome = outcome; version = version; kept = is_some mark }

-- a refusal is kept, but for that of another write's mark
abbrev pub refused_as : Option ℕ → ℕ → ℕ → Written
refused_as mark number version =
    record { outcome = number; version = version; kept = is_some mark && nat_lt mark_taken_outcome number }

-- what a write is told of its verdict: the newest version after it, or what was kept under its mark
abbrev pub written_of : HubState → Option ℕ → Write → Verdict → Written
written_of state mark write (Leads version) = written_as mark (done_of write) (newest_after state (Leads version))
written_of state mark write Same = written_as mark (done_of write) (newest_after state Same)
written_of state mark write (Repeat kept) = written_as mark kept.outcome kept.version
written_of state mark write (Refused number) = refused_as mark number (newest_after state (Refused number))

-- a verdict on the write at a state, and what is kept of the state that it leads to
pub record LedBy (by : GrantRow) (mark : Option ℕ) (write : Write) (at : ℤ) (state : HubState) (after : KeptState) (verdict : Verdict) : Type 0 where
  pub judged : Judges state by mark write at verdict
  pub led : IsPartOf after (state_after state by.caller mark write verdict)

-- what a write answers and where it leads: what its verdict says; where the keeper fails, it has acted or not
abbrev pub WritesAt : GrantRow → Option ℕ → Write → ℤ → HubState → Result Written HubError → KeptState → Type 0
WritesAt by mark write at state (Ok written) after =
    (verdict : Verdict) × LedBy by mark write at state after verdict × (written ≡ written_of state mark write verdict)
WritesAt by mark write at state (Err error.Keeper) after = IsPartOf after state ⊎ ((verdict : Verdict) × LedBy by mark write at state after verdict)
WritesAt by mark write at state (Err error.NoMemory) after = IsPartOf after state
WritesAt by mark write at state (Err (error.Refused fault)) after = ⊥

-- what a write answers and where it leads, at each state of which this is kept
abbrev pub Writes : GrantRow → Option ℕ → Write → ℤ → Result Written HubError → KeptState → KeptState → Type 0
Writes by mark write at result before after = (state : HubState) → IsHubState state → IsPartOf before state → WritesAt by mark write at state result after

-- ---- on the way there

-- the newest version after a judgement
abbrev pub number_after : BaseVersion → Judgement → ℕ
number_after newest (judgement.New change) = change.version
number_after newest _ = newest.number

-- what a write is told of a judgement
abbrev pub written_by : BaseVersion → Option ℕ → Write → Judgement → Written
written_by newest mark write (judgement.New change) = written_as mark (done_of write) change.version
written_by newest mark write judgement.Same = written_as mark (done_of write) newest.number
written_by newest mark write (judgement.Repeat kept) = written_as mark kept.outcome kept.version
written_by newest mark write (judgement.Refused failed) = refused_as mark (check_number failed) newest.number

-- the change of a new version
abbrev pub change_in : Judgement → Option Change
change_in (judgement.New change) = Some change
change_in _ = None

-- what is to be made of a judgement
abbrev pub commit_of : BaseVersion → List ℕ → Option ℕ → Write → Judgement → ℕ → HubCommit
commit_of newest caller mark write made version =
    record { change = change_in made; mark = kept_mark caller mark write version (outcome_of write (verdict_of newest made)) }

-- what a commit has may stand, if it has anything
pub record MayCommit (kept : KeptState) (commit : HubCommit) : Type 0 where
  pub change : ForSome commit.change (CanLead kept.versions)
  pub mark : ForSome commit.mark (CanMark (newest_kept (with_commit kept commit).versions).number kept.marks)
