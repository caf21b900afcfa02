-- How a state of a hub grows: what a later state keeps of an earlier one.
use Rattle.std.specs.Prelude.{◌≡◌, ◌<◌, ◌≤◌, ◌⊎◌, ℕ, ℤ, List, [], ◌∷◌, Some, None, length}
use Rattle.hub_spec.specs.rules.Answers.{write_of}
use Rattle.hub_spec.specs.rules.Checks.{grant_in, version_at}
use Rattle.hub_spec.specs.rules.Runs.{Command, Step, Take}
use Rattle.hub_spec.specs.rules.Wanted.{Wanted, mark_number}
use Rattle.rest_paths.specs.Paths.{PathParts as Path}
use Rattle.version_core.specs.Marks.{mark_at}
use Rattle.version_core.specs.HubStates.{HubState}
use Rattle.version_core.specs.declared.grant_row.GrantRow.{GrantRow}
use Rattle.version_core.specs.declared.mark.MarkRow.{MarkRow}

-- each version stays under its number, and each mark as it was kept
pub record Grew (before after : HubState) : Type 0 where
  pub keep : after.keep ≡ before.keep
  pub longer : length before.published ≤ length after.published
  pub same : (number : ℕ) → number < length before.published → version_at after number ≡ version_at before number
  pub marks : (caller : List ℕ) (number : ℕ) (mark : MarkRow) → mark_at (caller, number) before.marks ≡ Some mark → mark_at (caller, number) after.marks ≡ Some mark

-- the mark is that of a request which was taken at this state: it has the request's write, and the newest version gives
-- the request's token to the caller
pub record IsMarkOf (wanted : Wanted) (state : HubState) (who : List ℕ) (place : ℕ) (mark : MarkRow) : Type 0 where
  pub number : mark_number wanted.mark ≡ Some place
  pub write : (path : Path) × (wanted.path ≡ Some path) × (mark.write ≡ write_of wanted path)
  pub caller : (by : GrantRow) × (grant_in state wanted.token ≡ Some by) × (by.caller ≡ who)

-- the mark is held in the second state and wasn't in the first
abbrev pub IsNewMark : HubState → HubState → List ℕ → ℕ → MarkRow → Type 0
IsNewMark before after caller number mark =
    (mark_at (caller, number) before.marks ≡ None) × (mark_at (caller, number) after.marks ≡ Some mark)

-- a step lets the state grow, and each new mark is that of the request that it takes
pub record GrowsBy (command : Command) (before after : HubState) : Type 0 where
  pub grew : Grew before after
  pub marks : (caller : List ℕ) (number : ℕ) (mark : MarkRow) → IsNewMark before after caller number mark
      → (wanted : Wanted) × (at : ℤ) × (command ≡ Take wanted at) × IsMarkOf wanted before caller number mark

-- a run takes the request
abbrev pub IsAsked : Wanted → List Step → Type 0
IsAsked wanted [] = ⊥
IsAsked wanted (step ∷ steps) = ((at : ℤ) × (step.command ≡ Take wanted at)) ⊎ IsAsked wanted steps

-- a mark that a run has put there is that of a request which it took, at a state on its way
pub record IsRunMark (before : HubState) (steps : List Step) (after : HubState) (caller : List ℕ) (number : ℕ) (mark_row : MarkRow) : Type 0 where
  pub wanted : Wanted
  pub taken_at : HubState
  pub asked : IsAsked wanted steps
  pub since : Grew before taken_at
  pub until : Grew taken_at after
  pub mark : IsMarkOf wanted taken_at caller number mark_row
