-- The states that a hub can have.
use Rattle.std.specs.Prelude.{◌≡◌, ◌-◌, ◌≤◌, ⊤, ℕ, List, slice_index_or}
use Rattle.std.specs.List.{AllByRecursion}
use Rattle.std.specs.Option.{ForSome}
use Rattle.rest_paths.specs.Paths.{IsPath}
use Rattle.hub_spec.specs.rules.Checks.{version_at}
use Rattle.hub_spec.specs.rules.Verdicts.{newest_in}
use Rattle.hub_spec.specs.rules.Runs.{Command, Publish, Reopen, SetGrants, Step, Take}
use Rattle.grant_scopes.specs.Entries.{AreEntries}
use Rattle.roster_base.specs.Moments.{IsMoment}
use Rattle.roster_types.specs.Rows.{IsRow}
use Rattle.roster_types.specs.Sets.{SetRecord}
use Rattle.version_changes.specs.sets.Applying.{rows_in}
use Rattle.version_core.specs.HubStates.{HubState, IsHubState, KeepGrants, newest_number, oldest_number}
use Rattle.version_core.specs.Version.{empty_version, last_or}
use Rattle.version_core.specs.declared.change.BaseVersion.{BaseVersion}

-- what a version holds are rows: they fit their fields and aren't too long, so they are read back from their texts
abbrev pub HoldsRows : BaseVersion → Type 0
HoldsRows version = AllByRecursion (λ change. IsRow change.row) version.rows

-- a state in which each caller has kept its grant since the version that the grant names; nothing is said of what its
-- versions hold
pub record IsGranted (hub : HubState) : Type 0 where
  pub state : IsHubState hub
  pub grants : KeepGrants hub.published

-- a state in which each caller has kept its grant, and whose versions all hold rows
pub record IsHub (hub : HubState) : Type 0 where
  pub state : IsHubState hub
  pub grants : KeepGrants hub.published
  pub rows : AllByRecursion HoldsRows hub.published

-- what a set lists are rows
abbrev pub ListsRows : SetRecord → Type 0
ListsRows set = AllByRecursion (λ listed. IsRow listed.row) (rows_in set)

-- what a hub may be told at a moment: sets of rows, grants that may be asked for, and requests whose path, where it is
-- one, has a good id for each object
abbrev pub IsCommand : Command → Type 0
IsCommand (Publish set at) = IsMoment at × ListsRows set
IsCommand (SetGrants entries at) = IsMoment at × AreEntries entries
IsCommand (Take wanted at) = IsMoment at × ForSome wanted.path IsPath
IsCommand Reopen = ⊤

-- each step has such a command
abbrev pub AreCommands : List Step → Type 0
AreCommands steps = AllByRecursion (λ step. IsCommand step.command) steps

-- what is read of a state is read of these versions, the first of which is the oldest
pub record ReadsAs (state : HubState) (versions : List BaseVersion) : Type 0 where
  pub newest : newest_in state ≡ last_or empty_version versions
  pub at : (number : ℕ) → oldest_number state ≤ number → number ≤ newest_number state
      → version_at state number ≡ slice_index_or versions (number - oldest_number state) empty_version
