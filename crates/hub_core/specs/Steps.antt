-- What the calls of a hub answer, and where they lead.
use Rattle.std.specs.Prelude.{◌≡◌, ◌⊎◌, ⊤, ℕ, Bool, false, true, Result, Ok, Err}
use Rattle.keeper_memory.specs.Commits.{followed_by, with_commit}
use Rattle.keeper_memory.specs.Kept.{KeptState, newest_kept}
use Rattle.keeper_memory.specs.declared.hub_commit.HubCommit.{HubCommit}
use Rattle.version_changes.specs.sets.Applying.{Leads, Outcome, Refuses, Unchanged}
use Rattle.version_core.specs.declared.change.BaseVersion.{BaseVersion}
use Rattle.roster_base.specs.Faults.{one_more}
use Rattle.hub_core.specs.declared.hub_error.HubError.{HubError}
use Rattle.hub_core.specs.declared.hub_error.HubError.TheVariants as error
use Rattle.hub_core.specs.declared.published.Published.{Published}
use Rattle.hub_core.specs.declared.published.Published.TheVariants as published

-- a keeper's failure is counted once, and nothing else is
abbrev pub CountsFault : {T : Type 0} → ℕ → ℕ → Result T HubError → Type 0
CountsFault before now (Ok x) = now ≡ before
CountsFault before now (Err error.Keeper) = now ≡ one_more before
CountsFault before now (Err error.NoMemory) = now ≡ before
CountsFault before now (Err (error.Refused fault)) = now ≡ before

-- a commit is left open exactly by a failure of the keeper; where memory runs out one that was open may stay so
abbrev pub LeavesOpen : {T : Type 0} → Result T HubError → Bool → Type 0
LeavesOpen (Ok x) commit_open = commit_open ≡ false
LeavesOpen (Err error.Keeper) commit_open = commit_open ≡ true
LeavesOpen (Err error.NoMemory) commit_open = ⊤
LeavesOpen (Err (error.Refused fault)) commit_open = commit_open ≡ false

-- no call refuses but those that publish
abbrev pub RefusesNothing : {T : Type 0} → Result T HubError → Type 0
RefusesNothing (Err (error.Refused fault)) = ⊥
RefusesNothing _ = ⊤

-- a commit is made, or not at all, which a failure leaves open
abbrev pub Installs : {T : Type 0} → HubCommit → Result T HubError → KeptState → KeptState → Type 0
Installs commit (Ok x) before after = after ≡ with_commit before commit
Installs commit (Err error.Keeper) before after = (after ≡ before) ⊎ (after ≡ with_commit before commit)
Installs commit (Err error.NoMemory) before after = after ≡ before
Installs commit (Err (error.Refused fault)) before after = ⊥

-- a version that is asked for stands
pub record Adds (asks : Outcome → Type 0) (before after : KeptState) (next : BaseVersion) : Type 0 where
  pub asked : asks (Leads next)
  pub added : after ≡ followed_by before next

-- what a call answers by what it is to make of the newest version, and the state that it leads to
abbrev pub MakesNext : (BaseVersion → Outcome → Type 0) → Result Published HubError → KeptState → KeptState → Type 0
MakesNext asks (Ok (published.New version)) before after =
    (next : BaseVersion) × Adds (asks (newest_kept before.versions)) before after next × (version ≡ next.number)
MakesNext asks (Ok (published.Same version)) before after =
    asks (newest_kept before.versions) Unchanged × (after ≡ before) × (version ≡ (newest_kept before.versions).number)
MakesNext asks (Err (error.Refused fault)) before after = asks (newest_kept before.versions) (Refuses fault) × (after ≡ before)
MakesNext asks (Err error.Keeper) before after =
    (after ≡ before) ⊎ ((next : BaseVersion) × Adds (asks (newest_kept before.versions)) before after next)
MakesNext asks (Err error.NoMemory) before after = after ≡ before
