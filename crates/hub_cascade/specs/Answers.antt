-- What a cascade answers.
use Rattle.std.specs.Prelude.{◌≡◌, ⊤, ℕ, Bool, false, true, Result, Ok, Err}
use Rattle.roster_base.specs.Faults.{one_more}
use Rattle.roster_base.specs.declared.keeper.KeeperError.{KeeperError}
use Rattle.roster_base.specs.declared.keeper.KeeperError.TheVariants as keeper
use Rattle.hub_core.specs.Steps.{MakesNext}
use Rattle.hub_core.specs.declared.hub_error.HubError.{HubError}
use Rattle.hub_core.specs.declared.hub_error.HubError.TheVariants as hub_error
use Rattle.hub_core.specs.declared.published.Published.{Published}
use Rattle.keeper_memory.specs.Kept.{KeptState}
use Rattle.keeper_memory.specs.copy.Copies.{Copy}
use Rattle.version_changes.specs.sets.Applying.{Outcome}
use Rattle.version_core.specs.declared.change.BaseVersion.{BaseVersion}
use Rattle.hub_cascade.specs.Held.{HoldNothing, HoldSomething}
use Rattle.hub_cascade.specs.declared.error.CascadeError.{CascadeError}
use Rattle.hub_cascade.specs.declared.error.CascadeError.TheVariants as error

-- the error for one of the copy's keeper, and for one of the hub's calls
abbrev pub error_of_copy : KeeperError → CascadeError
error_of_copy keeper.Failed = error.CopyKeeper
error_of_copy keeper.NoMemory = error.NoMemory

abbrev pub error_of_hub : HubError → CascadeError
error_of_hub hub_error.Keeper = error.HubKeeper
error_of_hub hub_error.NoMemory = error.NoMemory
error_of_hub (hub_error.Refused fault) = error.Refused fault

-- the answer of a cascade, by that of the hub's calls
abbrev pub answer_of : Result Published HubError → Result Published CascadeError
answer_of (Ok published) = Ok published
answer_of (Err e) = Err (error_of_hub e)

-- what the call answers by what the cascade is to make of the newest version, and the state that it leads to
abbrev pub MakesCascade : (BaseVersion → Outcome → Type 0) → Result Published CascadeError → KeptState → KeptState → Type 0
MakesCascade asks (Ok published) before after = MakesNext asks (Ok published) before after
MakesCascade asks (Err (error.Refused fault)) before after = MakesNext asks (Err (hub_error.Refused fault)) before after
MakesCascade asks (Err error.HubKeeper) before after = MakesNext asks (Err hub_error.Keeper) before after
MakesCascade asks (Err error.CopyKeeper) before after = after ≡ before
MakesCascade asks (Err error.NoMemory) before after = after ≡ before
MakesCascade asks (Err error.NothingHeld) before after = after ≡ before

-- nothing is held exactly where the answer is that, where the copy was told
abbrev pub TellsHeld : (Copy → Type 0) → Result Published CascadeError → Type 0
TellsHeld copies (Ok x) = HoldSomething copies
TellsHeld copies (Err (error.Refused fault)) = HoldSomething copies
TellsHeld copies (Err error.HubKeeper) = HoldSomething copies
TellsHeld copies (Err error.CopyKeeper) = ⊤
TellsHeld copies (Err error.NoMemory) = ⊤
TellsHeld copies (Err error.NothingHeld) = HoldNothing copies

-- a failure of the hub's keeper is counted once there, and nothing else is
abbrev pub CountsHub : ℕ → ℕ → Result Published CascadeError → Type 0
CountsHub before now (Err error.HubKeeper) = now ≡ one_more before
CountsHub before now result = now ≡ before

-- a failure of the copy's keeper is counted once there, and nothing else is
abbrev pub CountsCopy : ℕ → ℕ → Result Published CascadeError → Type 0
CountsCopy before now (Err error.CopyKeeper) = now ≡ one_more before
CountsCopy before now result = now ≡ before

-- a commit of the hub is left open exactly by a failure of its keeper, where it was asked
abbrev pub LeavesOpen : Result Published CascadeError → Bool → Type 0
LeavesOpen (Ok x) commit_open = commit_open ≡ false
LeavesOpen (Err (error.Refused fault)) commit_open = commit_open ≡ false
LeavesOpen (Err error.HubKeeper) commit_open = commit_open ≡ true
LeavesOpen result commit_open = ⊤
