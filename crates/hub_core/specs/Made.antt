-- What is found on the way from a state to what a call makes of it.
use Rattle.std.specs.Prelude.{◌≡◌, ◌⊎◌, Bool, false, Option, None, Some, Result, Ok, Err, if◌then◌else◌, is_some}
use Rattle.std.specs.Prelude.{nat_le}
use Rattle.version_core.specs.Marks.{mark_at, mark_key}
use Rattle.version_core.specs.Version.{after}
use Rattle.version_core.specs.declared.change.BaseVersion.{BaseVersion}
use Rattle.version_core.specs.declared.change.Change.{Change}
use Rattle.version_core.specs.declared.mark.MarkRow.{MarkRow}
use Rattle.keeper_memory.specs.Commits.{followed_by, with_commit}
use Rattle.keeper_memory.specs.Kept.{KeptState, newest_kept}
use Rattle.keeper_memory.specs.declared.hub_commit.HubCommit.{HubCommit}
use Rattle.roster_base.specs.declared.refusal.Refusal.{Refusal}
use Rattle.roster_base.specs.declared.refusal.Refusal.TheVariants as refusal
use Rattle.version_changes.specs.declared.sets.publish_fault.PublishFault.{PublishFault}
use Rattle.hub_core.specs.declared.hub_error.HubError.{HubError}
use Rattle.hub_core.specs.declared.hub_error.HubError.TheVariants as error
use Rattle.hub_core.specs.declared.published.Published.{Published}
use Rattle.hub_core.specs.declared.published.Published.TheVariants as published

-- whether a state has the version of a change or, without one, a mark
abbrev pub has_change_or : KeptState → Option Change → Option MarkRow → Bool
has_change_or kept (Some change) mark = nat_le change.version (newest_kept kept.versions).number
has_change_or kept None (Some mark) = is_some (mark_at (mark_key mark) kept.marks)
has_change_or kept None None = false

abbrev pub has_commit : KeptState → HubCommit → Bool
has_commit kept commit = has_change_or kept commit.change commit.mark

-- the last commit, where it was made
abbrev pub made_last : KeptState → Option HubCommit → Option HubCommit
made_last kept None = None
made_last kept (Some commit) = if has_commit kept commit then Some commit else None

-- a state with a commit that was made
abbrev pub taken_in : Bool → KeptState → HubCommit → KeptState
taken_in made kept commit = if made then with_commit kept commit else kept

-- the version that a change leads to
abbrev pub after_change : KeptState → Change → BaseVersion
after_change kept change = after (newest_kept kept.versions) change

-- what is due is made, or not at all, which a failure leaves open; a refusal leaves all as it was
abbrev pub Adopts : Result (Option Change) (Refusal PublishFault) → Result Published HubError → KeptState → KeptState → Type 0
Adopts (Err (refusal.Fault fault)) result before after = (after ≡ before) × (result ≡ Err (error.Refused fault))
Adopts (Err refusal.NoMemory) result before after = (after ≡ before) × (result ≡ Err error.NoMemory)
Adopts (Ok None) result before after = (after ≡ before) × (result ≡ Ok (published.Same (newest_kept before.versions).number))
Adopts (Ok (Some change)) (Ok (published.New version)) before after = (after ≡ followed_by before (after_change before change)) × (version ≡ change.version)
Adopts (Ok (Some change)) (Ok (published.Same version)) before after = ⊥
Adopts (Ok (Some change)) (Err error.Keeper) before after = (after ≡ before) ⊎ (after ≡ followed_by before (after_change before change))
Adopts (Ok (Some change)) (Err error.NoMemory) before after = after ≡ before
Adopts (Ok (Some change)) (Err (error.Refused fault)) before after = ⊥
