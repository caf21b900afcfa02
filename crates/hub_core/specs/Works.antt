-- What a call makes of a hub.
use Rattle.std.specs.Prelude.{◌≡◌, ◌⊎◌, ℕ, Bool, IsTrue, false, true, Option, None, Some, Result}
use Rattle.std.specs.Prelude.{Ok, Err}
use Rattle.keeper_memory.specs.Commits.{CanCommit, with_commit}
use Rattle.keeper_memory.specs.Kept.{KeptState}
use Rattle.keeper_memory.specs.declared.hub_commit.HubCommit.{HubCommit}
use Rattle.roster_base.specs.Faults.{one_more}
use Rattle.hub_core.specs.Standing.{HeldHub, IsStanding}
use Rattle.hub_core.specs.Steps.{CountsFault}
use Rattle.hub_core.specs.declared.hub_error.HubError.{HubError}
use Rattle.hub_core.specs.declared.hub_error.HubError.TheVariants as error

-- the copy of a commit that was made, where commits are kept
abbrev pub copy_kept : Bool → HubCommit → Option HubCommit
copy_kept true commit = Some commit
copy_kept false commit = None

-- the hub with a commit that was made, and the hub beside one that was left open
abbrev pub made_of : HeldHub → HubCommit → HeldHub
made_of hub commit = record { kept = with_commit hub.kept commit; last = copy_kept hub.keeps commit; commit_open = false; keeps = hub.keeps }

abbrev pub left_of : HeldHub → HubCommit → HeldHub
left_of hub commit = record { kept = hub.kept; last = Some commit; commit_open = true; keeps = hub.keeps }

-- a commit that may be made, and wasn't, is the last one, since commits are kept
pub record IsPassedOver (before : HeldHub) (last : Option HubCommit) : Type 0 where
  pub keeps : IsTrue before.keeps
  pub commit : HubCommit
  pub can : CanCommit before.kept commit
  pub is : last ≡ Some commit

-- nothing was made: the last commit is the one that was, or another that wasn't made
pub record IsUnmade (before after : HeldHub) : Type 0 where
  pub kept : after.kept ≡ before.kept
  pub settled : after.commit_open ≡ false
  pub keeps : after.keeps ≡ before.keeps
  pub last : (after.last ≡ before.last) ⊎ IsPassedOver before after.last

-- a commit was made
pub record IsMade (before after : HeldHub) : Type 0 where
  pub commit : HubCommit
  pub can : CanCommit before.kept commit
  pub is : after ≡ made_of before commit

-- a commit was left open
pub record IsLeftOpen (before after : HeldHub) : Type 0 where
  pub commit : HubCommit
  pub can : CanCommit before.kept commit
  pub is : after ≡ left_of before commit

-- what became of a commit that was to be handed to the keeper: where memory ran out before it was, the last one stays
abbrev pub Handed : {T : Type 0} → HubCommit → Result T HubError → HeldHub → HeldHub → Type 0
Handed commit (Ok x) before after = after ≡ made_of before commit
Handed commit (Err error.Keeper) before after = after ≡ left_of before commit
Handed commit (Err error.NoMemory) before after = IsUnmade before after
Handed commit (Err (error.Refused fault)) before after = ⊥

-- a call makes one commit or none, and leaves one open exactly where the keeper failed
abbrev pub Works : {T : Type 0} → Result T HubError → HeldHub → HeldHub → Type 0
Works (Ok x) before after = IsUnmade before after ⊎ IsMade before after
Works (Err error.Keeper) before after = IsLeftOpen before after
Works (Err error.NoMemory) before after = IsUnmade before after
Works (Err (error.Refused fault)) before after = IsUnmade before after

-- a call that makes nothing, or one commit, answers what is asked for at the states before and after it; where the
-- keeper failed at its commit, it answers that, and the count rose
pub record IsDone {A : Type 0} (asks : A → KeptState → KeptState → Type 0) (answer : A) (before after : HeldHub) (count count' : ℕ) : Type 0 where
  pub made : IsUnmade before after ⊎ IsMade before after
  pub stays : count' ≡ count
  pub asked : asks answer before.kept after.kept

pub record IsFailed {A : Type 0} (failed : A) (answer : A) (before after : HeldHub) (count count' : ℕ) : Type 0 where
  pub left : IsLeftOpen before after
  pub rose : count' ≡ one_more count
  pub told : answer ≡ failed

abbrev pub Did : {A : Type 0} → (A → KeptState → KeptState → Type 0) → A → A → HeldHub → HeldHub → ℕ → ℕ → Type 0
Did asks failed answer before after count count' = IsDone asks answer before after count count' ⊎ IsFailed failed answer before after count count'

-- ---- of a hub that may have a commit left open

-- the keeper is asked what it made of that commit, which is then found or not
pub record IsReloaded (before after : HeldHub) : Type 0 where
  pub stood : IsStanding before after.kept
  pub settled : after.commit_open ≡ false
  pub last : after.last ≡ before.last
  pub keeps : after.keeps ≡ before.keeps

-- it couldn't tell, which leaves all as it was
pub record IsUntold {A : Type 0} (fails : HubError → A) (answer : A) (before after : HeldHub) (count count' : ℕ) : Type 0 where
  pub fault : HubError
  pub same : after ≡ before
  pub counts : CountsFault {T = Unit {0}} count count' (Err fault)
  pub told : answer ≡ fails fault

-- a call that asks first does its work from what is found
abbrev pub DidReload : {A : Type 0} → (A → KeptState → KeptState → Type 0) → (HubError → A) → A → HeldHub → HeldHub → ℕ → ℕ → Type 0
DidReload asks fails answer before after count count' =
    ((between : HeldHub) × IsReloaded before between × Did asks (fails error.Keeper) answer between after count count')
    ⊎ IsUntold fails answer before after count count'
