-- What a hub holds, and the states that may stand behind it.
use Rattle.std.specs.Prelude.{◌≡◌, ◌⊎◌, Bool, IsTrue, Option, Some}
use Rattle.keeper_memory.specs.Commits.{with_commit}
use Rattle.keeper_memory.specs.Kept.{KeptState}
use Rattle.keeper_memory.specs.declared.hub_commit.HubCommit.{HubCommit}

-- a state, the last commit that was handed to the keeper where commits are kept, and else the last one at which the
-- keeper failed, where none was made since; whether the last may have been made, since the keeper failed at it and
-- hasn't been asked; and whether commits are kept
pub record HeldHub : Type 0 where
  pub kept : KeptState
  pub last : Option HubCommit
  pub commit_open : Bool
  pub keeps : Bool

-- the state that stands if the last commit was made after all
pub record IsWithLast (hub : HeldHub) (kept : KeptState) : Type 0 where
  pub left_open : IsTrue hub.commit_open
  pub commit : HubCommit
  pub last : hub.last ≡ Some commit
  pub made : kept ≡ with_commit hub.kept commit

-- a state that may stand: the hub's, or that with a commit that was left open
abbrev pub IsStanding : HeldHub → KeptState → Type 0
IsStanding hub kept = (kept ≡ hub.kept) ⊎ IsWithLast hub kept

-- a keeper fits a hub where each state that it stands for may stand
abbrev pub KeeperFits : (KeptState → Type 0) → HeldHub → Type 0
KeeperFits stands_for hub = (kept : KeptState) → stands_for kept → IsStanding hub kept

-- each state that may stand now comes of one that may have stood before, which leads to it, and for which the keeper
-- stood if it stands for the other
abbrev pub StandsFrom : (KeptState → Type 0) → (KeptState → Type 0) → HeldHub → HeldHub → (KeptState → KeptState → Type 0) → Type 0
StandsFrom stood stands before now leads =
    (after : KeptState) → IsStanding now after → (kept : KeptState) × IsStanding before kept × (stands after → stood kept) × leads kept after
