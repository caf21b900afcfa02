-- What a lock round the hub keeps, and what is done under it.
use Rattle.std.specs.Prelude.{◌≡◌, ◌⊎◌, ◌+◌, ◌-◌, ◌^◌, ◌≤◌, ℕ, min, Bool, IsTrue, true, List, [], ◌∷◌, ◌++◌, Option}
use Rattle.std.specs.Prelude.{None, Some, option_map, if◌then◌else◌, ◌≢◌}
use Rattle.hub_core.specs.Made.{made_last}
use Rattle.hub_core.specs.Standing.{HeldHub, KeeperFits}
use Rattle.keeper_memory.specs.Kept.{KeptState}
use Rattle.keeper_memory.specs.declared.hub_commit.HubCommit.{HubCommit}
use Rattle.roster_base.specs.Faults.{Rose}
use Rattle.hub_history.specs.declared.entry.Entry.{Entry}
use Rattle.hub_history.specs.declared.entry.Entry.TheVariants.{Commit, Fault}
use Rattle.hub_history.specs.Histories.{IsLegal, faults_in, state_after}
use Rattle.hub_history.specs.Published.{Published, history, none_waits}

-- the history replays to the hub's state, and the keeper stands for it, or, where it failed at the last commit and
-- wasn't asked since, for it without that commit or with it. That, and a fault in the history, is only where the
-- keeper's count rose. The hub keeps its commits. Where the keeper stands for any state, it stood for the opening one
-- when the hub was opened
pub record Standing (opening : KeptState) (base : ℕ) (stood : KeptState → Type 0) (log : Published) (hub : HeldHub) (stands : KeptState → Type 0) (count : ℕ) : Type 0 where
  pub replays : hub.kept ≡ state_after opening (history log)
  pub legal : IsLegal opening (history log)
  pub fits : KeeperFits stands hub
  pub told : (now : KeptState) → stands now → stood opening
  pub later : min base (2 ^ 64 - 1) ≤ count
  pub rose : IsTrue hub.commit_open → Rose base count
  pub faults : min (faults_in (history log) + base) (2 ^ 64 - 1) ≤ count
  pub keeps : IsTrue hub.keeps

-- the locked value
pub record Locked (H : Type 0) : Type 0 where
  pub log : Published
  pub hub : HeldHub
  pub keeper : H

abbrev pub published_of : Option Published → Published
published_of None = none_waits []
published_of (Some p) = p

-- what a hub has made, or left open, since the last commit was handed out
abbrev pub entry_due : HeldHub → Option Entry
entry_due hub = if hub.commit_open then Some Fault else option_map Commit (made_last hub.kept hub.last)

-- the hub with that handed out
abbrev pub handed_out : HeldHub → HeldHub
handed_out hub = if hub.commit_open then hub else record hub { last = None }

-- an entry was added to the history, if there was one, and was published, or waits
abbrev pub Pushed : Option Entry → Published → Published → Bool → Type 0
Pushed None log log' done = (log' ≡ log) × (done ≡ true)
Pushed (Some e) log log' done = (history log' ≡ history log ++ e ∷ []) × (done ≡ true → log' ≡ none_waits (history log ++ e ∷ []))

-- a reload found the commit that was left open, or it did not
abbrev pub IsFound : HeldHub → List Entry → Type 0
IsFound hub found = (found ≡ []) ⊎ ((commit : HubCommit) × IsTrue hub.commit_open × (hub.last ≡ Some commit) × (found ≡ Commit commit ∷ []))

-- the keeper's count rose, and a fault is published behind the history and a commit that a reload found
abbrev pub FaultPublished : Published → Published → HeldHub → ℕ → ℕ → Type 0
FaultPublished log log' hub count count' =
    (found : List Entry) × IsFound hub found × (log' ≡ none_waits ((history log ++ found) ++ Fault ∷ [])) × Rose count count'

-- a history whose last entry is a fault
abbrev pub EndsInFault : List Entry → Type 0
EndsInFault log = (before : List Entry) × (log ≡ before ++ Fault ∷ [])

-- what is asked of an answer, which doesn't tell that the keeper failed
abbrev pub Unfailed : {A : Type 0} → (A → KeptState → KeptState → Type 0) → A → A → KeptState → KeptState → Type 0
Unfailed asks failed answer before after = asks answer before after × (answer ≢ failed)

-- no entry, or a commit
abbrev pub IsDue : List Entry → Type 0
IsDue own = (own ≡ []) ⊎ ((commit : HubCommit) × (own ≡ Commit commit ∷ []))

module _ {A : Type 0} (asks : A → KeptState → KeptState → Type 0) (failed busy : A) (opening : KeptState) where
  -- the call's own entry is one that it answers for behind this history, or a fault where the keeper's count rose
  abbrev pub IsOwn : List Entry → List Entry → ℕ → ℕ → Type 0
  IsOwn before own count count' =
      (IsDue own × ((own ≡ []) ⊎ ((answer : A) × asks answer (state_after opening before) (state_after opening (before ++ own))))) ⊎ ((own ≡ Fault ∷ []) × Rose count count')

  -- what came of the call's own work behind this history: it is answered there, and what it made is published; or the
  -- keeper's count rose, and a fault is published; or memory ran out, and the history grew by no more than that
  abbrev pub Owned : List Entry → Published → ℕ → ℕ → A → Type 0
  Owned before log' count count' answer = (own : List Entry)
      × (((log' ≡ none_waits (before ++ own)) × IsDue own × asks answer (state_after opening before) (state_after opening (before ++ own)))
      ⊎ (((log' ≡ none_waits (before ++ own)) × (own ≡ Fault ∷ []) × Rose count count' × (answer ≡ failed))
      ⊎ ((history log' ≡ before ++ own) × IsOwn before own count count' × (answer ≡ busy))))

  -- what a call does behind the history and a commit that a reload found
  abbrev pub Worked : Published → Published → HeldHub → ℕ → ℕ → A → Type 0
  Worked log log' hub count count' answer = (found : List Entry) × IsFound hub found × Owned (history log ++ found) log' count count' answer

  -- what a receipt says of the call that gave it
  abbrev pub Receipted : A → List Entry → Type 0
  Receipted answer receipt = (answer ≡ busy)
      ⊎ (((before : List Entry) × (receipt ≡ before ++ Fault ∷ []) × (answer ≡ failed))
      ⊎ ((before : List Entry) × (own : List Entry) × (receipt ≡ before ++ own) × IsDue own × asks answer (state_after opening before) (state_after opening receipt)))
