-- How many exchanges a synchronisation makes.
use Rattle.std.specs.Prelude.{◌≡◌, ◌⊎◌, ℕ, ◌+◌, ◌-◌, ◌*◌, ◌/◌, ◌≤◌, List, [], ◌∷◌, length, drop, Option, Some, None}
use Rattle.std.specs.Prelude.{IsSomeAnd}
use Rattle.keeper_memory.specs.copy.Copies.{Copy, Stage}
use Rattle.keeper_memory.specs.declared.copy.state.StageState.{StageState}
use Rattle.hub_spec.specs.rules.Checks.{version_at}
use Rattle.hub_spec.specs.views.Cuts.{cut}
use Rattle.roster_types.specs.Records.{Record}
use Rattle.version_core.specs.HubStates.{HubState}
use Rattle.version_core.specs.declared.change.BaseVersion.{BaseVersion}
use Rattle.exchange_link.specs.declared.answer.SyncAnswer.{SyncAnswer}
use Rattle.exchange_link.specs.declared.answer.SyncAnswer.TheVariants as answer
use Rattle.exchange_link.specs.Causes.{IsLast}
use Rattle.exchange_link.specs.Pages.{Page, page_request}
use Rattle.exchange_link.specs.Places.{kinds_of, staged_of}
use Rattle.status_info.specs.declared.request.Echo.{Echo}
use Rattle.status_info.specs.declared.request.Request.{Request}

-- the least whole number not below rows / limit
abbrev pub pages : ℕ → ℕ → ℕ
pages limit rows = (rows + (limit - 1)) / limit

-- the pages missing and the kinds left, over the lists of the kinds left; of the first so many rows are staged
abbrev pub rounds : ℕ → ℕ → List (List Record) → ℕ
rounds limit staged [] = 0
rounds limit staged (l ∷ ls) = pages limit (length l - staged) + 1 + rounds limit 0 ls

-- the pages missing and the kinds left of a stage, at the version that its call is pinned to
abbrev pub work : ℕ → List ℕ → Option StageState → BaseVersion → ℕ
work limit token stage version = rounds limit (staged_of stage) (drop (kinds_of stage) (cut version token))

-- there is a stage, and this is its pin
abbrev pub HasPin : ℕ → Option Stage → Type 0
HasPin v None = ⊥
HasPin v (Some s) = s.pin ≡ v

-- tries * (pages missing + kinds left) at the pin of this call; where it had none, the tries of one request
abbrev pub Bounded : ℕ → ℕ → ℕ → List ℕ → Option StageState → (ℕ → Type 0) → HubState → Type 0
Bounded n tries limit token (Some s) is_pin h = n ≤ tries * work limit token (Some s) (version_at h s.pin)
Bounded n tries limit token None is_pin h = (n ≤ tries) ⊎ ((v : ℕ) × is_pin v × (n ≤ tries * work limit token None (version_at h v)))

-- this version is held
abbrev pub HoldsVersion : ℕ → Copy → Type 0
HoldsVersion v c = IsSomeAnd c.held (λ held. held.version ≡ v)

-- the last request asked for a page of this version
abbrev pub AskedAt : ℕ → List Request → Type 0
AskedAt v sent = (page : Page) × (n : Echo) × (page.pin ≡ Some v) × IsLast (page_request page n) sent

-- the pin of a call that answered so, and left this copy and these requests; after a fault that took the stage away it
-- is the version that was swapped in, or the one that the last request asked for
abbrev pub IsCallPin : SyncAnswer → Copy → List Request → ℕ → Type 0
IsCallPin (answer.Complete p) c sent v = v ≡ p
IsCallPin (answer.PinGone p oldest) c sent v = v ≡ p
IsCallPin answer.KeeperFault c sent v = HasPin v c.stage ⊎ ((c.stage ≡ None) × (HoldsVersion v c ⊎ AskedAt v sent))
IsCallPin a c sent v = HasPin v c.stage
