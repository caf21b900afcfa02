-- When a synchronisation has to be complete.
use Rattle.std.specs.Prelude.{◌≡◌, ℕ, ◌≤◌, List, Option, Some, None}
use Rattle.keeper_memory.specs.declared.copy.state.StageState.{StageState}
use Rattle.hub_spec.specs.rules.Verdicts.{newest_in}
use Rattle.version_core.specs.Grants.{grant_of}
use Rattle.version_core.specs.declared.grant_row.GrantRow.{GrantRow}
use Rattle.version_core.specs.HubStates.{HubState, newest_number, oldest_number}
use Rattle.exchange_link.specs.declared.answer.SyncAnswer.{SyncAnswer}
use Rattle.exchange_link.specs.declared.answer.SyncAnswer.TheVariants as answer

-- complete, or want of memory at either end
abbrev pub IsDone : SyncAnswer → Type 0
IsDone (answer.Complete v) = Unit {0}
IsDone answer.NoMemory = Unit {0}
IsDone answer.HubNoMemory = Unit {0}
IsDone a = ⊥

-- the token is known at this state, and the pin is kept and isn't older than its grant
pub record StandsAt (p : ℕ) (token : List ℕ) (h : HubState) : Type 0 where
  pub by : GrantRow
  pub known : grant_of token (newest_in h).grants ≡ Some by
  pub oldest : oldest_number h ≤ p
  pub since : by.grant.since ≤ p

-- the pin of the stage that stood, or else the newest version
abbrev pub first_pin : Option StageState → HubState → ℕ
first_pin None h = newest_number h
first_pin (Some s) h = s.pin
