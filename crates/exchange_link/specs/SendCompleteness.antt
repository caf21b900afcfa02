-- When sending the entries has to settle them all.
use Rattle.std.specs.Prelude.{◌≡◌, ℕ, ◌≤◌, List, Some, is_none, true, ⊤}
use Rattle.std.specs.List.{AllByRecursion}
use Rattle.keeper_memory.specs.declared.copy.entry.OutEntry.{OutEntry}
use Rattle.hub_spec.specs.rules.Verdicts.{newest_in}
use Rattle.hub_spec.specs.marks.Answering.{CanSendWrite}
use Rattle.hub_spec.specs.marks.Marked.{mark_of}
use Rattle.version_core.specs.Grants.{grant_of}
use Rattle.version_core.specs.HubStates.{HubState}
use Rattle.version_core.specs.declared.grant_row.GrantRow.{GrantRow}
use Rattle.exchange_link.specs.declared.send_answer.SendAnswer.{SendAnswer}
use Rattle.exchange_link.specs.declared.send_answer.SendAnswer.TheVariants as answer

-- all is settled, or memory wants at either end
abbrev pub IsFine : SendAnswer → Type 0
IsFine (answer.Settled count) = ⊤
IsFine answer.NoMemory = ⊤
IsFine (answer.HubNoMemory number) = ⊤
IsFine a = ⊥

-- at this state the token is known, with the grant that it had at an earlier version, which opens the accesses of the
-- entries that aren't settled, and none of their marks is held with another write
pub record CanSendAll (token : List ℕ) (since : ℕ) (entries : List OutEntry) (state : HubState) : Type 0 where
  pub by : GrantRow
  pub known : grant_of token (newest_in state).grants ≡ Some by
  pub unchanged : by.grant.since ≤ since
  pub each : AllByRecursion (λ entry. is_none entry.settled ≡ true → CanSendWrite state by (mark_of entry)) entries
