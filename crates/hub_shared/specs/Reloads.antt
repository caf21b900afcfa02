-- What comes of the steps of a call before its own work, and what the call then answers.
use Rattle.std.specs.Prelude.{◌≡◌, ◌⊎◌, ℕ, false, List, [], ◌∷◌, ◌++◌, None, Result, Ok, Err}
use Rattle.hub_core.specs.Standing.{HeldHub}
use Rattle.hub_core.specs.declared.hub_error.HubError.{HubError}
use Rattle.hub_core.specs.declared.hub_error.HubError.TheVariants as error
use Rattle.roster_base.specs.Faults.{Rose}
use Rattle.hub_history.specs.declared.entry.Entry.{Entry}
use Rattle.hub_history.specs.declared.entry.Entry.TheVariants.{Fault}
use Rattle.hub_history.specs.Published.{Published, history, none_waits}
use Rattle.hub_shared.specs.Standings.{IsFound}

-- behind this history the call goes on, over a hub with no commit left open or to hand out, and a whole history
-- published; or the keeper's count rose, and a fault is published; or memory ran out, and the history grew by what was
-- found, or by a fault
abbrev pub Reloads : List Entry → Published → HeldHub → HeldHub → ℕ → ℕ → Result (Unit {0}) HubError → Type 0
Reloads before log' hub hub' count count' (Ok done) =
    (found : List Entry) × IsFound hub found × (log' ≡ none_waits (before ++ found)) × (hub'.commit_open ≡ false) × (hub'.last ≡ None) × (count' ≡ count)
Reloads before log' hub hub' count count' (Err error.Keeper) = (log' ≡ none_waits (before ++ Fault ∷ [])) × Rose count count'
Reloads before log' hub hub' count count' (Err error.NoMemory) =
    ((found : List Entry) × IsFound hub found × (history log' ≡ before ++ found)) ⊎ ((history log' ≡ before ++ Fault ∷ []) × Rose count count')
Reloads before log' hub hub' count count' (Err (error.Refused fault)) = ⊥

-- the answer of a call's own work, or that which tells of what kept it from being done
abbrev pub answer_of : {A : Type 0} → (HubError → A) → Result A HubError → A
answer_of fails (Ok answer) = answer
answer_of fails (Err fault) = fails fault
