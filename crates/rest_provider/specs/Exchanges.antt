-- Requests and their replies as a run of a hub.
use Rattle.std.specs.Prelude.{◌≡◌, ◌⊎◌, ◌+◌, ◌-◌, ◌^◌, ℕ, ℤ, List, [], ◌∷◌, Option, map, min}
use Rattle.std.specs.List.{AllByRecursion, flat_map}
use Rattle.http_wire.specs.Replies.{reply_text}
use Rattle.hub_spec.specs.requests.Requests.{wanted_by}
use Rattle.hub_spec.specs.rules.Runs.{Replied, Runs, Step, Take, end_of}
use Rattle.hub_spec.specs.rules.States.{IsGranted, IsHub}
use Rattle.rest_provider.specs.Moments.{IsMomentOf}
use Rattle.keeper_memory.specs.Kept.{KeptState}
use Rattle.keeper_memory.specs.Parts.{IsPartOf}
use Rattle.status_info.specs.declared.reply.Reply.{Reply}
use Rattle.status_info.specs.declared.request.Request.{Request}
use Rattle.version_core.specs.HubStates.{HubState}

-- a request, the moment at which it was taken, and its reply
pub record Exchange : Type 0 where
  pub request : Request
  pub at : ℤ
  pub reply : Reply

-- the requests of exchanges, in their order
abbrev pub requests_of : List Exchange → List Request
requests_of exchanges = map (λ (e : Exchange). e.request) exchanges

-- the texts of the replies, one behind the other
abbrev pub replies_text : List Exchange → List ℕ
replies_text exchanges = flat_map (λ (e : Exchange). reply_text e.reply) exchanges

-- the moments are the clock's, where it tells one
abbrev pub AreAt : Option ℤ → List Exchange → Type 0
AreAt moment exchanges = AllByRecursion (λ (e : Exchange). IsMomentOf moment e.at) exchanges

-- the step takes the request at its moment, and is answered with its reply
pub record IsStepOf (e : Exchange) (step : Step) : Type 0 where
  pub command : step.command ≡ Take (wanted_by e.request) e.at
  pub answer : step.answer ≡ Replied e.reply

-- a step for each, in their order
abbrev pub AreStepsOf : List Exchange → List Step → Type 0
AreStepsOf [] steps = steps ≡ []
AreStepsOf (e ∷ exchanges) [] = ⊥
AreStepsOf (e ∷ exchanges) (step ∷ steps) = IsStepOf e step × AreStepsOf exchanges steps

-- a run of the hub from a state to another, which takes the requests one after another, is answered with their replies,
-- and fails so often at most
pub record TakesInTurn (exchanges : List Exchange) (failed : ℕ) (before after : HubState) : Type 0 where
  pub steps : List Step
  pub are : AreStepsOf exchanges steps
  pub run : Runs before steps failed
  pub end : end_of before steps ≡ after

-- each state of a hub of which `before` is kept leads by such a run to one of which `after` is kept, and which holds
-- rows where the first does
abbrev pub TakesAll : List Exchange → ℕ → KeptState → KeptState → Type 0
TakesAll exchanges failed before after =
    (state : HubState) → IsGranted state → IsPartOf before state
    → (next : HubState) × IsGranted next × (IsHub state → IsHub next) × IsPartOf after next × TakesInTurn exchanges failed state next

-- the count rises once for each step that failed, up to the end of u64
abbrev pub CountsFailures : ℕ → ℕ → ℕ → Type 0
CountsFailures before now failed = ((failed ≡ 0) × (now ≡ before)) ⊎ (now ≡ min (before + failed) (2 ^ 64 - 1))
