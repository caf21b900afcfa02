-- A request as a step of a hub, told by what is kept of the hub's state.
use Rattle.std.specs.Prelude.{◌≡◌, ◌⊎◌, ℕ, ℤ}
use Rattle.hub_core.specs.Standing.{HeldHub}
use Rattle.hub_core.specs.Works.{Did, DidReload}
use Rattle.hub_core.specs.declared.hub_error.HubError.{HubError}
use Rattle.hub_core.specs.declared.hub_error.HubError.TheVariants as error
use Rattle.hub_spec.specs.requests.Requests.{wanted_by}
use Rattle.hub_spec.specs.rules.Answers.{sent}
use Rattle.hub_spec.specs.rules.Checks.{refused}
use Rattle.hub_spec.specs.rules.Runs.{Replied, Steps, Take}
use Rattle.hub_spec.specs.rules.States.{IsGranted, IsHub}
use Rattle.hub_spec.specs.rules.Wanted.{Wanted}
use Rattle.keeper_memory.specs.Kept.{KeptState}
use Rattle.keeper_memory.specs.Parts.{IsPartOf}
use Rattle.status_info.specs.declared.cause.Cause.TheVariants as cause
use Rattle.status_info.specs.declared.reply.Reply.{Reply}
use Rattle.status_info.specs.declared.request.Request.{Request}
use Rattle.version_core.specs.HubStates.{HubState}
use Rattle.roster_base.specs.Faults.{one_more}

-- the count rises once where a step failed, and else stands
abbrev pub CountsFailed : ℕ → ℕ → ℕ → Type 0
CountsFailed before now failed = ((failed ≡ 0) × (now ≡ before)) ⊎ ((failed ≡ 1) × (now ≡ one_more before))

-- at each state in which each caller keeps its grant and of which `before` is kept, the reply is that of a step which
-- takes the request at this moment and leads to such a state of which `after` is kept, and to one whose versions hold
-- rows where the first one's do
abbrev pub TakesRequest : Request → ℤ → Reply → KeptState → KeptState → ℕ → Type 0
TakesRequest request at reply before after failed =
    (state : HubState) → IsGranted state → IsPartOf before state
    → (next : HubState) × IsGranted next × (IsHub state → IsHub next) × IsPartOf after next × Steps (Take (wanted_by request) at) state (Replied reply) next failed

-- the reply where a hub's call failed
abbrev pub error_reply : Wanted → HubError → Reply
error_reply wanted error.Keeper = sent wanted (refused wanted cause.StoreFailed)
error_reply wanted _ = sent wanted (refused wanted cause.NoMemory)

-- what an answer to a request did of a hub with no commit left open: a step of the abstract hub that didn't fail, in
-- one commit at most; or the keeper failed at a commit
abbrev pub DidRequest : Request → ℤ → Reply → HeldHub → HeldHub → ℕ → ℕ → Type 0
DidRequest request at = Did (λ reply before after. TakesRequest request at reply before after 0) (error_reply (wanted_by request) error.Keeper)

-- what an answer to a request did of a hub that may have a commit left open: the keeper is asked first what it made of
-- that
abbrev pub DidReloadRequest : Request → ℤ → Reply → HeldHub → HeldHub → ℕ → ℕ → Type 0
DidReloadRequest request at = DidReload (λ reply before after. TakesRequest request at reply before after 0) (error_reply (wanted_by request))
