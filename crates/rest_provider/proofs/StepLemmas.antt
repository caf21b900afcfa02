-- Replies as steps of a hub, at the states of which something is kept.
use Rattle.std.proofs.Common.{◌≡◌, ◌⊎◌, false, inl, inr, ℤ, ◌-◌, List, [], ◌∷◌, get_or, refl, ap, sym, ◌∙◌, arith}
use Rattle.hub_core.specs.Standing.{HeldHub, IsStanding}
use Rattle.hub_spec.specs.requests.Requests.{AnswersRequest, wanted_by}
use Rattle.hub_spec.proofs.Versions.{newest_has, number_at, reads_kept}
use Rattle.hub_spec.specs.rules.Answers.{sent}
use Rattle.hub_spec.specs.rules.Checks.{refused}
use Rattle.hub_spec.specs.rules.Runs.{Acts, Fails, Replied, WantsMemory}
use Rattle.hub_spec.specs.rules.States.{ReadsAs}
use Rattle.keeper_memory.specs.Kept.{KeptState}
use Rattle.keeper_memory.specs.Parts.{IsPartOf}
use Rattle.rest_provider.specs.Replies.{IsReadOf, out_of_memory}
use Rattle.rest_provider.specs.Steps.{TakesRequest}
use Rattle.status_info.specs.declared.cause.Cause.TheVariants as cause
use Rattle.status_info.specs.declared.reply.Reply.{Reply}
use Rattle.status_info.specs.declared.request.Request.{Request}
use Rattle.version_core.specs.HubStates.{HubState, IsHubState, oldest_number}
use Rattle.version_core.specs.Version.{Versions, empty_version, first_or}
use Rattle.version_core.specs.declared.change.BaseVersion.{BaseVersion}

first_at : (versions : List BaseVersion) → first_or empty_version versions ≡ get_or versions 0 empty_version
first_at [] = refl
first_at (v ∷ vs) = refl

-- a state is read of a table with the versions that are kept of it
pub read_of : (state : HubState) → IsHubState state → (kept : KeptState) → IsPartOf kept state → (table : Versions) → table.versions ≡ kept.versions → IsReadOf table state
read_of state is kept part table same =
    let versions = table.versions in
    let reads : ReadsAs state versions = reads_kept state is versions (sym (same ∙ part.versions)) in
    let oldest = oldest_number state in
    let none : oldest - oldest ≡ 0 = omega arith in
    record {
      oldest = sym (ap (λ (v : BaseVersion). v.number) (first_at versions ∙ ap (λ n. get_or versions n empty_version) (sym none) ∙ sym (reads.at oldest (omega arith) (omega arith))) ∙ number_at state is oldest (omega arith));
      newest = sym (ap (λ (v : BaseVersion). v.number) (sym reads.newest) ∙ newest_has state is);
      reads = reads;
    }

-- the reply to a read is a step that leaves the state, and doesn't fail
pub read_step : (request : Request) (reply : Reply) (kept : KeptState) (table : Versions) → table.versions ≡ kept.versions
    → ((state : HubState) → IsReadOf table state → (reply ≡ out_of_memory (wanted_by request)) ⊎ ((at : ℤ) → AnswersRequest state request at reply state))
    → (at : ℤ) → TakesRequest request at reply kept kept 0
read_step request reply kept table same answers at = λ state is part.
    elim (answers state (read_of state is.state kept part table same)) [
      | inl none ↦ (state, is, (λ hub. hub), part, WantsMemory (inl refl) (ap Replied none) refl)
      | inr own ↦ (state, is, (λ hub. hub), part, Acts (reply, own at, refl) refl)
    ]

pub failed_step : (request : Request) (reply : Reply) (kept : KeptState) → reply ≡ sent (wanted_by request) (refused (wanted_by request) cause.StoreFailed)
    → (at : ℤ) → TakesRequest request at reply kept kept 1
failed_step request reply kept is at = λ state hub part. (state, hub, (λ h. h), part, Fails (inl refl) (ap Replied is) refl)

pub memory_step : (request : Request) (reply : Reply) (kept : KeptState) → reply ≡ out_of_memory (wanted_by request)
    → (at : ℤ) → TakesRequest request at reply kept kept 0
memory_step request reply kept is at = λ state hub part. (state, hub, (λ h. h), part, WantsMemory (inl refl) (ap Replied is) refl)

-- where no commit is left open, the hub's own state alone may stand
pub own_stands : (hub : HeldHub) (after : KeptState) → hub.commit_open ≡ false → IsStanding hub after → after ≡ hub.kept
own_stands hub after settled stands = elim stands [ inl same ↦ same | inr other ↦ absurd (cc (settled, other.left_open)) ]
