-- What an answer did of a hub that has no commit left open.
use Rattle.hub_spec.specs.rules.States.{IsGranted}
use Rattle.std.proofs.Common.{◌≡◌, ℕ, ℤ, false, true, inl, inr, Ok, Err, refl}
use Rattle.std.specs.Option.{ForSome}
use Rattle.gradebook_core.specs.Writing.{Writes}
use Rattle.gradebook_core.specs.declared.written.Written.{Written}
use Rattle.hub_core.proofs.StepLemmas.{did_keeps, made_settled, unmade}
use Rattle.hub_core.specs.Standing.{HeldHub}
use Rattle.hub_core.specs.Steps.{CountsFault, RefusesNothing}
use Rattle.hub_core.specs.Works.{Works}
use Rattle.hub_core.specs.declared.hub_error.HubError.{HubError}
use Rattle.hub_core.specs.declared.hub_error.HubError.TheVariants as error
use Rattle.rest_paths.specs.Paths.{IsPath}
use Rattle.hub_spec.specs.requests.Requests.{wanted_by}
use Rattle.hub_spec.specs.rules.Wanted.{is_write, mark_number}
use Rattle.keeper_memory.specs.Parts.{IsPartOf}
use Rattle.rest_provider.proofs.WriteLemmas.{wanting_write}
use Rattle.rest_provider.specs.Steps.{DidRequest, TakesRequest, error_reply}
use Rattle.rest_provider.specs.Writes.{DidWrite, asked_in_turn}
use Rattle.rest_provider.specs.declared.writes.Asked.{Asked}
use Rattle.roster_base.specs.Moments.{IsMoment}
use Rattle.status_info.specs.declared.reply.Reply.{Reply}
use Rattle.status_info.specs.declared.request.Request.{Request}
use Rattle.version_core.specs.HubStates.{HubState}

-- a reply that left the hub as it was
pub read_did : (request : Request) (at : ℤ) (reply : Reply) (hub : HeldHub) (count : ℕ) → hub.commit_open ≡ false → TakesRequest request at reply hub.kept hub.kept 0 → DidRequest request at reply hub hub count count
read_did request at reply hub count settled step = inl (record { made = inl (unmade hub settled); stays = refl; asked = step })

-- a write that was asked for at each of its states
pub write_did : (request : Request) (at : ℤ) (asked : Asked) (reply : Reply) (before after : HeldHub) (count count' : ℕ)
    → ((state : HubState) → IsGranted state → IsPartOf before.kept state → asked_in_turn state (wanted_by request) ≡ Ok asked)
    → DidWrite request at asked reply before after count count' → DidRequest request at reply before after count count'
write_did request at asked reply before after count count' passes (inl done) =
    inl (record { made = done.made; stays = done.stays; asked = λ state is part. done.asked state is part (passes state is part) })
write_did request at asked reply before after count count' passes (inr failed) = inr failed

module _ (request : Request) (at : ℤ) (moment : IsMoment at) (path : ForSome (wanted_by request).path IsPath) (writes : is_write (wanted_by request).verb ≡ true) where
  -- a write that gave no answer
  pub error_did : (asked : Asked) (before after : HeldHub) (count count' : ℕ) (e : HubError) (reply : Reply) → reply ≡ error_reply (wanted_by request) e
      → CountsFault {T = Written} count count' (Err e) → RefusesNothing {T = Written} (Err e) → Works {T = Written} (Err e) before after
      → Writes asked.by (mark_number (wanted_by request).mark) asked.write at (Err e) before.kept after.kept → DidWrite request at asked reply before after count count'
  error_did asked before after count count' error.Keeper reply is_reply counts refuses works made = inr (record { left = works; rose = counts; told = is_reply })
  error_did asked before after count count' error.NoMemory reply is_reply counts refuses works made =
      inl (record { made = inl works; stays = counts; asked = wanting_write request at moment path writes asked before.kept after.kept reply is_reply made })
  error_did asked before after count count' (error.Refused fault) reply is_reply counts refuses works made = absurd refuses

-- ---- what is read off what an answer did

-- a commit is left open where the reply tells a failure
pub did_open : (request : Request) (at : ℤ) (reply : Reply) (before after : HeldHub) (count count' : ℕ) → DidRequest request at reply before after count count'
    → after.commit_open ≡ true → (e : HubError) × (reply ≡ error_reply (wanted_by request) e)
did_open request at reply before after count count' (inl done) left = let shut = made_settled before after done.made in absurd (cc)
did_open request at reply before after count count' (inr failed) left = (error.Keeper, failed.told)

pub request_keeps : (request : Request) (at : ℤ) (reply : Reply) (before after : HeldHub) (count count' : ℕ) → DidRequest request at reply before after count count'
    → after.keeps ≡ before.keeps
request_keeps request at reply before after count count' did =
    did_keeps (λ (r : Reply) before after. TakesRequest request at r before after 0) (error_reply (wanted_by request) error.Keeper) reply before after count count' did
