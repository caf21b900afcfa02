-- A consumer's request for a page of what differs, read again, is what it asks for.
use Rattle.std.proofs.Common.{◌≡◌, ℕ, ℤ, ◌<◌, ◌^◌, List, ◌++◌, Option, None, Some, refl, ap, append-nil, subst, ◌∙◌}
use Rattle.std.proofs.Common.{codes}
use Rattle.std.specs.Fmt.{decimal}
use Rattle.hub_spec.proofs.AskedQueries.{joined, numbers, read_again}
use Rattle.hub_spec.proofs.DeltaSaying.{says_from}
use Rattle.hub_spec.specs.requests.DeltaRequests.{delta_query, delta_request}
use Rattle.hub_spec.specs.requests.PageRequests.{CanAsk}
use Rattle.hub_spec.specs.requests.Requests.{AnswersRequest, wanted_by}
use Rattle.hub_spec.specs.rules.Answers.{Answers}
use Rattle.hub_spec.specs.rules.Asking.{Asking}
use Rattle.hub_spec.specs.rules.DeltaAsking.{IsDeltaReply, asking_from}
use Rattle.hub_spec.specs.rules.States.{IsHub}
use Rattle.status_info.specs.declared.reply.Reply.{Reply}
use Rattle.status_info.specs.declared.request.Echo.{Echo}
use Rattle.version_core.specs.HubStates.{HubState}

text_of : (limit offset base : ℕ) (pin : Option ℕ) → delta_query limit offset base pin ≡ joined (numbers limit offset (Some base) pin)
unfolding delta_query
text_of limit offset base None = ap (λ t. codes "limit=" ++ (decimal limit ++ (codes "&offset=" ++ (decimal offset ++ (codes "&hubSince=" ++ t))))) (append-nil (decimal base))
text_of limit offset base (Some pin) = refl

pub delta_read : (ask : Asking) → CanAsk ask → (base : ℕ) → base < 10 ^ 18 → (token : List ℕ) (echo : Option Echo) → wanted_by (delta_request token ask base echo) ≡ asking_from token ask base echo
delta_read ask can base small token echo = (λ i. wanted_by (record (delta_request token ask base echo) { query = text_of ask.limit ask.offset base ask.pin i })) ∙ read_again ask can (Some base) small token echo

pub delta_says : (state : HubState) → IsHub state → (ask : Asking) → CanAsk ask → (base : ℕ) → base < 10 ^ 18 → (token : List ℕ) (echo : Option Echo) (at : ℤ) (reply : Reply) (after : HubState)
    → AnswersRequest state (delta_request token ask base echo) at reply after → IsDeltaReply state token ask base reply × (after ≡ state)
delta_says state hub ask can base small token echo at reply after answers =
    says_from state hub token ask base echo at reply after (subst (λ w. Answers state w at reply after) (delta_read ask can base small token echo) answers)
