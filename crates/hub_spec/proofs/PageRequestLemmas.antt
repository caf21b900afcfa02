-- A consumer's request for a page, read again, is what it asks for.
use Rattle.std.proofs.Common.{◌≡◌, ℕ, ℤ, List, ◌++◌, Option, None, Some, refl, ap, append-nil, subst, ◌∙◌, codes}
use Rattle.std.specs.Fmt.{decimal}
use Rattle.hub_spec.proofs.AskedQueries.{joined, numbers, read_again}
use Rattle.hub_spec.proofs.Saying.{says}
use Rattle.hub_spec.specs.requests.PageRequests.{CanAsk, page_query, page_request}
use Rattle.hub_spec.specs.requests.Requests.{AnswersRequest, wanted_by}
use Rattle.hub_spec.specs.rules.Answers.{Answers}
use Rattle.hub_spec.specs.rules.Asking.{Asking, IsPageReply, asking}
use Rattle.hub_spec.specs.rules.States.{IsHub}
use Rattle.status_info.specs.declared.reply.Reply.{Reply}
use Rattle.status_info.specs.declared.request.Echo.{Echo}
use Rattle.version_core.specs.HubStates.{HubState}

text_of : (limit offset : ℕ) (pin : Option ℕ) → page_query limit offset pin ≡ joined (numbers limit offset None pin)
unfolding page_query
text_of limit offset None = ap (λ t. codes "limit=" ++ (decimal limit ++ (codes "&offset=" ++ t))) (append-nil (decimal offset))
text_of limit offset (Some pin) = refl

pub page_read : (ask : Asking) → CanAsk ask → (token : List ℕ) (echo : Option Echo) → wanted_by (page_request token ask echo) ≡ asking token ask echo
page_read ask can token echo = (λ i. wanted_by (record (page_request token ask echo) { query = text_of ask.limit ask.offset ask.pin i })) ∙ read_again ask can None tt token echo

pub page_says : (state : HubState) → IsHub state → (ask : Asking) → CanAsk ask → (token : List ℕ) (echo : Option Echo) (at : ℤ) (reply : Reply) (after : HubState) → AnswersRequest state (page_request token ask echo) at reply after → IsPageReply state token ask reply × (after ≡ state)
page_says state hub ask can token echo at reply after answers = says state hub token ask echo at reply after (subst (λ w. Answers state w at reply after) (page_read ask can token echo) answers)
