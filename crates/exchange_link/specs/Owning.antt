-- The hub's own reply, as the consumer reads it.
use Rattle.std.specs.Prelude.{◌≡◌, ◌⊎◌, ◌≤◌, ◌∷◌, ℤ, true, List, Some}
use Rattle.std.specs.Str.{is_utf8}
use Rattle.exchange_link.specs.Exchanges.{AnswersRequest, SentAs, LinkState}
use Rattle.hub_spec.specs.rules.Growth.{Grew}
use Rattle.hub_spec.specs.rules.States.{IsHub}
use Rattle.http_wire.specs.Replies.{body_text}
use Rattle.http_wire.specs.Seen.{seen_of}
use Rattle.status_info.specs.Causes.{status_of}
use Rattle.http_wire.specs.declared.reply_reading.WireReply.{WireReply}
use Rattle.roster_base.specs.Faults.{Rose}
use Rattle.status_info.specs.declared.reply.Reply.{Reply}
use Rattle.status_info.specs.declared.request.Echo.{Echo}
use Rattle.status_info.specs.declared.request.Request.{Request}
use Rattle.version_core.specs.HubStates.{HubState}
use Rattle.exchange_link.specs.Requests.{IfOwn}
use Rattle.exchange_link.specs.declared.asking.Outcome.{Outcome}
use Rattle.exchange_link.specs.declared.asking.Outcome.TheVariants as outcome

-- what the hub gives at a state, which it leaves in another: 503 where memory wants, 500 where the count of its keeper
-- rose, or its answer
pub data Gives (h left : HubState) (q : Request) (rose : Type 0) (r : Reply) : Type 0 where
  Wants : status_of r.cause ≡ 503 → Gives h left q rose r
  Broke : status_of r.cause ≡ 500 → rose → Gives h left q rose r
  Answers : (at : ℤ) → AnswersRequest h q at r left → Gives h left q rose r

-- the reply to this request, which the hub took at some state between
pub record IsOwnRead (before after : LinkState) (q : Request) (w : WireReply) : Type 0 where
  pub reply : Reply
  pub seen : seen_of reply ≡ w
  pub says : is_utf8 (body_text reply) ≡ true
  pub mid : HubState
  pub left : HubState
  pub is_hub : IsHub mid
  pub from : Grew before.hub mid
  pub step : Grew mid left
  pub to : Grew left after.hub
  pub gives : Gives mid left q (Rose before.hub_faults after.hub_faults) reply

-- a reply to a request that was sent earlier
pub record IsLateRead (sent : List Request) (w : WireReply) : Type 0 where
  pub to : Echo
  pub was_sent : SentAs to sent
  pub echo : w.echo ≡ Some to

-- what one exchange makes of what a link tells, as its reply is read
pub record Tries (q : Request) (result : Outcome) (before after : LinkState) : Type 0 where
  pub grew : Grew before.hub after.hub
  pub counts : before.hub_faults ≤ after.hub_faults
  pub sent : (after.sent ≡ q ∷ before.sent) ⊎ ((result ≡ outcome.NoMemory) × (after.sent ≡ before.sent))
  pub own : IfOwn result (λ w. IsOwnRead before after q w ⊎ IsLateRead before.sent w)
