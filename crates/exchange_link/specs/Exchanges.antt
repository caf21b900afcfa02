-- What one exchange over a link does.
use Rattle.std.specs.Prelude.{◌≡◌, ◌⊎◌, ◌≤◌, ℕ, ℤ, true, List, [], ◌∷◌, Option, Some, Result, Err, OnOk}
use Rattle.std.specs.Str.{is_utf8}
use Rattle.http_wire.specs.Answers.{IsReplyText}
use Rattle.http_wire.specs.Replies.{body_text, reply_text}
use Rattle.http_wire.specs.Seen.{CanRead}
use Rattle.http_wire.specs.Sending.{CanSend, request_text}
use Rattle.http_wire.specs.declared.reply_reading.WireReply.{WireReply}
pub use Rattle.hub_spec.specs.requests.Requests.{AnswersRequest, wanted_by}
use Rattle.hub_spec.specs.rules.Growth.{Grew}
use Rattle.hub_spec.specs.rules.Runs.{Replied, Steps, Take}
use Rattle.hub_spec.specs.rules.States.{IsHub}
use Rattle.outside_ports.specs.declared.failed.IoError.{IoError}
use Rattle.outside_ports.specs.declared.failed.IoError.TheVariants as io_error
use Rattle.roster_base.specs.Faults.{Rose, one_more}
use Rattle.status_info.specs.declared.reply.Reply.{Reply}
use Rattle.status_info.specs.declared.request.Echo.{Echo}
use Rattle.status_info.specs.declared.request.Request.{Request}
use Rattle.version_core.specs.HubStates.{HubState}

-- what a link tells: the state of its hub, the requests that were handed to it, the newest first, and the count of
-- faults of the hub's keeper
pub record LinkState : Type 0 where
  pub hub : HubState
  pub sent : List Request
  pub hub_faults : ℕ

-- ---- texts

-- the text is that of this request, which may be sent
pub record IsTextOf (q : Request) (text : List ℕ) : Type 0 where
  pub can : CanSend q
  pub text_is : text ≡ request_text q

-- the text is that of some request that may be sent
abbrev pub IsSentText : List ℕ → Type 0
IsSentText text = (q : Request) × IsTextOf q text

-- the text is that of a reply with this number
abbrev pub Carries : List ℕ → Option Echo → Type 0
Carries text echo = (w : WireReply) × IsReplyText text w × (w.echo ≡ echo)

-- ---- replies

-- the text of the hub's own reply to this request: that of a step of the hub which takes it, at a state on the way, and
-- which fails only where the count of the hub's keeper rose. Its body is a text
pub record IsOwn (before after : LinkState) (q : Request) (text : List ℕ) : Type 0 where
  pub reply : Reply
  pub text_is : text ≡ reply_text reply
  pub read : CanRead reply
  pub says : is_utf8 (body_text reply) ≡ true
  pub echo : reply.echo ≡ q.echo
  pub taken_at : HubState
  pub left : HubState
  pub is_hub : IsHub taken_at
  pub from : Grew before.hub taken_at
  pub to : Grew left after.hub
  pub at : ℤ
  pub failed : ℕ
  pub step : Steps (Take (wanted_by q) at) taken_at (Replied reply) left failed
  pub broke : failed ≡ 1 → Rose before.hub_faults after.hub_faults

-- a request with this number was sent
abbrev pub SentAs : Echo → List Request → Type 0
SentAs n [] = ⊥
SentAs n (q ∷ qs) = (q.echo ≡ Some n) ⊎ SentAs n qs

-- the text of a reply to a request that was sent earlier
pub record IsLate (sent : List Request) (text : List ℕ) : Type 0 where
  pub reply : Reply
  pub text_is : text ≡ reply_text reply
  pub read : CanRead reply
  pub to : Echo
  pub was_sent : SentAs to sent
  pub echo : reply.echo ≡ Some to

-- ---- one exchange

-- a link that finds no memory may keep no request
abbrev pub Sends : Request → Result (Unit {0}) IoError → List Request → List Request → Type 0
Sends q result before after = (after ≡ q ∷ before) ⊎ ((result ≡ Err io_error.NoMemory) × (after ≡ before))

-- what an exchange makes of what a link tells; `rose` says that the count of faults rose. An answer that comes is the
-- own reply, or, where the count rose, one to an earlier request
pub record Exchanged (q : Request) (result : Result (Unit {0}) IoError) (rose : Type 0) (kept : List ℕ) (before after : LinkState) : Type 0 where
  pub grew : Grew before.hub after.hub
  pub sent : Sends q result before.sent after.sent
  pub counts : before.hub_faults ≤ after.hub_faults
  pub replies : OnOk result (IsOwn before after q kept ⊎ (rose × IsLate before.sent kept))

-- the count of exchanges in a row at which the count of faults rose: one more where it rose, and else none
pub record Misses (rose : Type 0) (before after : ℕ) : Type 0 where
  pub again : rose → after ≡ one_more before
  pub none : (rose → ⊥) → after ≡ 0
