-- What is planned for exchanges, and what was exchanged.
use Rattle.std.specs.Prelude.{◌≡◌, ◌==◌, ⊤, ℕ, Bool, not, List, [], ◌∷◌, Option, Some, None, filter, option_map}
use Rattle.std.specs.Prelude.{if◌then◌else◌}
use Rattle.status_info.specs.declared.request.Request.{Request}
use Rattle.sync_world.specs.declared.past.Past.{Past}
use Rattle.sync_world.specs.declared.traffic.Event.{Event}
use Rattle.sync_world.specs.declared.traffic.Fate.{Fate}
use Rattle.sync_world.specs.declared.traffic.Fate.TheVariants as fate
use Rattle.sync_world.specs.declared.traffic.Planned.{Planned}

-- what is to become of an exchange: what was planned last, or else this
abbrev pub fate_from : Fate → List Planned → ℕ → Fate
fate_from fate [] exchange = fate
fate_from fate (plan ∷ plans) exchange = fate_from (if plan.exchange == exchange then plan.fate else fate) plans exchange

-- what is to become of an exchange: what was planned last, or else that it is whole
abbrev pub fate_at : List Planned → ℕ → Fate
fate_at plans exchange = fate_from fate.Whole plans exchange

-- the event is one of this exchange
abbrev pub is_at : ℕ → Event → Bool
is_at exchange event = event.exchange == exchange

-- the events of an exchange, in the order in which they were planned
abbrev pub events_at : ℕ → List Event → List Event
events_at exchange events = filter (is_at exchange) events

-- the events of other exchanges
abbrev pub events_aside : ℕ → List Event → List Event
events_aside exchange events = filter (λ event. not (is_at exchange event)) events

-- the first event of an exchange is taken out, where there is one
abbrev pub IsTakenOut : ℕ → List Event → List Event → Option Event → Type 0
IsTakenOut exchange old new None = (events_at exchange old ≡ []) × (new ≡ old)
IsTakenOut exchange old new (Some event) = (events_at exchange old ≡ event ∷ events_at exchange new) × (events_aside exchange new ≡ events_aside exchange old)

-- the exchange of a number, where it was made
abbrev pub past_at : ℕ → List Past → Option Past
past_at exchange [] = None
past_at exchange (made ∷ past) = if made.exchange == exchange then Some made else past_at exchange past

-- the request of an exchange that was made
abbrev pub request_of : Option Past → Option Request
request_of None = None
request_of (Some made) = Some made.request

-- the reply of an exchange that was made, where there was one
abbrev pub reply_of : Option Past → Option (List ℕ)
reply_of None = None
reply_of (Some made) = option_map (λ text. text.items) made.reply

-- ---- what becomes of an exchange

-- its request is lost, or its reply
abbrev pub IsLost : Fate → Type 0
IsLost fate.RequestLost = ⊤
IsLost fate.ReplyLost = ⊤
IsLost _ = ⊥

-- it may fail: where something is lost, or where no reply is there that is to come in place of its own
abbrev pub MayFail : Fate → List Past → Type 0
MayFail fate.Whole past = ⊥
MayFail fate.RequestLost past = ⊤
MayFail fate.ReplyLost past = ⊤
MayFail (fate.Stale exchange) past = reply_of (past_at exchange past) ≡ None
