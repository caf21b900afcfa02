-- How the requests of a connection are answered over a hub that threads share.
use Rattle.std.specs.Prelude.{◌≡◌, ◌⊎◌, ⊤, ℕ, ℤ, List, [], ◌∷◌, Option, None, Some, MatchBool, map}
use Rattle.std.specs.List.{AllByRecursion, flat_map}
use Rattle.std.specs.Io.KnownBytes.{Appends}
use mathlib.Core.List.{IsPrefix}
use Rattle.http_wire.specs.Replies.{reply_text}
use Rattle.hub_core.specs.declared.hub_error.HubError.TheVariants as error
use Rattle.hub_history.specs.declared.entry.Entry.{Entry}
use Rattle.hub_history.specs.Histories.{state_after}
use Rattle.hub_shared.specs.Seats.{ReadsAt, SeatView}
use Rattle.hub_shared.specs.Standings.{Receipted}
use Rattle.hub_spec.specs.requests.Requests.{wanted_by}
use Rattle.hub_spec.specs.rules.Wanted.{is_write}
use Rattle.keeper_memory.specs.Kept.{KeptState}
use Rattle.outside_ports.specs.Written.{AppendsPart}
use Rattle.rest_provider.specs.Ends.{Ends, EndsBy, IsRead, IsStopped}
use Rattle.rest_provider.specs.Moments.{IsMomentOf}
use Rattle.rest_provider.specs.Replies.{out_of_memory}
use Rattle.rest_provider.specs.Steps.{TakesRequest, error_reply}
use Rattle.rest_provider.specs.declared.stream_end.StreamEnd.{StreamEnd}
use Rattle.rest_provider.specs.declared.turn.Turn.{Turn}
use Rattle.rest_provider.specs.declared.turn.Turn.TheVariants as turn
use Rattle.roster_base.specs.Faults.{Rose}
use Rattle.status_info.specs.declared.reply.Reply.{Reply}
use Rattle.status_info.specs.declared.request.Request.{Request}

-- ---- one request

-- a write at the clock's moment, of which this is the receipt
abbrev pub IsWritten : KeptState → Option ℤ → Request → Reply → List Entry → Type 0
IsWritten opening moment request reply receipt = (at : ℤ) × IsMomentOf moment at
    × Receipted (λ r before after. TakesRequest request at r before after 0) (error_reply (wanted_by request) error.Keeper) (out_of_memory (wanted_by request)) opening reply receipt

-- a read at a beginning of the history that begins with all that the seat had seen or was told of, or 503
pub record ReadsBySeat (opening : KeptState) (request : Request) (reply : Reply) (before now : SeatView) : Type 0 where
  pub seen : IsPrefix before.seen now.seen
  pub told : now.told ≡ before.told
  pub answer : (reply ≡ out_of_memory (wanted_by request)) ⊎ (IsPrefix before.told now.seen × ReadsAt (state_after opening now.seen) request reply)

-- a write, of whose receipt the seat is then told
pub record WritesBySeat (opening : KeptState) (moment : Option ℤ) (request : Request) (reply : Reply) (before now : SeatView) : Type 0 where
  pub receipt : List Entry
  pub written : IsWritten opening moment request reply receipt
  pub seen : now.seen ≡ before.seen
  pub told : IsPrefix before.told now.told
  pub learnt : IsPrefix receipt now.told

abbrev pub TakesBySeat : KeptState → Option ℤ → Request → Reply → SeatView → SeatView → Type 0
TakesBySeat opening moment request reply before now =
    MatchBool (is_write request.verb) (WritesBySeat opening moment request reply before now) (ReadsBySeat opening request reply before now)

-- without a seat a read is answered at a state of the history
abbrev pub TakesByLock : KeptState → Option ℤ → Request → Reply → Type 0
TakesByLock opening moment request reply =
    MatchBool (is_write request.verb) ((receipt : List Entry) × IsWritten opening moment request reply receipt) ((log : List Entry) × ReadsAt (state_after opening log) request reply)

-- by the seat where there is one; a seat stays, and none comes
abbrev pub TakesShared : KeptState → Option ℤ → Request → Reply → Option SeatView → Option SeatView → Type 0
TakesShared opening moment request reply (Some before) (Some now) = TakesBySeat opening moment request reply before now
TakesShared opening moment request reply None None = TakesByLock opening moment request reply
TakesShared opening moment request reply _ _ = ⊥

-- ---- a connection: `takes` says of a request and its reply what they make of a value

-- a request and its reply
pub record Exchange : Type 0 where
  pub request : Request
  pub reply : Reply

abbrev pub requests_of : List Exchange → List Request
requests_of exchanges = map (λ (e : Exchange). e.request) exchanges

-- the texts of the replies, one behind the other
abbrev pub replies_text : List Exchange → List ℕ
replies_text exchanges = flat_map (λ (e : Exchange). reply_text e.reply) exchanges

-- one exchange after another
abbrev pub All : {V : Type 0} → (Request → Reply → V → V → Type 0) → List Exchange → V → V → Type 0
All takes [] before now = now ≡ before
All takes (e ∷ exchanges) before now = (mid : _) × takes e.request e.reply before mid × All takes exchanges mid now

-- a connection was served
pub record Serves {V : Type 0} (takes : Request → Reply → V → V → Type 0) (before now : Ends) (value value' : V) (result : StreamEnd) : Type 0 where
  pub exchanges : List Exchange
  pub answered : All takes exchanges value value'
  pub ends : EndsBy before now (requests_of exchanges) (replies_text exchanges) result

-- a connection at one time: its ends, the bytes that were read ahead, and the value
pub record Connection (V : Type 0) : Type 0 where
  pub ends : Ends
  pub kept : List ℕ
  pub value : V

-- the same from its parts
abbrev pub connection : {V : Type 0} → Ends → List ℕ → V → Connection V
connection ends kept value = record { ends = ends; kept = kept; value = value }

-- a request was read and answered
pub record IsTaken {V : Type 0} (takes : Request → Reply → V → V → Type 0) (before now : Connection V) (e : Exchange)
    : Type 0 where
  pub read : IsRead before.ends now.ends before.kept now.kept e.request
  pub taken : takes e.request e.reply before.value now.value

-- what a turn comes to
abbrev pub Turns : {V : Type 0} → (Request → Reply → V → V → Type 0) → Connection V → Connection V → Turn → Type 0
Turns takes before now (turn.Answered close) =
    (e : Exchange) × IsTaken takes before now e × (e.request.close ≡ close)
    × Appends before.ends.written now.ends.written (reply_text e.reply) × (now.ends.sink_faults ≡ before.ends.sink_faults)
Turns takes before now turn.SinkFailed =
    (e : Exchange) × IsTaken takes before now e × AppendsPart before.ends.written now.ends.written (reply_text e.reply)
    × Rose before.ends.sink_faults now.ends.sink_faults
Turns takes before now (turn.Stopped e) =
    IsStopped before.ends now.ends before.kept now.kept e × (now.value ≡ before.value)

-- ---- the order of a seat's reads

-- the place of the history at which a request was answered: a write's is its receipt; a read's begins with each of the
-- earlier places, or the reply is 503, and the place is no matter
abbrev pub AnsweredAt : KeptState → Option ℤ → List (List Entry) → Exchange → List Entry → Type 0
AnsweredAt opening moment earlier e place =
    MatchBool (is_write e.request.verb) (IsWritten opening moment e.request e.reply place)
    (((e.reply ≡ out_of_memory (wanted_by e.request)) × (place ≡ [])) ⊎ (ReadsAt (state_after opening place) e.request e.reply × AllByRecursion (λ p. IsPrefix p place) earlier))

-- each of these places begins what the seat has seen, or what it was told of
abbrev pub AreKnown : List (List Entry) → SeatView → Type 0
AreKnown places seat = AllByRecursion (λ place. IsPrefix place seat.seen ⊎ IsPrefix place seat.told) places

-- each request was answered at a place, behind the places of those before it
abbrev pub InOrder : KeptState → Option ℤ → List (List Entry) → List Exchange → Type 0
InOrder opening moment earlier [] = ⊤
InOrder opening moment earlier (e ∷ exchanges) =
    (place : List Entry) × AnsweredAt opening moment earlier e place × InOrder opening moment (place ∷ earlier) exchanges
