-- What becomes of the request of an exchange.
use Rattle.std.specs.Prelude.{◌≡◌, ◌++◌, ⊤, ℕ, ℤ, List, [], ◌∷◌, Option, Some, None, Result, Ok, Err}
use Rattle.http_wire.specs.Replies.{reply_text}
use Rattle.hub_spec.specs.requests.Requests.{wanted_by}
use Rattle.hub_spec.specs.rules.Runs.{Replied, Take}
use Rattle.outside_ports.specs.declared.failed.IoError.{IoError}
use Rattle.outside_ports.specs.declared.failed.IoError.TheVariants as io_error
use Rattle.status_info.specs.declared.reply.Reply.{Reply}
use Rattle.status_info.specs.declared.request.Request.{Request}
use Rattle.sync_world.specs.Happenings.{Passed}
use Rattle.sync_world.specs.Planned.{events_aside, events_at, past_at, reply_of}
use Rattle.sync_world.specs.Walks.{WalksBy}
use Rattle.sync_world.specs.Worlds.{HeldWorld}
use Rattle.sync_world.specs.declared.acts.Saying.{Saying}
use Rattle.sync_world.specs.declared.past.Past.{Past}
use Rattle.sync_world.specs.declared.traffic.Event.{Event}
use Rattle.sync_world.specs.declared.traffic.Exchange.{Exchange}
use Rattle.sync_world.specs.declared.traffic.Fate.{Fate}
use Rattle.sync_world.specs.declared.traffic.Fate.TheVariants as fate

-- the hub takes the request, by one step, and this is the text of its reply
abbrev pub Gives : Request → ℤ → HeldWorld → HeldWorld → List ℕ → Type 0
Gives request at before after text =
    (reply : Reply) × WalksBy (record { command = Take (wanted_by request) at; answer = Replied reply; after = after.state } ∷ []) before after × (text ≡ reply_text reply)

-- the reply that comes, or would come where it isn't lost: the hub's own, none, or that of another exchange
abbrev pub Becomes : Fate → List Past → Request → ℤ → HeldWorld → HeldWorld → Option (List ℕ) → Type 0
Becomes (fate.Stale exchange) past request at before after would = (after ≡ before) × (would ≡ reply_of (past_at exchange past))
Becomes fate.RequestLost past request at before after would = (after ≡ before) × (would ≡ None)
Becomes _ past request at before after (Some text) = Gives request at before after text
Becomes _ past request at before after None = ⊥

-- the exchange is noted with that reply
abbrev pub Notes : ℕ → Request → Option (List ℕ) → List Past → List Past → Type 0
Notes number request would past past' =
    (made : Past) × (past' ≡ past ++ made ∷ []) × (made.exchange ≡ number) × (made.request ≡ request) × (reply_of (Some made) ≡ would)

-- a reply comes where it isn't lost
abbrev pub coming : Fate → Option (List ℕ) → Option (List ℕ)
coming fate.ReplyLost would = None
coming _ would = would

-- an exchange was made and noted: the reply that comes, or would come, and whether it does
pub record Delivered (exchange : Exchange) (request : Request) (past past' : List Past) (before after : HeldWorld) (came : Option (List ℕ)) : Type 0 where
  pub would : Option (List ℕ)
  pub becomes : Becomes exchange.fate past request exchange.at before after would
  pub noted : Notes exchange.number request would past past'
  pub comes : came ≡ coming exchange.fate would

-- what an exchange may change: the exchanges that were made, the events that are still to come, the world, and what is
-- told of what others did
pub record Scene : Type 0 where
  pub past : List Past
  pub events : List Event
  pub world : HeldWorld
  pub said : List Saying

-- what was planned for an exchange came to pass, and then it was made
pub record Carried (exchange : Exchange) (request : Request) (old new : Scene) (came : Option (List ℕ)) : Type 0 where
  pub mid : HeldWorld
  pub passed : Passed old.past exchange.at (events_at exchange.number old.events) old.world mid old.said new.said
  pub aside : new.events ≡ events_aside exchange.number old.events
  pub delivered : Delivered exchange request old.past new.past mid new.world came

-- ---- what calls give

-- a text, or none; of want of memory nothing is said
abbrev pub OnCome : {T : Type 0} → (T → List ℕ) → (Option (List ℕ) → Type 0) → Result T IoError → Type 0
OnCome items Is (Ok text) = Is (Some (items text))
OnCome items Is (Err io_error.Failed) = Is None
OnCome items Is (Err io_error.NoMemory) = ⊤

-- this text, or none, and no want of memory
abbrev pub IsCome : {T : Type 0} → (T → List ℕ) → Option (List ℕ) → Result T IoError → Type 0
IsCome items would (Ok text) = would ≡ Some (items text)
IsCome items would (Err io_error.Failed) = would ≡ None
IsCome items would (Err io_error.NoMemory) = ⊥
