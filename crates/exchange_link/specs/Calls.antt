-- What the calls that send a request until its reply comes require, and what they say of their exchanges.
use Rattle.std.specs.Prelude.{◌≡◌, ◌+◌, ◌*◌, ◌<◌, ◌≤◌, ℕ, List, Some}
use Rattle.exchange_link.specs.Exchanges.{LinkState}
use Rattle.exchange_link.specs.Requests.{number}
use Rattle.http_wire.specs.Answers.{IsNoReply, IsReplyText}
use Rattle.http_wire.specs.declared.reply_reading.WireReply.{WireReply}
use Rattle.keeper_memory.specs.copy.Copies.{largest_tries}
use Rattle.keeper_memory.specs.declared.copy.state.TheConstants.{LAST}

-- the greatest count of an exchange of a run: all tries of each of so many requests
abbrev pub last_exchange : ℕ
last_exchange = largest_tries * LAST

-- the number of a run that may be
abbrev pub IsRunNumber : ℕ → Type 0
IsRunNumber run = (1 ≤ run) × (run ≤ LAST)

-- a request may be tried so often
abbrev pub CanTry : ℕ → Type 0
CanTry tries = (0 < tries) × (tries ≤ largest_tries)

-- the count of a run's exchanges rose from one to another, by the tries of one request at most
abbrev pub CountsOn : ℕ → ℕ → ℕ → Type 0
CountsOn from tries to = (from ≤ to) × (to ≤ from + tries)

-- after an exchange a link keeps bytes that are no reply, and then it tells no state
abbrev pub KeepsNoReply : ℕ → List ℕ → (LinkState → Type 0) → Type 0
KeepsNoReply count kept tells = (1 ≤ count) × IsNoReply kept × ((after : LinkState) → tells after → ⊥)

-- what a link keeps is no reply to this exchange of the run
abbrev pub KeepsNoOwn : List ℕ → ℕ → ℕ → Type 0
KeepsNoOwn kept run count = (w : WireReply) → IsReplyText kept w → w.echo ≡ Some (number run count) → ⊥
