-- Requests and their numbers.
use Rattle.std.specs.Prelude.{◌≡◌, ◌⊎◌, ◌<◌, ◌≤◌, ◌==◌, ◌&&◌, ◌++◌, ℕ, Bool, false, List, [], ◌∷◌, Option, Some, None}
use Rattle.std.specs.Prelude.{⊤}
use Rattle.std.specs.List.{All}
use Rattle.exchange_link.specs.Agreement.{Differ}
use Rattle.exchange_link.specs.Exchanges.{LinkState}
use Rattle.hub_spec.specs.rules.Growth.{Grew}
use Rattle.http_wire.specs.declared.reply_reading.WireReply.{WireReply}
use Rattle.status_info.specs.declared.request.Echo.{Echo}
use Rattle.status_info.specs.declared.request.Request.{Request}
use Rattle.exchange_link.specs.declared.asking.Outcome.{Outcome}
use Rattle.exchange_link.specs.declared.asking.Outcome.TheVariants as outcome

-- this request under a number
abbrev pub numbered : Request → Echo → Request
numbered q n = record q { echo = Some n }

-- the request under some number
abbrev pub IsNumbered : Request → Request → Type 0
IsNumbered request q = (n : Echo) × (q ≡ numbered request n)

-- the number of an exchange of a run
abbrev pub number : ℕ → ℕ → Echo
number run count = record { run = run; count = count }

-- a number is of an earlier run than this, or of this one and at most this count: no exchange to come has it
abbrev pub IsSpent : ℕ → ℕ → Echo → Type 0
IsSpent run count n = (n.run < run) ⊎ ((n.run ≡ run) × (n.count ≤ count))

-- the numbers of all these requests are spent
abbrev pub AllSpent : ℕ → ℕ → List Request → Type 0
AllSpent run count [] = ⊤
AllSpent run count (q ∷ qs) = ((n : Echo) → q.echo ≡ Some n → IsSpent run count n) × AllSpent run count qs

-- the next count of this run is a new number
pub record IsReady (run count : ℕ) (sent : List Request) : Type 0 where
  pub differ : Differ sent
  pub spent : AllSpent run count sent

-- what exchanges do to a hub
pub record Moved (before after : LinkState) : Type 0 where
  pub grew : Grew before.hub after.hub
  pub counts : before.hub_faults ≤ after.hub_faults

-- the requests that were sent since, each of which may be
abbrev pub Adds : (Request → Type 0) → List Request → List Request → Type 0
Adds may before after = (more : List Request) × (after ≡ more ++ before) × All may more

-- exchanges of one run, from one count to another, of requests that may be
pub record Asks (run from to : ℕ) (may : Request → Type 0) (before after : LinkState) : Type 0 where
  pub moved : Moved before after
  pub ready : IsReady run from before.sent → IsReady run to after.sent
  pub adds : Adds may before.sent after.sent

-- whether a reply carries this number
abbrev pub is_number : Option Echo → Echo → Bool
is_number None n = false
is_number (Some m) n = (m.run == n.run) && (m.count == n.count)

-- what holds of the own reply, where it came
abbrev pub IfOwn : Outcome → (WireReply → Type 0) → Type 0
IfOwn (outcome.Own w) P = P w
IfOwn outcome.NoReply P = ⊤
IfOwn outcome.Missed P = ⊤
IfOwn outcome.NoMemory P = ⊤
