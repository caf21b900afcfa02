-- One turn of a stream: a request is read and answered, or none can be read.
use Rattle.std.specs.Prelude.{◌≡◌, ℤ, ℕ, List, Option}
use Rattle.std.specs.Io.KnownBytes.{Appends}
use Rattle.http_wire.specs.Replies.{reply_text}
use Rattle.outside_ports.specs.Written.{AppendsPart}
use Rattle.rest_provider.specs.Ends.{IsRead, IsStopped}
use Rattle.rest_provider.specs.Exchanges.{Exchange}
use Rattle.rest_provider.specs.Moments.{IsMomentOf}
use Rattle.rest_provider.specs.Steps.{CountsFailed, TakesRequest}
use Rattle.rest_provider.specs.Streams.{ComesFrom, Stage}
use Rattle.rest_provider.specs.declared.turn.Turn.{Turn}
use Rattle.rest_provider.specs.declared.turn.Turn.TheVariants as turn
use Rattle.roster_base.specs.Faults.{Rose}

-- the hub answered a request at the clock's moment
pub record IsAnswered (before now : Stage) (moment : Option ℤ) (e : Exchange) : Type 0 where
  pub at : IsMomentOf moment e.at
  pub failed : ℕ
  pub count : CountsFailed before.keeper_faults now.keeper_faults failed
  pub told : ComesFrom before now (λ kept after. TakesRequest e.request e.at e.reply kept after failed)

-- the hub answered nothing
pub record IsIdle (before now : Stage) : Type 0 where
  pub keeper : now.keeper_faults ≡ before.keeper_faults
  pub told : ComesFrom before now (λ kept after. after ≡ kept)

-- the next request of the stream was read, behind which these bytes are kept, and answered
pub record IsTaken (before now : Stage) (kept kept' : List ℕ) (moment : Option ℤ) (e : Exchange) : Type 0 where
  pub answered : IsAnswered before now moment e
  pub read : IsRead before.ends now.ends kept kept' e.request

-- what a turn comes to
abbrev pub Turns : Stage → Stage → List ℕ → List ℕ → Option ℤ → Turn → Type 0
Turns before now kept kept' moment (turn.Answered close) =
    (e : Exchange) × IsTaken before now kept kept' moment e × (e.request.close ≡ close) × Appends before.ends.written now.ends.written (reply_text e.reply)
    × (now.ends.sink_faults ≡ before.ends.sink_faults)
Turns before now kept kept' moment turn.SinkFailed =
    (e : Exchange) × IsTaken before now kept kept' moment e
    × AppendsPart before.ends.written now.ends.written (reply_text e.reply) × Rose before.ends.sink_faults now.ends.sink_faults
Turns before now kept kept' moment (turn.Stopped e) = IsStopped before.ends now.ends kept kept' e × IsIdle before now
