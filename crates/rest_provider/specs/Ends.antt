-- How a stream of requests is read and written to, and how that ends, whoever answers.
use Rattle.std.specs.Prelude.{◌≡◌, ◌⊎◌, ◌++◌, ◌+◌, ◌-◌, ◌^◌, ⊤, ℕ, true, false, List, [], ◌∷◌, Option, None, Some, Ok}
use Rattle.std.specs.Prelude.{Err, IfSome, length, min}
use Rattle.std.specs.List.{AllByRecursion}
use Rattle.std.specs.Io.KnownBytes.{Appends, prepend_known}
use Rattle.http_wire.specs.Reading.{BeginsWith, Causes, HasRead, OnStream}
use Rattle.http_wire.specs.Replies.{reply_text}
use Rattle.http_wire.specs.declared.fault.WireFault.{WireFault}
use Rattle.http_wire.specs.declared.fault.WireFault.TheVariants as fault
use Rattle.outside_ports.specs.Written.{AppendsPart}
use Rattle.rest_provider.specs.declared.stream_end.StreamEnd.{StreamEnd}
use Rattle.rest_provider.specs.declared.stream_end.StreamEnd.TheVariants as end
use Rattle.roster_base.specs.Faults.{Rose}
use Rattle.status_info.specs.Failing.{failing}
use Rattle.status_info.specs.declared.cause.Cause.TheVariants.{Unreadable}
use Rattle.status_info.specs.declared.request.Request.{Request}

-- the ends of a stream: the bytes that the source has left and those that the sink was given, where they are told, and
-- their faults
pub record Ends : Type 0 where
  pub left : Option (List ℕ)
  pub source_faults : ℕ
  pub written : Option (List ℕ)
  pub sink_faults : ℕ

-- the ends, put together
abbrev pub ends_of : Option (List ℕ) → ℕ → Option (List ℕ) → ℕ → Ends
ends_of left source_faults written sink_faults = record { left = left; source_faults = source_faults; written = written; sink_faults = sink_faults }

-- ---- what is written

-- the reply to what can't be read
abbrev pub unreadable_text : List ℕ
unreadable_text = reply_text (failing Unreadable None true)

-- what is written of a fault: nothing where the bytes end, the source fails or memory runs out
abbrev pub fault_text : WireFault → List ℕ
fault_text fault.Head = unreadable_text
fault_text fault.HeadTooLong = unreadable_text
fault_text fault.Length = unreadable_text
fault_text fault.BodyTooLong = unreadable_text
fault_text fault.Chunked = unreadable_text
fault_text fault.End = []
fault_text fault.Cut = []
fault_text fault.Source = []
fault_text fault.NoMemory = []

-- what is written behind the replies, where a fault stops the reading or none does
abbrev pub stop_text : Option WireFault → List ℕ
stop_text None = []
stop_text (Some e) = fault_text e

-- ---- how the reading stops

-- none of the requests closes the stream
abbrev pub StayOpen : List Request → Type 0
StayOpen requests = AllByRecursion (λ (r : Request). r.close ≡ false) requests

-- the last request closes the stream, and none before it
pub record CloseLast (requests : List Request) : Type 0 where
  pub earlier : List Request
  pub last : Request
  pub are : requests ≡ earlier ++ last ∷ []
  pub stay : StayOpen earlier
  pub closes : last.close ≡ true

-- without a fault it stops behind the request that closes the stream
abbrev pub Stop : Option WireFault → List Request → Type 0
Stop None requests = CloseLast requests
Stop (Some e) requests = StayOpen requests

-- a source fails with one fault alone
abbrev pub SourceStop : Option WireFault → ℕ → ℕ → Type 0
SourceStop (Some fault.Source) before now = Rose before now
SourceStop _ before now = now ≡ before

-- ---- how the stream ends

-- a number, up to the end of u64
abbrev pub counted : ℕ → ℕ
counted n = min n (2 ^ 64 - 1)

-- the end, by what stops the reading, how many requests were answered, and how many bytes were taken behind them
abbrev pub end_at : Option WireFault → ℕ → ℕ → StreamEnd
end_at None answered kept = end.Closed (counted answered) kept
end_at (Some fault.End) answered kept = end.Closed (counted answered) kept
end_at (Some fault.NoMemory) answered kept = end.NoMemory
end_at (Some e) answered kept = end.Wire (counted (answered + 1)) e

-- the stream was read up to the stop, behind which these bytes were taken; each request was answered by a part of this
-- text, and nothing else was written but what tells of the stop
pub record IsServed (before now : Ends) (requests : List Request) (text : List ℕ) (stop : Option WireFault) (kept : List ℕ) : Type 0 where
  pub read : HasRead before.left (prepend_known kept now.left) requests stop
  pub stops : Stop stop requests
  pub cause : IfSome stop (λ e. Causes e kept now.left)
  pub source : SourceStop stop before.source_faults now.source_faults
  pub written : Appends before.written now.written (text ++ stop_text stop)
  pub sink : now.sink_faults ≡ before.sink_faults

-- the requests stand at the front of the bytes, one behind the other, none but the last closes the stream, and the rest
-- follows them
abbrev pub StandFirst : List ℕ → List Request → List ℕ → Type 0
StandFirst bytes [] rest = rest ≡ bytes
StandFirst bytes (request ∷ requests) rest =
    (after : List ℕ) × BeginsWith bytes request after × (request.close ≡ true → requests ≡ []) × StandFirst after requests rest

-- the same of a stream, where it is known
abbrev pub AreTaken : Option (List ℕ) → Option (List ℕ) → List Request → Type 0
AreTaken None rest requests = ⊤
AreTaken (Some stream) None requests = ⊥
AreTaken (Some stream) (Some rest) requests = StandFirst stream requests rest

-- what was to be written behind the replies: nothing, or what tells of a fault
abbrev pub MayFollow : List ℕ → List ℕ → Option (List ℕ) → Type 0
MayFollow more kept left = (more ≡ []) ⊎ ((e : WireFault) × Causes e kept left × (more ≡ fault_text e))

-- the sink failed: the requests were answered, and of what was to be written a front was
pub record IsBrokenOff (before now : Ends) (requests : List Request) (text : List ℕ) : Type 0 where
  pub kept : List ℕ
  pub more : List ℕ
  pub taken : AreTaken before.left (prepend_known kept now.left) requests
  pub follows : MayFollow more kept now.left
  pub written : AppendsPart before.written now.written (text ++ more)
  pub failed : Rose before.sink_faults now.sink_faults

-- the stream was served up to its stop, or up to where the sink failed: these requests were answered, by this text
abbrev pub EndsBy : Ends → Ends → List Request → List ℕ → StreamEnd → Type 0
EndsBy before now requests text result =
    ((stop : Option WireFault) × (kept : List ℕ) × IsServed before now requests text stop kept × (result ≡ end_at stop (length requests) (length kept)))
    ⊎ (IsBrokenOff before now requests text × (result ≡ end.Sink))

-- ---- one turn

-- the next request of the stream was read, behind which these bytes are kept
pub record IsRead (before now : Ends) (kept kept' : List ℕ) (request : Request) : Type 0 where
  pub read : OnStream None (prepend_known kept before.left) (prepend_known kept' now.left) (Ok request)
  pub source : now.source_faults ≡ before.source_faults

-- no request was read
pub record IsStopped (before now : Ends) (kept kept' : List ℕ) (e : WireFault) : Type 0 where
  pub read : OnStream None (prepend_known kept before.left) (prepend_known kept' now.left) (Err e)
  pub cause : Causes e kept' now.left
  pub source : SourceStop (Some e) before.source_faults now.source_faults
  pub written : now.written ≡ before.written
  pub sink : now.sink_faults ≡ before.sink_faults

-- a sink: the bytes that it was given, where they are told, and its faults
pub record SinkState : Type 0 where
  pub written : Option (List ℕ)
  pub faults : ℕ

-- the same from its parts
abbrev pub sink_state : Option (List ℕ) → ℕ → SinkState
sink_state written faults = record { written = written; faults = faults }

-- a fault was told, and the stream ends by it, or the sink failed at that
abbrev pub TellsStop : SinkState → SinkState → WireFault → ℕ → ℕ → StreamEnd → Type 0
TellsStop before now e answered kept result =
    (Appends before.written now.written (fault_text e) × (now.faults ≡ before.faults)
    × (result ≡ end_at (Some e) answered kept))
    ⊎ (AppendsPart before.written now.written (fault_text e) × Rose before.faults now.faults × (result ≡ end.Sink))
