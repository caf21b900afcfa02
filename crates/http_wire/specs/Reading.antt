-- The requests that stand in a stream, and why one can't be read.
use Rattle.std.specs.Prelude.{◌≡◌, ◌<◌, ◌≤◌, ◌⊎◌, ℕ, ◌+◌, ◌*◌, List, [], ◌∷◌, ◌++◌, length, take, drop, All, MatchBool}
use Rattle.std.specs.Prelude.{false, Option, Some, None, Result, Ok, Err, MatchOption, ⊤}
use Rattle.std.specs.Io.KnownBytes.{Consumes, IsAtEnd, Keeps}
use Rattle.httparse.specs.Grammar.{RequestHead, ReadsRequest, HasNoRequest, NeverHasRequest, print_request}
use Rattle.httparse.specs.Spans.{IsHeaderWithin, IsWithin, RequestOverflows}
use Rattle.httparse.specs.declared.Error.{Error}
use Rattle.httparse.specs.declared.Error.TheVariants.{HeaderName, HeaderValue, NewLine, Status, Token, TooManyHeaders}
use Rattle.httparse.specs.declared.Error.TheVariants.{Version}
use Rattle.httparse.specs.declared.spans.HeaderSpan.{HeaderSpan}
use Rattle.httparse.specs.declared.spans.RequestSpans.{RequestSpans}
use Rattle.roster_base.specs.Faults.{Rose}
use Rattle.status_info.specs.declared.request.Request.{Request}
use Rattle.http_wire.specs.Lasting.{lasting}
use Rattle.http_wire.specs.Heads.{request_parts_in, request_parts, asked, body_length, max_head, max_fields, max_body}
use Rattle.http_wire.specs.declared.fault.WireFault.{WireFault}
use Rattle.http_wire.specs.declared.fault.WireFault.TheVariants as fault

-- a head that fits its limits stands at the front of the bytes, and the rest follows it
pub record HasHead (bytes : List ℕ) (h : RequestHead) (rest : List ℕ) : Type 0 where
  pub reads : ReadsRequest bytes h rest
  pub short : length (print_request h) ≤ max_head
  pub few : length h.fields ≤ max_fields

-- behind the head stand the body, as long as the head says, and then the rest
pub record HasBody (h : RequestHead) (after : List ℕ) (request : Request) (rest : List ℕ) : Type 0 where
  pub length_is : body_length (request_parts h).fields ≡ Ok (length request.body)
  pub body : after ≡ request.body ++ rest
  pub asks : request ≡ asked (request_parts h) request.body

-- the text of this request stands at the front of the bytes, and the rest follows it
abbrev pub BeginsWith : List ℕ → Request → List ℕ → Type 0
BeginsWith bytes request rest = (h : RequestHead) × (after : List ℕ) × HasHead bytes h after × HasBody h after request rest

-- no request text stands at the front
abbrev pub BeginsWithNone : List ℕ → Type 0
BeginsWithNone bytes = (request : Request) (rest : List ℕ) → ¬ (BeginsWith bytes request rest)

-- the requests that stand in the bytes, one behind the other, up to the first place where none stands
-- or behind one that closes the stream; the rest follows them
abbrev pub AreRequests : List ℕ → List Request → List ℕ → Type 0
AreRequests bytes [] rest = BeginsWithNone bytes × (rest ≡ bytes)
AreRequests bytes (request ∷ requests) rest =
    (after : List ℕ) × BeginsWith bytes request after
    × MatchBool request.close ((requests ≡ []) × (rest ≡ after)) (AreRequests after requests rest)

-- a head stands there, and the length that it states has this fault
abbrev pub HasFaultyLength : WireFault → List ℕ → Type 0
HasFaultyLength e bytes = (h : RequestHead) × (after : List ℕ) × HasHead bytes h after × (body_length (request_parts h).fields ≡ Err e)

-- no continuation of the bytes makes a head in its limits
abbrev pub IsHeadTooLong : List ℕ → Type 0
IsHeadTooLong bytes = ((max_head ≤ length bytes) × HasNoRequest (take max_head bytes)) ⊎ RequestOverflows max_fields bytes

-- why no request can be read of these bytes, whatever follows them; of memory nothing is said
abbrev pub Explains : WireFault → List ℕ → Type 0
Explains fault.End bytes = ⊥
Explains fault.Cut bytes = ⊥
Explains fault.Head bytes = NeverHasRequest bytes
Explains fault.HeadTooLong bytes = IsHeadTooLong bytes
Explains fault.Length bytes = HasFaultyLength fault.Length bytes
Explains fault.BodyTooLong bytes = HasFaultyLength fault.BodyTooLong bytes
Explains fault.Chunked bytes = HasFaultyLength fault.Chunked bytes
Explains fault.Source bytes = ⊥
Explains fault.NoMemory bytes = ⊤

-- the request at the front of some bytes and its length, nothing where more bytes are needed, or the fault
abbrev pub IsFront : List ℕ → Result (Option (Request × ℕ)) WireFault → Type 0
IsFront bytes (Ok (Some found)) = (0 < found.1) × (found.1 ≤ length bytes) × BeginsWith bytes found.0 (drop found.1 bytes)
IsFront bytes (Ok None) = BeginsWithNone bytes × (length bytes < max_head + max_body)
IsFront bytes (Err e) = Explains e bytes

-- what a reader holds: the bytes behind the last request, and the fault that stands from then on
pub record Held : Type 0 where
  pub kept : List ℕ
  pub fault : Option WireFault

-- the fault at the end of the input: bytes of a request were taken, or none
abbrev pub end_fault : List ℕ → WireFault
end_fault [] = fault.End
end_fault (b ∷ bytes) = fault.Cut

-- why a call answers a fault, by the bytes since the last request and those that the source has left
abbrev pub Causes : WireFault → List ℕ → Option (List ℕ) → Type 0
Causes fault.End bytes left = (bytes ≡ []) × BeginsWithNone bytes × IsAtEnd left
Causes fault.Cut bytes left = (0 < length bytes) × BeginsWithNone bytes × IsAtEnd left
Causes fault.Source bytes left = ⊤
Causes e bytes left = Explains e bytes

-- the first answer of a fault
pub record Fails (e : WireFault) (bytes : List ℕ) (new : Held) (left : Option (List ℕ)) : Type 0 where
  pub kept : new.kept ≡ bytes
  pub fault : new.fault ≡ lasting e
  pub cause : Causes e bytes left

-- a fault that stands is answered again, and nothing is read
pub record FailsAgain (known e : WireFault) (bytes : List ℕ) (old new : Held) : Type 0 where
  pub same : e ≡ known
  pub none_taken : bytes ≡ []
  pub unchanged : new ≡ old

-- what `next` answers of the bytes that were kept and those that it took
abbrev pub NextGives : Held → List ℕ → Held → Option (List ℕ) → Result Request WireFault → Type 0
NextGives old taken new left (Ok request) =
    (old.fault ≡ None) × (new.fault ≡ None) × BeginsWith (old.kept ++ taken) request new.kept
NextGives old taken new left (Err e) =
    MatchOption old.fault (Fails e (old.kept ++ taken) new left) (λ known. FailsAgain known e taken old new)

-- a fault of the source comes only where its count rose, and it rises with no other answer
abbrev pub SourceCause : {T : Type 0} → ℕ → ℕ → Result T WireFault → Type 0
SourceCause before now (Ok x) = now ≡ before
SourceCause before now (Err fault.Source) = (before ≤ now) × Rose before now
SourceCause before now (Err e) = now ≡ before

-- the fault of a head that the parser refused
abbrev pub refusal_of : Error → WireFault
refusal_of TooManyHeaders = fault.HeadTooLong
refusal_of HeaderName = fault.Head
refusal_of HeaderValue = fault.Head
refusal_of NewLine = fault.Head
refusal_of Status = fault.Head
refusal_of Token = fault.Head
refusal_of Version = fault.Head

-- the same of the whole stream, where it is known: the bytes that were kept and those that the source has left.
-- So it doesn't matter how the reads were cut
abbrev pub OnStream : Option WireFault → Option (List ℕ) → Option (List ℕ) → Result Request WireFault → Type 0
OnStream known None after result = ⊤
OnStream known (Some stream) None result = ⊥
OnStream known (Some stream) (Some rest) (Ok request) = BeginsWith stream request rest
OnStream known (Some stream) (Some rest) (Err e) = (rest ≡ stream) × (known ≡ None → lasting e ≡ Some e → BeginsWithNone stream)

-- spans of the front of the bytes cover the head h
pub record IsHeadAt (bytes front : List ℕ) (spans : RequestSpans) (fields : List HeaderSpan) (h : RequestHead) : Type 0 where
  pub head : HasHead bytes h (drop spans.len bytes)
  pub parts : request_parts h ≡ request_parts_in front spans fields

-- a head that fits its limits was found, and its spans lie in the front of the bytes
pub record FindsHead (bytes front : List ℕ) (spans : RequestSpans) (fields : List HeaderSpan) : Type 0 where
  pub some_bytes : 0 < spans.len
  pub len : spans.len ≤ length bytes
  pub short : spans.len ≤ max_head
  pub method : IsWithin (length front) spans.method
  pub path : IsWithin (length front) spans.path
  pub within : All (IsHeaderWithin (length front)) fields
  pub some : (h : RequestHead) × IsHeadAt bytes front spans fields h

-- the source gave n bytes, which stand at the end of the buffer, or for want of memory or by its own fault none
abbrev pub Fills : Option (List ℕ) → Option (List ℕ) → List ℕ → List ℕ → Result ℕ WireFault → Type 0
Fills old new before after (Ok n) =
    (taken : List ℕ) × Consumes old new taken × (after ≡ before ++ taken) × (length taken ≡ n) × (n ≡ 0 → IsAtEnd new)
Fills old new before after (Err e) = Keeps old new × (after ≡ before) × ((e ≡ fault.Source) ⊎ (e ≡ fault.NoMemory))

-- a request at the front of the bytes was taken away, or they stay and have the fault
abbrev pub Leaves : List ℕ → List ℕ → Option (List ℕ) → Result Request WireFault → Type 0
Leaves bytes kept left (Ok request) = BeginsWith bytes request kept
Leaves bytes kept left (Err e) = (kept ≡ bytes) × Causes e bytes left

-- a source may give this many bytes and more, so a loop over requests ends: each takes one of them at least
abbrev pub bytes_due : ℕ → ℕ → ℕ
bytes_due budget kept = budget * 4_096 + kept

-- these are the first requests of the bytes, none of which closes the stream, and the rest follows them
abbrev pub AreFirst : List ℕ → List Request → List ℕ → Type 0
AreFirst bytes [] rest = rest ≡ bytes
AreFirst bytes (request ∷ requests) rest =
    (after : List ℕ) × BeginsWith bytes request after × (request.close ≡ false) × AreFirst after requests rest

-- what was read of a known stream: its requests up to the one that closes it, or up to a fault; where the fault lasts,
-- these are all
abbrev pub HasRead : Option (List ℕ) → Option (List ℕ) → List Request → Option WireFault → Type 0
HasRead None after requests e = ⊤
HasRead (Some stream) None requests e = ⊥
HasRead (Some stream) (Some rest) requests None = AreRequests stream requests rest
HasRead (Some stream) (Some rest) requests (Some e) = AreFirst stream requests rest × (lasting e ≡ Some e → AreRequests stream requests rest)
