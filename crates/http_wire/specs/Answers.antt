-- What the text of one reply says, and why bytes are none.
use Rattle.std.specs.Prelude.{◌≡◌, ◌<◌, ◌≤◌, ◌⊎◌, ◌+◌, ◌++◌, ℕ, List, [], length, drop, take, map, All, Option, Some}
use Rattle.std.specs.Prelude.{None, Result, Ok, Err, if◌then◌else◌, ◌==◌, codes, nat_lt, ⊤}
use Rattle.httparse.specs.Grammar.{HasNoResponse, MayBecomeResponse, NeverHasResponse, ReadsResponse, ResponseHead}
use Rattle.httparse.specs.Grammar.{print_response, status_code}
use Rattle.httparse.specs.Spans.{IsHeaderWithin, ResponseOverflows, header_bytes, name_and_value}
use Rattle.httparse.specs.declared.spans.HeaderSpan.{HeaderSpan}
use Rattle.httparse.specs.declared.spans.ResponseSpans.{ResponseSpans}
use Rattle.roster_texts.specs.Digits.{◌>>=◌}
use Rattle.http_wire.specs.Texts.{count_of, echo_at, last_number, number_of}
use Rattle.http_wire.specs.Heads.{length_of, max_fields, value_of}
use Rattle.http_wire.specs.declared.fault.WireFault.{WireFault}
use Rattle.http_wire.specs.declared.fault.WireFault.TheVariants as fault
use Rattle.http_wire.specs.Reading.{end_fault}
use Rattle.http_wire.specs.declared.reply_reading.WireReply.{WireReply}

-- the most bytes of a reply's head, and of its body
abbrev pub max_reply_head : ℕ
max_reply_head = 262_144

abbrev pub max_reply_body : ℕ
max_reply_body = 83_886_080

-- the parts of a head that count
pub record HeadParts : Type 0 where
  pub status : ℕ
  pub fields : List (List ℕ × List ℕ)

-- the parts of a head of the grammar
abbrev pub parts_of_head : ResponseHead → HeadParts
parts_of_head h = record { status = status_code h; fields = map name_and_value h.fields }

-- the parts that spans of a buffer have
abbrev pub parts_in : List ℕ → ℕ → List HeaderSpan → HeadParts
parts_in bytes status fields = record { status = status; fields = map (header_bytes bytes) fields }

-- the length where none is stated
abbrev pub missing_length : ℕ → Option ℕ
missing_length status = if status == 204 then Some 0 else None

-- the length of the body, or its first fault
abbrev pub body_length : HeadParts → Result ℕ WireFault
body_length parts = length_of max_reply_body (missing_length parts.status) parts.fields

-- the number of a value, where it is one
abbrev pub count_at : Option (List ℕ) → Option ℕ
count_at value = value >>= count_of last_number

abbrev pub number_at : Option (List ℕ) → Option ℕ
number_at value = value >>= number_of last_number

-- the reply with this head and this body
unfoldable pub answered : HeadParts → List ℕ → WireReply
answered parts body = record {
  status = parts.status;
  total = count_at (value_of (codes "x-total-count") parts.fields);
  version = count_at (value_of (codes "x-hub-version") parts.fields);
  oldest = count_at (value_of (codes "x-hub-oldest") parts.fields);
  mark = number_at (value_of (codes "x-hub-mark") parts.fields);
  echo = echo_at (value_of (codes "x-hub-exchange") parts.fields);
  body = body;
}

-- a head that fits its limits stands at the front of the bytes, and the body follows it
pub record HasAnswerHead (bytes : List ℕ) (h : ResponseHead) (body : List ℕ) : Type 0 where
  pub reads : ReadsResponse bytes h body
  pub short : length (print_response h) ≤ max_reply_head
  pub few : length h.fields ≤ max_fields

-- the bytes are the text of this reply: its head, and as many bytes as that states
pub record IsAnswer (bytes : List ℕ) (h : ResponseHead) (reply : WireReply) : Type 0 where
  pub head : HasAnswerHead bytes h reply.body
  pub length_is : body_length (parts_of_head h) ≡ Ok (length reply.body)
  pub says : reply ≡ answered (parts_of_head h) reply.body

abbrev pub IsReplyText : List ℕ → WireReply → Type 0
IsReplyText bytes reply = (h : ResponseHead) × IsAnswer bytes h reply

abbrev pub IsNoReply : List ℕ → Type 0
IsNoReply bytes = (reply : WireReply) → ¬ (IsReplyText bytes reply)

-- a head has begun and isn't finished, and bytes can follow that finish it
pub record IsUnfinished (bytes : List ℕ) : Type 0 where
  pub some : 0 < length bytes
  pub short : length bytes < max_reply_head
  pub none : HasNoResponse bytes
  pub begun : MayBecomeResponse bytes

-- a head stands at the front, and the length that it states has this fault
abbrev pub StatesFault : WireFault → List ℕ → Type 0
StatesFault e bytes = (h : ResponseHead) × (body : List ℕ) × HasAnswerHead bytes h body × (body_length (parts_of_head h) ≡ Err e)

-- a head stands at the front and states a length, and fewer bytes stand behind it, or more
abbrev pub LacksBytes : List ℕ → Type 0
LacksBytes bytes =
    (h : ResponseHead) × (body : List ℕ) × (n : ℕ) × HasAnswerHead bytes h body × (body_length (parts_of_head h) ≡ Ok n) × (length body < n)

abbrev pub HasBytesBehind : List ℕ → Type 0
HasBytesBehind bytes =
    (h : ResponseHead) × (body : List ℕ) × (n : ℕ) × HasAnswerHead bytes h body × (body_length (parts_of_head h) ≡ Ok n) × (n < length body)

-- no continuation of the bytes makes a head in its limits
abbrev pub IsAnswerHeadTooLong : List ℕ → Type 0
IsAnswerHeadTooLong bytes = ((max_reply_head ≤ length bytes) × HasNoResponse (take max_reply_head bytes)) ⊎ ResponseOverflows max_fields bytes

-- why the bytes are no text of a reply; of memory nothing is said
abbrev pub Blames : WireFault → List ℕ → Type 0
Blames fault.End bytes = bytes ≡ []
Blames fault.Cut bytes = IsUnfinished bytes ⊎ LacksBytes bytes
Blames fault.Head bytes = NeverHasResponse bytes
Blames fault.HeadTooLong bytes = IsAnswerHeadTooLong bytes
Blames fault.Length bytes = StatesFault fault.Length bytes ⊎ HasBytesBehind bytes
Blames fault.BodyTooLong bytes = StatesFault fault.BodyTooLong bytes
Blames fault.Chunked bytes = StatesFault fault.Chunked bytes
Blames fault.Source bytes = ⊥
Blames fault.NoMemory bytes = ⊤

-- the bytes are no text of a reply, and why
abbrev pub Refuses : WireFault → List ℕ → Type 0
Refuses fault.NoMemory bytes = ⊤
Refuses e bytes = IsNoReply bytes × Blames e bytes

-- the reply of the text, or the fault
abbrev pub ReadsReply : List ℕ → Result WireReply WireFault → Type 0
ReadsReply bytes (Ok reply) = IsReplyText bytes reply
ReadsReply bytes (Err e) = Refuses e bytes

-- ---- the length of a reply, as soon as its head is there

-- a head stands at the front of the bytes, and it and the body that it states have n bytes
abbrev pub BeginsReply : List ℕ → ℕ → Type 0
BeginsReply bytes n =
    (h : ResponseHead) × (body : List ℕ) × (m : ℕ) × HasAnswerHead bytes h body × (body_length (parts_of_head h) ≡ Ok m) × (n ≡ length (print_response h) + m)

-- no head in its limits stands there yet
abbrev pub LacksHead : List ℕ → Type 0
LacksHead bytes = HasNoResponse bytes × (length bytes < max_reply_head)

-- no bytes can follow that make them a reply
abbrev pub NeverReply : List ℕ → Type 0
NeverReply bytes = (more : List ℕ) → IsNoReply (bytes ++ more)

-- the length of the reply that begins with the bytes, or none yet, or why there is no such reply
abbrev pub TellsLength : List ℕ → Result (Option ℕ) WireFault → Type 0
TellsLength bytes (Ok (Some n)) = BeginsReply bytes n
TellsLength bytes (Ok None) = LacksHead bytes
TellsLength bytes (Err e) = NeverReply bytes × Refuses e bytes

-- spans of the front of the bytes cover the head h
pub record FindsAnswer (bytes front : List ℕ) (spans : ResponseSpans) (fields : List HeaderSpan) : Type 0 where
  pub len : spans.len ≤ length bytes
  pub within : All (IsHeaderWithin (length front)) fields
  pub some : (h : ResponseHead) × (_ : HasAnswerHead bytes h (drop spans.len bytes)) × (parts_of_head h ≡ parts_in front spans.code fields)

-- the fault of bytes in which a head has begun and doesn't end
abbrev pub part_fault : List ℕ → WireFault
part_fault bytes = if nat_lt (length bytes) max_reply_head then end_fault bytes else fault.HeadTooLong
