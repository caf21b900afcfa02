-- What a request's head says.
use Rattle.std.specs.Prelude.{ℕ, Bool, true, false, ◌||◌, List, [], ◌∷◌, map, if◌then◌else◌, ◌==◌, nat_lt, Option, Some}
use Rattle.std.specs.Prelude.{None, Result, Ok, Err, codes, is_some}
use Rattle.std.specs.Str.{str_eq_ignore_ascii_case}
use Rattle.httparse.specs.Grammar.{RequestHead}
use Rattle.httparse.specs.Spans.{span_bytes, header_bytes, name_and_value}
use Rattle.httparse.specs.declared.spans.HeaderSpan.{HeaderSpan}
use Rattle.httparse.specs.declared.spans.RequestSpans.{RequestSpans}
use Rattle.status_info.specs.declared.request.Request.{Request}
use Rattle.roster_texts.specs.Digits.{◌>>=◌}
use Rattle.http_wire.specs.Texts.{digits_of, mark_of, echo_at, token_at, path_of, query_of, verb_of}
use Rattle.http_wire.specs.declared.fault.WireFault.{WireFault}
use Rattle.http_wire.specs.declared.fault.WireFault.TheVariants as fault

-- the most bytes of a head, the most fields, and the most bytes of a body
abbrev pub max_head : ℕ
max_head = 16_384

abbrev pub max_fields : ℕ
max_fields = 64

abbrev pub max_body : ℕ
max_body = 131_072

-- the parts of a head: each field is a name and a value without the white space around it
pub record RequestParts : Type 0 where
  pub method : List ℕ
  pub target : List ℕ
  pub minor : ℕ
  pub fields : List (List ℕ × List ℕ)

-- the parts of a head of the grammar
abbrev pub request_parts : RequestHead → RequestParts
request_parts h = record { method = h.method; target = h.target; minor = h.minor; fields = map name_and_value h.fields }

-- the parts that spans of a buffer have
abbrev pub request_parts_in : List ℕ → RequestSpans → List HeaderSpan → RequestParts
request_parts_in bytes spans fields = record {
  method = span_bytes bytes spans.method;
  target = span_bytes bytes spans.path;
  minor = spans.version;
  fields = map (header_bytes bytes) fields;
}

-- a field has this name, in any letter case
abbrev pub has_name : List ℕ → List ℕ × List ℕ → Bool
has_name name f = str_eq_ignore_ascii_case f.0 name

-- the value of the first field of a name
abbrev pub value_of : List ℕ → List (List ℕ × List ℕ) → Option (List ℕ)
value_of name [] = None
value_of name (f ∷ fields) = if has_name name f then Some f.1 else value_of name fields

-- there is a number, and it is this one
abbrev pub is_number : ℕ → Option ℕ → Bool
is_number n None = false
is_number n (Some m) = m == n

-- a field has this number, where it is Content-Length
abbrev pub allows_length : ℕ → List ℕ × List ℕ → Bool
allows_length n f = if has_name (codes "content-length") f then is_number n (digits_of f.1) else true

-- each field Content-Length has this number
abbrev pub lengths_are : ℕ → List (List ℕ × List ℕ) → Bool
lengths_are n [] = true
lengths_are n (f ∷ fields) = if allows_length n f then lengths_are n fields else false

-- the number of the first Content-Length, where each further one has the same
abbrev pub one_length : List (List ℕ × List ℕ) → List ℕ → Option ℕ
one_length fields value = do
  n ← digits_of value
  if lengths_are n fields then Some n else None

-- the length that the fields state, or the one that holds where they state none; None where it is unreadable
abbrev pub stated_length : Option ℕ → Option (List ℕ) → List (List ℕ × List ℕ) → Option ℕ
stated_length missing None fields = missing
stated_length missing (Some value) fields = one_length fields value

-- a length of at most so many bytes, or the first fault
abbrev pub allowed_length : ℕ → Option ℕ → Bool → Result ℕ WireFault
allowed_length most None chunked = Err fault.Length
allowed_length most (Some n) chunked = if nat_lt most n then Err fault.BodyTooLong else if chunked then Err fault.Chunked else Ok n

-- the length of a body of at most so many bytes, or its first fault
unfoldable pub length_of : ℕ → Option ℕ → List (List ℕ × List ℕ) → Result ℕ WireFault
length_of most missing fields =
    allowed_length most (stated_length missing (value_of (codes "content-length") fields) fields)
    (is_some (value_of (codes "transfer-encoding") fields))

-- the length of a request's body, which it lacks where it states no length
abbrev pub body_length : List (List ℕ × List ℕ) → Result ℕ WireFault
body_length fields = length_of max_body (Some 0) fields

-- a value of Connection closes the stream
abbrev pub is_close : Option (List ℕ) → Bool
is_close None = false
is_close (Some value) = str_eq_ignore_ascii_case value (codes "close")

-- what a request with this head and this body asks
unfoldable pub asked : RequestParts → List ℕ → Request
asked parts body = record {
  verb = verb_of parts.method;
  path = path_of parts.target;
  query = query_of parts.target;
  token = token_at (value_of (codes "authorization") parts.fields);
  mark = mark_of (value_of (codes "x-hub-mark") parts.fields);
  echo = echo_at (value_of (codes "x-hub-exchange") parts.fields);
  close = parts.minor == 0 || is_close (value_of (codes "connection") parts.fields);
  body = body;
}
