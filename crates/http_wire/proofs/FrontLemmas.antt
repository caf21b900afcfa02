-- The head at the front of some bytes, and what follows from it.
use Rattle.std.proofs.Common.{◌≡◌, ◌<◌, ◌≤◌, inl, inr, ℕ, ◌+◌, ◌-◌, min, List, ◌++◌, length, take, drop, map, Bool}
use Rattle.std.proofs.Common.{true, false, Option, Some, None, Ok, Err, if◌then◌else◌, nat_lt, refl, sym, ap, ◌∙◌}
use Rattle.std.proofs.Common.{subst, arith, append_assoc, length-append}
use Rattle.std.specs.Prelude.{◌≢◌, codes, is_some}
use Rattle.std.proofs.lemmas.List.{take-append-drop, length-take, length-map, length-drop, drop-drop}
use Rattle.std.proofs.lemmas.List.Elements.{All-weaker}
use Rattle.std.proofs.lemmas.Grind.{common_steps}
use Rattle.std.proofs.Math.Seq.{drop-append_seam}
use Rattle.httparse.specs.Grammar.{RequestHead, HasNoRequest, NeverHasRequest, print_request}
use Rattle.httparse.specs.Spans.{IsHeaderWithin, IsRequestOf, IsRequestWithin, RequestOverflows, header_bytes}
use Rattle.httparse.specs.Spans.{name_and_value}
use Rattle.httparse.specs.declared.Error.{Error}
use Rattle.httparse.specs.declared.Error.TheVariants.{HeaderName, HeaderValue, NewLine, Status, Token, TooManyHeaders}
use Rattle.httparse.specs.declared.Error.TheVariants.{Version}
use Rattle.httparse.specs.declared.spans.HeaderSpan.{HeaderSpan}
use Rattle.httparse.specs.declared.spans.RequestSpans.{RequestSpans}
use Rattle.httparse.proofs.GrammarLemmas.{request_unique}
use Rattle.status_info.specs.declared.request.Request.{Request}
use Rattle.http_wire.specs.declared.fault.WireFault.{WireFault}
use Rattle.http_wire.specs.declared.fault.WireFault.TheVariants as fault
use Rattle.http_wire.specs.Heads.{RequestParts, request_parts, request_parts_in, asked, body_length, length_of}
use Rattle.http_wire.specs.Heads.{allowed_length, stated_length}
use Rattle.http_wire.specs.Heads.{value_of, max_head, max_body, max_fields}
use Rattle.http_wire.specs.Reading.{BeginsWith, BeginsWithNone, HasHead, HasFaultyLength, Explains, FindsHead}
use Rattle.http_wire.specs.Reading.{refusal_of, IsHeadTooLong}

-- ---- the length that a head states

-- a fault of the length
abbrev pub IsLengthFault : WireFault → Type 0
IsLengthFault fault.Length = Unit {0}
IsLengthFault fault.BodyTooLong = Unit {0}
IsLengthFault fault.Chunked = Unit {0}
IsLengthFault e = ⊥

in_limit : (most : ℕ) (o : Option ℕ) (chunked : Bool) (n : ℕ) → allowed_length most o chunked ≡ Ok n → n ≤ most
in_limit most None chunked n h = cc
in_limit most (Some m) chunked n h = by (nat_lt most m) chunked refl h
  where
    by : (long chunked : Bool) → nat_lt most m ≡ long
        → (if long then Err fault.BodyTooLong else if chunked then Err fault.Chunked else Ok m) ≡ Ok n → n ≤ most
    by true chunked e h = cc
    by false true e h = cc
    by false false e h = let same : m ≡ n = cc in grind (arith, common_steps)

faulty_length : (most : ℕ) (o : Option ℕ) (chunked : Bool) (e : WireFault) → allowed_length most o chunked ≡ Err e → IsLengthFault e
faulty_length most None chunked e h = let same : fault.Length ≡ e = cc in subst IsLengthFault same tt
faulty_length most (Some m) chunked e h = by (nat_lt most m) chunked h
  where
    by : (long chunked : Bool)
        → (if long then Err fault.BodyTooLong else if chunked then Err fault.Chunked else Ok m) ≡ Err e → IsLengthFault e
    by true chunked h = let same : fault.BodyTooLong ≡ e = cc in subst IsLengthFault same tt
    by false true h = let same : fault.Chunked ≡ e = cc in subst IsLengthFault same tt
    by false false h = cc

pub length_in_limit : (most : ℕ) (missing : Option ℕ) (fields : List (List ℕ × List ℕ)) (n : ℕ) → length_of most missing fields ≡ Ok n → n ≤ most
unfolding length_of
length_in_limit most missing fields n h =
    in_limit most (stated_length missing (value_of (codes "content-length") fields) fields) (is_some (value_of (codes "transfer-encoding") fields)) n h

body_in_limit : (fields : List (List ℕ × List ℕ)) (n : ℕ) → body_length fields ≡ Ok n → n ≤ max_body
body_in_limit fields n h = length_in_limit max_body (Some 0) fields n h

-- whatever the limit
pub length_fault : (most : ℕ) (missing : Option ℕ) (fields : List (List ℕ × List ℕ)) (e : WireFault) → length_of most missing fields ≡ Err e → IsLengthFault e
unfolding length_of
length_fault most missing fields e h =
    faulty_length most (stated_length missing (value_of (codes "content-length") fields) fields) (is_some (value_of (codes "transfer-encoding") fields)) e h

explained : (e : WireFault) (bytes : List ℕ) → IsLengthFault e → HasFaultyLength e bytes → Explains e bytes
explained fault.End bytes is h = is
explained fault.Cut bytes is h = is
explained fault.Head bytes is h = absurd is
explained fault.HeadTooLong bytes is h = absurd is
explained fault.Length bytes is h = h
explained fault.BodyTooLong bytes is h = h
explained fault.Chunked bytes is h = h
explained fault.Source bytes is h = is
explained fault.NoMemory bytes is h = tt

-- the head that was found states a length with a fault
pub head_fault : {bytes front : List ℕ} {spans : RequestSpans} {fields : List HeaderSpan} (e : WireFault) → FindsHead bytes front spans fields
    → body_length (map (header_bytes front) fields) ≡ Err e → Explains e bytes
head_fault {bytes} {front} {spans} {fields} e found is =
    let (h, at) = found.some in
    explained e bytes (length_fault max_body (Some 0) _ e is)
    (h, drop spans.len bytes, at.head, ap (λ (s : RequestParts). body_length s.fields) at.parts ∙ is)

-- ---- bytes that end inside a body

-- a head at the front is the only one
pub head_unique : {bytes : List ℕ} (h k : RequestHead) {after rest : List ℕ} → HasHead bytes h after → HasHead bytes k rest → (h ≡ k) × (after ≡ rest)
head_unique h k x y = request_unique _ h k _ _ x.reads y.reads

pub body_missing : {bytes front : List ℕ} {spans : RequestSpans} {fields : List HeaderSpan} (n : ℕ) → FindsHead bytes front spans fields
    → body_length (map (header_bytes front) fields) ≡ Ok n → length (drop spans.len bytes) < n
    → BeginsWithNone bytes × (length bytes < max_head + max_body)
body_missing {bytes} {front} {spans} {fields} n found is less =
    let (h, at) = found.some in
    let states : body_length (request_parts h).fields ≡ Ok n = ap (λ (s : RequestParts). body_length s.fields) at.parts ∙ is in (
      (λ request rest (k, after, head, body).
          let (same, left) = head_unique h k at.head head in
          let lengths : body_length (request_parts h).fields ≡ Ok (length request.body) =
          ap (λ (k : RequestHead). body_length (request_parts k).fields) same ∙ body.length_is in
          let count : n ≡ length request.body = cc in
          let whole : length (drop spans.len bytes) ≡ length request.body + length rest =
          ap length (left ∙ body.body) ∙ length-append request.body rest in
          absurd (omega arith)),
      (let few : n ≤ max_body = body_in_limit _ n is in omega (arith, length-drop spans.len bytes, found.len, found.short)),
    )

-- ---- a whole request

pub body_of_asked : (parts : RequestParts) (body : List ℕ) → (asked parts body).body ≡ body
unfolding asked
body_of_asked parts body = refl

pub whole_request : {bytes front : List ℕ} {spans : RequestSpans} {fields : List HeaderSpan} (n : ℕ) (request : Request) → FindsHead bytes front spans fields
    → body_length (map (header_bytes front) fields) ≡ Ok n → n ≤ length (drop spans.len bytes)
    → request ≡ asked (request_parts_in front spans fields) (take n (drop spans.len bytes))
    → (0 < spans.len + n) × (spans.len + n ≤ length bytes) × BeginsWith bytes request (drop (spans.len + n) bytes)
whole_request {bytes} {front} {spans} {fields} n request found is enough same =
    let (h, at) = found.some in
    let states : body_length (request_parts h).fields ≡ Ok n = ap (λ (s : RequestParts). body_length s.fields) at.parts ∙ is in
    let body : request.body ≡ take n (drop spans.len bytes) = ap (λ (r : Request). r.body) same ∙ body_of_asked _ _ in
    let count : length request.body ≡ n = ap length body ∙ grind (arith, common_steps) in (
      omega (arith, found.some_bytes),
      omega (arith, length-drop spans.len bytes, found.len),
      (
        h,
        drop spans.len bytes,
        at.head,
        record {
          length_is = states ∙ ap (λ (k : ℕ). Ok k) (sym count);
          body = sym (take-append-drop n (drop spans.len bytes)) ∙ ap (λ (xs : List ℕ). xs ++ drop n (drop spans.len bytes)) (sym body)
              ∙ ap (λ (xs : List ℕ). request.body ++ xs) (drop-drop n spans.len bytes);
          asks = same ∙ ap (λ (s : RequestParts). asked s (take n (drop spans.len bytes))) (sym at.parts) ∙ ap (asked (request_parts h)) (sym body);
        },
      ),
    )

-- ---- what the parser answers of the first bytes

-- the first m bytes, and the others
pub front_whole : (m : ℕ) (bytes more : List ℕ) → bytes ++ more ≡ take m bytes ++ (drop m bytes ++ more)
front_whole m bytes more = ap (λ (xs : List ℕ). xs ++ more) (sym (take-append-drop m bytes)) ∙ append_assoc (take m bytes) (drop m bytes) more

pub never_from_front : (m : ℕ) (bytes : List ℕ) → NeverHasRequest (take m bytes) → NeverHasRequest bytes
never_from_front m bytes never more h rest x = never (drop m bytes ++ more) h rest (x.0, sym (front_whole m bytes more) ∙ x.1)

pub overflows_from_front : (m room : ℕ) (bytes : List ℕ) → RequestOverflows room (take m bytes) → RequestOverflows room bytes
overflows_from_front m room bytes over more h rest x = over (drop m bytes ++ more) h rest (x.0, sym (front_whole m bytes more) ∙ x.1)

-- a head has bytes
head_some : (h : RequestHead) → 0 < length h.method → 0 < length (print_request h)
unfolding print_request
head_some h some = simp length-append (omega arith)

pub head_found : (m : ℕ) (bytes : List ℕ) (headers : List HeaderSpan) (spans : RequestSpans)
    → m ≤ max_head → length headers ≡ max_fields
    → IsRequestWithin (take m bytes) headers spans → IsRequestOf (take m bytes) headers spans
    → FindsHead bytes (take m bytes) spans (take spans.headers headers)
head_found m bytes headers spans small room within (h, at) =
    let whole : bytes ≡ print_request h ++ (drop spans.len (take m bytes) ++ drop m bytes) =
    sym (take-append-drop m bytes) ∙ ap (λ (xs : List ℕ). xs ++ drop m bytes) at.reads.1 ∙ append_assoc (print_request h) (drop spans.len (take m bytes)) (drop m bytes) in
    let rest : drop spans.len bytes ≡ drop spans.len (take m bytes) ++ drop m bytes =
    ap (drop spans.len) whole ∙ ap (λ (k : ℕ). drop k (print_request h ++ (drop spans.len (take m bytes) ++ drop m bytes))) at.len ∙ drop-append_seam (print_request h) (drop spans.len (take m bytes) ++ drop m bytes) in
    let fits : spans.len ≤ length (take m bytes) = within.section.len_fits in
    let count : length h.fields ≤ max_fields =
    omega (arith, ap length at.fields, length-map (take spans.headers headers) (header_bytes (take m bytes)), length-map h.fields name_and_value, length-take spans.headers headers) in
    record {
      some_bytes = omega (arith, at.len, head_some h at.reads.0.method.0);
      len = omega (arith, length-take m bytes);
      short = omega (arith, length-take m bytes);
      method = (within.method.0, omega (arith, within.method.1));
      path = (within.path.0, omega (arith, within.path.1));
      within = All-weaker (IsHeaderWithin spans.len) (IsHeaderWithin (length (take m bytes)))
          (λ x w. ((w.0.0, omega (arith, w.0.1)), (w.1.0, omega (arith, w.1.1)))) _ within.section.headers_fit;
      some = (
        h,
        record {
          head = record { reads = (at.reads.0, whole ∙ ap (λ (xs : List ℕ). print_request h ++ xs) (sym rest)); short = omega (arith, at.len, length-take m bytes); few = count };
          parts = cc (at.method, at.path, at.version, at.fields);
        },
      );
    }

pub too_long : (m : ℕ) (bytes : List ℕ) → m ≡ min (length bytes) max_head → max_head ≤ length bytes → HasNoRequest (take m bytes) → IsHeadTooLong bytes
too_long m bytes is long none =
    let same : m ≡ max_head = omega arith in inl (long, subst (λ (k : ℕ). HasNoRequest (take k bytes)) same none)

pub none_yet : (m : ℕ) (bytes : List ℕ) → m ≡ min (length bytes) max_head → length bytes < max_head → HasNoRequest (take m bytes)
    → BeginsWithNone bytes × (length bytes < max_head + max_body)
none_yet m bytes is less none =
    let same : take m bytes ≡ bytes = grind (arith, common_steps) in
    let nothing : HasNoRequest bytes = subst HasNoRequest same none in
    ((λ request rest (h, after, head, body). nothing h after head.reads), omega arith)

-- a slice from n on
pub rest_of : (n : ℕ) (bytes : List ℕ) → take (length bytes - n) (drop n bytes) ≡ drop n bytes
rest_of n bytes = grind (arith, common_steps)

-- what the parser refused is no head
pub refused : (m : ℕ) (bytes : List ℕ) (e : Error) → (e ≢ TooManyHeaders → NeverHasRequest (take m bytes)) → RequestOverflows max_fields (take m bytes)
    → Explains (refusal_of e) bytes
refused m bytes TooManyHeaders never over = inr (overflows_from_front m max_fields bytes over)
refused m bytes HeaderName never over = never_from_front m bytes (never (λ (same : HeaderName ≡ TooManyHeaders). cc))
refused m bytes HeaderValue never over = never_from_front m bytes (never (λ (same : HeaderValue ≡ TooManyHeaders). cc))
refused m bytes NewLine never over = never_from_front m bytes (never (λ (same : NewLine ≡ TooManyHeaders). cc))
refused m bytes Status never over = never_from_front m bytes (never (λ (same : Status ≡ TooManyHeaders). cc))
refused m bytes Token never over = never_from_front m bytes (never (λ (same : Token ≡ TooManyHeaders). cc))
refused m bytes Version never over = never_from_front m bytes (never (λ (same : Version ≡ TooManyHeaders). cc))
