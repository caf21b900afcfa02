-- The text of one reply, and bytes that are none.
use Rattle.std.proofs.Common.{◌≡◌, ◌<◌, ◌≤◌, inl, inr, ℕ, ◌+◌, ◌-◌, min, List, [], ◌∷◌, ◌++◌, length, take, drop, map}
use Rattle.std.proofs.Common.{Bool, true, false, Ok, Err, if◌then◌else◌, nat_lt, refl, sym, ap, ◌∙◌, subst, arith}
use Rattle.std.proofs.Common.{append_assoc, length-append}
use Rattle.std.specs.Prelude.{◌≢◌}
use Rattle.std.proofs.lemmas.Grind.{common_steps}
use Rattle.std.proofs.lemmas.List.{take-append-drop, take-append-le, take_all, length-drop, length-take, length-map}
use Rattle.std.proofs.lemmas.List.Elements.{All-weaker}
use Rattle.std.proofs.Math.Seq.{drop-append_seam, take-append-add}
use Rattle.httparse.specs.Grammar.{ResponseHead, HasNoResponse, MayBecomeResponse, NeverHasResponse, print_response}
use Rattle.httparse.specs.Spans.{IsHeaderWithin, IsResponseOf, IsResponseWithin, ResponseOverflows, header_bytes}
use Rattle.httparse.specs.Spans.{name_and_value}
use Rattle.httparse.specs.declared.Error.{Error}
use Rattle.httparse.specs.declared.Error.TheVariants.{HeaderName, HeaderValue, NewLine, Status, Token, TooManyHeaders}
use Rattle.httparse.specs.declared.Error.TheVariants.{Version}
use Rattle.httparse.specs.declared.spans.HeaderSpan.{HeaderSpan}
use Rattle.httparse.specs.declared.spans.ResponseSpans.{ResponseSpans}
use Rattle.httparse.proofs.GrammarLemmas.{response_prefix_free, response_unique}
use Rattle.http_wire.specs.declared.fault.WireFault.{WireFault}
use Rattle.http_wire.specs.declared.fault.WireFault.TheVariants as fault
use Rattle.http_wire.specs.declared.reply_reading.WireReply.{WireReply}
use Rattle.http_wire.specs.Heads.{length_of, max_fields}
use Rattle.http_wire.specs.Reading.{end_fault, refusal_of}
use Rattle.http_wire.specs.Answers.{BeginsReply, FindsAnswer, HasAnswerHead, IsNoReply, IsReplyText, NeverReply}
use Rattle.http_wire.specs.Answers.{Refuses, StatesFault, HeadParts, answered, max_reply_body, max_reply_head}
use Rattle.http_wire.specs.Answers.{missing_length, part_fault, parts_in, parts_of_head, body_length}
use Rattle.http_wire.proofs.FrontLemmas.{IsLengthFault, front_whole, length_fault, length_in_limit}

-- ---- the head

only_head : {bytes : List ℕ} (h k : ResponseHead) {body rest : List ℕ} → HasAnswerHead bytes h body → HasAnswerHead bytes k rest → (h ≡ k) × (body ≡ rest)
only_head h k x y = response_unique _ h k _ _ x.reads y.reads

-- so they are the text of one reply
pub one_answer : (bytes : List ℕ) (x y : WireReply) → IsReplyText bytes x → IsReplyText bytes y → x ≡ y
one_answer bytes x y (h, a) (k, b) =
    let (heads, bodies) = only_head h k a.head b.head in
    a.says ∙ ap (λ (h : ResponseHead). answered (parts_of_head h) x.body) heads ∙ ap (answered (parts_of_head k)) bodies ∙ sym b.says

pub answer_found : (m : ℕ) (bytes : List ℕ) (headers : List HeaderSpan) (spans : ResponseSpans)
    → m ≤ max_reply_head → length headers ≡ max_fields
    → IsResponseWithin (take m bytes) headers spans → IsResponseOf (take m bytes) headers spans
    → FindsAnswer bytes (take m bytes) spans (take spans.headers headers)
answer_found m bytes headers spans small room within (h, at) =
    let whole : bytes ≡ print_response h ++ (drop spans.len (take m bytes) ++ drop m bytes) =
    sym (take-append-drop m bytes) ∙ ap (λ (xs : List ℕ). xs ++ drop m bytes) at.reads.1 ∙ append_assoc (print_response h) (drop spans.len (take m bytes)) (drop m bytes) in
    let rest : drop spans.len bytes ≡ drop spans.len (take m bytes) ++ drop m bytes =
    ap (drop spans.len) whole ∙ ap (λ (k : ℕ). drop k (print_response h ++ (drop spans.len (take m bytes) ++ drop m bytes))) at.len ∙ drop-append_seam (print_response h) (drop spans.len (take m bytes) ++ drop m bytes) in
    let fits : spans.len ≤ length (take m bytes) = within.section.len_fits in
    let count : length h.fields ≤ max_fields =
    omega (arith, ap length at.fields, length-map (take spans.headers headers) (header_bytes (take m bytes)), length-map h.fields name_and_value, length-take spans.headers headers) in
    record {
      len = omega (arith, length-take m bytes);
      within = All-weaker (IsHeaderWithin spans.len) (IsHeaderWithin (length (take m bytes)))
          (λ x w. ((w.0.0, omega (arith, w.0.1)), (w.1.0, omega (arith, w.1.1)))) _ within.section.headers_fit;
      some = (
        h,
        record { reads = (at.reads.0, whole ∙ ap (λ (xs : List ℕ). print_response h ++ xs) (sym rest)); short = omega (arith, at.len, length-take m bytes); few = count },
        cc (at.code, at.fields),
      );
    }

-- ---- the body

-- the head states another length
pub other_length : {bytes front : List ℕ} {spans : ResponseSpans} {fields : List HeaderSpan} (n : ℕ) → FindsAnswer bytes front spans fields
    → length_of max_reply_body (missing_length spans.code) (map (header_bytes front) fields) ≡ Ok n → length (drop spans.len bytes) ≢ n → IsNoReply bytes
other_length {bytes} {front} {spans} {fields} n found is differs reply (k, answer) =
    let (h, head, same) = found.some in
    let (heads, rest) = only_head h k head answer.head in
    let lengths : body_length (parts_of_head h) ≡ Ok (length reply.body) = ap (λ (h : ResponseHead). body_length (parts_of_head h)) heads ∙ answer.length_is in
    let states : body_length (parts_of_head h) ≡ Ok n = ap body_length same ∙ is in
    let count : n ≡ length reply.body = cc in differs (ap length rest ∙ sym count)

-- fewer bytes than the head states
pub fewer_bytes : {bytes front : List ℕ} {spans : ResponseSpans} {fields : List HeaderSpan} (n : ℕ) → FindsAnswer bytes front spans fields
    → length_of max_reply_body (missing_length spans.code) (map (header_bytes front) fields) ≡ Ok n → length (drop spans.len bytes) < n → Refuses fault.Cut bytes
fewer_bytes {bytes} {front} {spans} {fields} n found is less =
    let (h, head, same) = found.some in (
      other_length n found is (λ (same : length (drop spans.len bytes) ≡ n). absurd (omega arith)),
      inr (h, drop spans.len bytes, n, head, ap body_length same ∙ is, less),
    )

-- more bytes than the head states
pub more_bytes : {bytes front : List ℕ} {spans : ResponseSpans} {fields : List HeaderSpan} (n : ℕ) → FindsAnswer bytes front spans fields
    → length_of max_reply_body (missing_length spans.code) (map (header_bytes front) fields) ≡ Ok n → n < length (drop spans.len bytes) → Refuses fault.Length bytes
more_bytes {bytes} {front} {spans} {fields} n found is more =
    let (h, head, same) = found.some in (
      other_length n found is (λ (same : length (drop spans.len bytes) ≡ n). absurd (omega arith)),
      inr (h, drop spans.len bytes, n, head, ap body_length same ∙ is, more),
    )

refuses_length : (e : WireFault) (bytes : List ℕ) → IsLengthFault e → IsNoReply bytes → StatesFault e bytes → Refuses e bytes
refuses_length fault.End bytes is none states = absurd is
refuses_length fault.Cut bytes is none states = absurd is
refuses_length fault.Head bytes is none states = absurd is
refuses_length fault.HeadTooLong bytes is none states = absurd is
refuses_length fault.Length bytes is none states = (none, inl states)
refuses_length fault.BodyTooLong bytes is none states = (none, states)
refuses_length fault.Chunked bytes is none states = (none, states)
refuses_length fault.Source bytes is none states = absurd is
refuses_length fault.NoMemory bytes is none states = tt

-- the head states a length with a fault
pub faulty : {bytes front : List ℕ} {spans : ResponseSpans} {fields : List HeaderSpan} (e : WireFault) → FindsAnswer bytes front spans fields
    → length_of max_reply_body (missing_length spans.code) (map (header_bytes front) fields) ≡ Err e → Refuses e bytes
faulty {bytes} {front} {spans} {fields} e found is =
    let (h, head, same) = found.some in
    let states : body_length (parts_of_head h) ≡ Err e = ap body_length same ∙ is in
    let none : IsNoReply bytes = λ reply (k, answer).
    let (heads, rest) = only_head h k head answer.head in
    let lengths : body_length (parts_of_head h) ≡ Ok (length reply.body) = ap (λ (h : ResponseHead). body_length (parts_of_head h)) heads ∙ answer.length_is in cc in
    refuses_length e bytes (length_fault max_reply_body (missing_length spans.code) _ e is) none (h, drop spans.len bytes, head, states)

body_of_answered : (told : HeadParts) (body : List ℕ) → (answered told body).body ≡ body
unfolding answered
body_of_answered told body = refl

pub whole_answer : {bytes front : List ℕ} {spans : ResponseSpans} {fields : List HeaderSpan} (n : ℕ) (reply : WireReply) → FindsAnswer bytes front spans fields
    → length_of max_reply_body (missing_length spans.code) (map (header_bytes front) fields) ≡ Ok n → length (drop spans.len bytes) ≡ n
    → reply ≡ answered (parts_in front spans.code fields) (drop spans.len bytes) → IsReplyText bytes reply
whole_answer {bytes} {front} {spans} {fields} n reply found is count says =
    let (h, head, same) = found.some in
    let body : reply.body ≡ drop spans.len bytes = ap (λ (r : WireReply). r.body) says ∙ body_of_answered _ _ in (
      h,
      record {
        head = subst (λ (xs : List ℕ). HasAnswerHead bytes h xs) (sym body) head;
        length_is = ap body_length same ∙ is ∙ ap (λ (k : ℕ). Ok k) (sym (ap length body ∙ count));
        says = says ∙ ap (λ (t : HeadParts). answered t (drop spans.len bytes)) (sym same) ∙ ap (answered (parts_of_head h)) (sym body);
      },
    )

-- ---- what the parser answers of the first bytes

-- a head in its limits stands in the first bytes too
pub none_in_front : (m : ℕ) (bytes : List ℕ) → m ≡ min (length bytes) max_reply_head → HasNoResponse (take m bytes) → IsNoReply bytes
none_in_front m bytes is none reply (h, answer) =
    let count : length bytes ≡ length (print_response h) + length reply.body = ap length answer.head.reads.1 ∙ length-append (print_response h) reply.body in
    let split : m ≡ length (print_response h) + (m - length (print_response h)) = omega (arith, answer.head.short) in
    none h (take (m - length (print_response h)) reply.body)
    (answer.head.reads.0, ap (take m) answer.head.reads.1 ∙ ap (λ (k : ℕ). take k (print_response h ++ reply.body)) split ∙ take-append-add (print_response h) reply.body (m - length (print_response h)))

never_in_front : (m : ℕ) (bytes : List ℕ) → NeverHasResponse (take m bytes) → IsNoReply bytes × NeverHasResponse bytes
never_in_front m bytes never = (
  (λ reply (h, answer). never (drop m bytes) h reply.body (answer.head.reads.0, take-append-drop m bytes ∙ answer.head.reads.1)),
  (λ more h rest x. never (drop m bytes ++ more) h rest (x.0, sym (front_whole m bytes more) ∙ x.1)),
)

-- the first bytes are all, or as many as a head may have
pub part_refused : (m : ℕ) (bytes : List ℕ) → m ≡ min (length bytes) max_reply_head → HasNoResponse (take m bytes) → MayBecomeResponse (take m bytes)
    → Refuses (part_fault bytes) bytes
part_refused m bytes is none may = by (nat_lt (length bytes) max_reply_head) bytes refl is none may (none_in_front m bytes is none)
  where
    by : (short : Bool) (bytes : List ℕ) → nat_lt (length bytes) max_reply_head ≡ short → m ≡ min (length bytes) max_reply_head
        → HasNoResponse (take m bytes) → MayBecomeResponse (take m bytes) → IsNoReply bytes
        → Refuses (if short then end_fault bytes else fault.HeadTooLong) bytes
    by true [] test is none may no_reply = (no_reply, refl)
    by true (b ∷ bytes) test is none may no_reply =
        let less : length (b ∷ bytes) < max_reply_head = grind (arith, common_steps) in
        let all : take m (b ∷ bytes) ≡ b ∷ bytes = take_all m (b ∷ bytes) (omega arith) in
        (no_reply, inl (record { some = omega arith; short = less; none = subst HasNoResponse all none; begun = subst MayBecomeResponse all may }))
    by false bytes test is none may no_reply =
        let long : max_reply_head ≤ length bytes = grind (arith, common_steps) in
        let same : m ≡ max_reply_head = omega arith in
        (no_reply, inl (long, subst (λ (k : ℕ). HasNoResponse (take k bytes)) same none))

overflows_from_front : (m : ℕ) (bytes : List ℕ) → ResponseOverflows max_fields (take m bytes) → ResponseOverflows max_fields bytes
overflows_from_front m bytes over more h rest x = over (drop m bytes ++ more) h rest (x.0, sym (front_whole m bytes more) ∙ x.1)

-- what the parser refused is no reply
pub head_refused : (m : ℕ) (bytes : List ℕ) (e : Error) → (e ≢ TooManyHeaders → NeverHasResponse (take m bytes)) → ResponseOverflows max_fields (take m bytes)
    → Refuses (refusal_of e) bytes
head_refused m bytes TooManyHeaders never over = (
  (λ reply (h, answer).
      let many = over (drop m bytes) h reply.body (answer.head.reads.0, take-append-drop m bytes ∙ answer.head.reads.1) in absurd (omega (arith, answer.head.few))),
  inr (overflows_from_front m bytes over),
)
head_refused m bytes HeaderName never over = never_in_front m bytes (never (λ (same : HeaderName ≡ TooManyHeaders). cc))
head_refused m bytes HeaderValue never over = never_in_front m bytes (never (λ (same : HeaderValue ≡ TooManyHeaders). cc))
head_refused m bytes NewLine never over = never_in_front m bytes (never (λ (same : NewLine ≡ TooManyHeaders). cc))
head_refused m bytes Status never over = never_in_front m bytes (never (λ (same : Status ≡ TooManyHeaders). cc))
head_refused m bytes Token never over = never_in_front m bytes (never (λ (same : Token ≡ TooManyHeaders). cc))
head_refused m bytes Version never over = never_in_front m bytes (never (λ (same : Version ≡ TooManyHeaders). cc))

-- ---- the length of the reply that begins with some bytes

-- the head states it
pub length_stated : {bytes front : List ℕ} {spans : ResponseSpans} {fields : List HeaderSpan} (n : ℕ) → FindsAnswer bytes front spans fields
    → body_length (parts_in front spans.code fields) ≡ Ok n → BeginsReply bytes (spans.len + n)
length_stated {bytes} {front} {spans} {fields} n found is =
    let (h, head, same) = found.some in
    let whole : length bytes ≡ length (print_response h) + length (drop spans.len bytes) = ap length head.reads.1 ∙ length-append (print_response h) (drop spans.len bytes) in
    let len : spans.len + n ≡ length (print_response h) + n = omega (arith, whole, length-drop spans.len bytes, found.len) in
    (h, drop spans.len bytes, n, head, ap body_length same ∙ is, len)

-- the head states none that a reply may have
pub never_stated : {bytes front : List ℕ} {spans : ResponseSpans} {fields : List HeaderSpan} (e : WireFault) → FindsAnswer bytes front spans fields
    → body_length (parts_in front spans.code fields) ≡ Err e → NeverReply bytes
never_stated {bytes} {front} {spans} {fields} e found is more reply (k, answer) =
    let (h, head, same) = found.some in
    let heads : h ≡ k = (response_prefix_free bytes more h k _ _ head.reads answer.head.reads).0 in
    let states : body_length (parts_of_head h) ≡ Err e = ap body_length same ∙ is in
    let lengths : body_length (parts_of_head h) ≡ Ok (length reply.body) = ap (λ (h : ResponseHead). body_length (parts_of_head h)) heads ∙ answer.length_is in cc

-- a head needs more bytes than it may have
pub never_short : (m : ℕ) (bytes : List ℕ) → m ≡ max_reply_head → max_reply_head ≤ length bytes → HasNoResponse (take m bytes) → NeverReply bytes
never_short m bytes is long none more =
    let small : m ≡ min (length (bytes ++ more)) max_reply_head = omega (arith, length-append bytes more) in
    let front : take m (bytes ++ more) ≡ take m bytes = take-append-le m bytes more (omega arith) in
    none_in_front m (bytes ++ more) small (subst HasNoResponse (sym front) none)

pub short_refused : (m : ℕ) (bytes : List ℕ) → m ≡ max_reply_head → max_reply_head ≤ length bytes → HasNoResponse (take m bytes) → Refuses fault.HeadTooLong bytes
short_refused m bytes is long none = (none_in_front m bytes (omega arith) none, inl (long, subst (λ (k : ℕ). HasNoResponse (take k bytes)) is none))

-- more fields stand there than a head may have
pub never_room : (m : ℕ) (bytes : List ℕ) → ResponseOverflows max_fields (take m bytes) → NeverReply bytes
never_room m bytes over more reply (h, answer) =
    let many = overflows_from_front m bytes over more h reply.body answer.head.reads in absurd (omega (arith, answer.head.few))

-- a reply in its limits isn't longer than both
pub reply_fits : (bytes : List ℕ) (n : ℕ) → BeginsReply bytes n → n ≤ max_reply_head + max_reply_body
reply_fits bytes n (h, body, m, head, states, is) = omega (arith, is, head.short, length_in_limit max_reply_body (missing_length (parts_of_head h).status) (parts_of_head h).fields m states)
