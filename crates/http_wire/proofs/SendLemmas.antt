-- What is sent is read as the same request.
use Rattle.std.proofs.Common.{◌≡◌, ◌<◌, ◌≤◌, ℕ, ◌+◌, ◌^◌, List, [], ◌∷◌, ◌++◌, length, Bool, true, false, Option, Some}
use Rattle.std.proofs.Common.{None, refl, sym, ap, ◌∙◌, subst, arith, append_assoc, length-append, codes, reverse, take}
use Rattle.std.proofs.Common.{drop, map, if◌then◌else◌, Ok}
use Rattle.std.proofs.lemmas.Bool.{and_parts, eq-eqb, le-ltb}
use Rattle.std.specs.Prelude.{All, IsTrue, decimal, option_map}
use Rattle.std.specs.List.{flat_map, list_all, position_or_len}
use Rattle.std.proofs.Math.Seq.{drop-append-add, take-append_seam}
use Rattle.roster_texts.specs.Texts.{is_token}
use Rattle.std.specs.Str.Parse.{AllDigits}
use Rattle.std.proofs.lemmas.List.{append-nil, length-reverse, reverse-append}
use Rattle.std.proofs.lemmas.List.Elements.{All-append, All-cons, All-nil}
use Rattle.std.proofs.lemmas.List.Sums.{AllPass-from_list_all}
use Rattle.std.proofs.lemmas.Bool.Decides.{nat_tests}
use Rattle.std.proofs.lemmas.Str.Parse.{digit_from_value}
use Rattle.std.proofs.lemmas.Fmt.{decimal_is_IsNumeral, length-decimal-le}
use Rattle.httparse.proofs.TrimLemmas.{trim_ows_space}
use Rattle.roster_texts.proofs.TokenLemmas.{AllPlain, IsPlain, plain_is_text, token_plain}
use Rattle.http_wire.proofs.NumberLemmas.{digits_of_decimal, echo_again, not_zero, number_again, token_again}
use Rattle.httparse.specs.Spans.{name_and_value}
use Rattle.http_wire.specs.Heads.{asked, body_length, is_close, is_number, length_of, lengths_are, max_body, max_fields}
use Rattle.http_wire.specs.Heads.{max_head, request_parts, value_of}
use Rattle.http_wire.specs.Texts.{digits_of, echo_at, echo_of, is_question_mark, last_number, mark_of, mark_or_bad}
use Rattle.http_wire.specs.Texts.{number_of, path_of, query_of, token_at, token_of, verb_of}
use Rattle.http_wire.specs.Reading.{BeginsWith}
use Rattle.httparse.specs.Grammar.{AllPass, Field, RequestHead, crlf, IsField, IsToken, is_ows, is_token_byte}
use Rattle.httparse.specs.Grammar.{print_field, is_uri_byte, is_value_byte, print_request, skip_ows, trim_ows}
use Rattle.status_info.specs.declared.request.Request.{Request}
use Rattle.status_info.specs.declared.request.Echo.{Echo}
use Rattle.status_info.specs.declared.request.Verb.{Verb}
use Rattle.status_info.specs.declared.request.Verb.TheVariants as verb
use Rattle.status_info.specs.declared.request.MarkField.{MarkField}
use Rattle.status_info.specs.declared.request.MarkField.TheVariants as mark
use Rattle.http_wire.specs.Replies.{echo_text, number_line}
use Rattle.http_wire.specs.Sending.{CanSend, IsSentEcho, IsSentMark, is_sent_byte, IsSentVerb, mark_number, path_text}
use Rattle.http_wire.specs.Sending.{put_length, query_mark, query_text, request_text, token_text, verb_text, verb_word}

-- a field as it is sent
abbrev pub line : List ℕ → List ℕ → Field
line name value = record { name = name; raw = 32 ∷ value; end = crlf }

abbrev mark_lines : MarkField → List Field
mark_lines mark.Nothing = []
mark_lines (mark.Number n) = line (codes "X-Hub-Mark") (decimal n) ∷ []
mark_lines mark.Bad = []

abbrev length_lines : Verb → List ℕ → List Field
length_lines verb.Get body = []
length_lines verb.Put body = line (codes "Content-Length") (decimal (length body)) ∷ []
length_lines verb.Delete body = []
length_lines verb.Head body = []
length_lines verb.Other body = []

-- the request with these parts, and the head that it is sent with
abbrev sent : Verb → List ℕ → List ℕ → List ℕ → MarkField → ℕ → ℕ → List ℕ → Request
sent v path query t m run count body = record {
  verb = v;
  path = path;
  query = query;
  token = Some t;
  mark = m;
  echo = Some (record { run = run; count = count });
  close = false;
  body = body;
}

abbrev token_field : List ℕ → Field
token_field t = line (codes "Authorization") (codes "Bearer " ++ t)

abbrev pub echo_field : ℕ → ℕ → Field
echo_field run count = line (codes "X-Hub-Exchange") (decimal run ++ 46 ∷ decimal count)

abbrev sent_fields : Verb → List ℕ → MarkField → ℕ → ℕ → List ℕ → List Field
sent_fields v t m run count body =
    line (codes "Host") (codes "hub") ∷ token_field t ∷ (mark_lines m ++ (echo_field run count ∷ length_lines v body))

abbrev head : Verb → List ℕ → List ℕ → List ℕ → MarkField → ℕ → ℕ → List ℕ → RequestHead
head v path query t m run count body = record {
  blank = [];
  method = verb_word v;
  target = path ++ (query_mark query ++ query);
  minor = 1;
  line_end = crlf;
  fields = sent_fields v t m run count body;
  last = crlf;
}

shape : (V S P K Q X C H A M E L B more : List ℕ)
    → ((V ++ (S ++ [])) ++ ((P ++ (K ++ [])) ++ ((Q ++ ((S ++ (X ++ (C ++ H))) ++ [])) ++ (A ++ (M ++ (E ++ (L ++ (C ++ B)))))))) ++ more
    ≡ (((((V ++ (S ++ (P ++ (K ++ Q)))) ++ (S ++ X)) ++ C) ++ ((H ++ (A ++ (M ++ (E ++ L)))) ++ C))) ++ (B ++ more)
shape V S P K Q X C H A M E L B more = simp (append_assoc, append-nil) refl

mark_text : (m : MarkField) (rest : List Field)
    → flat_map print_field (mark_lines m ++ rest) ≡ number_line (codes "X-Hub-Mark: ") (mark_number m) ++ flat_map print_field rest
unfolding number_line
mark_text mark.Nothing rest = refl
mark_text (mark.Number n) rest = refl
mark_text mark.Bad rest = refl

length_text : (v : Verb) (body : List ℕ) → flat_map print_field (length_lines v body) ≡ number_line (codes "Content-Length: ") (put_length v body)
unfolding number_line
length_text verb.Get body = refl
length_text verb.Put body = append-nil _
length_text verb.Delete body = refl
length_text verb.Head body = refl
length_text verb.Other body = refl

pub echo_is : (run count : ℕ) → print_field (echo_field run count) ≡ echo_text run count
unfolding echo_text
echo_is run count = ap (λ (xs : List ℕ). codes "X-Hub-Exchange: " ++ xs) (append_assoc (decimal run) (46 ∷ decimal count) (13 ∷ 10 ∷ []))

token_is : (t : List ℕ) → print_field (token_field t) ≡ token_text t
unfolding token_text
token_is t = refl

fields_text : (v : Verb) (t : List ℕ) (m : MarkField) (run count : ℕ) (body : List ℕ)
    → flat_map print_field (sent_fields v t m run count body)
    ≡ codes "Host: hub\r\n" ++ (token_text t ++ (number_line (codes "X-Hub-Mark: ") (mark_number m) ++ (echo_text run count ++ number_line (codes "Content-Length: ") (put_length v body))))
fields_text v t m run count body =
    ap (λ (xs : List ℕ). codes "Host: hub\r\n" ++ (print_field (token_field t) ++ xs)) (mark_text m (echo_field run count ∷ length_lines v body))
    ∙ ap (λ (xs : List ℕ). codes "Host: hub\r\n" ++ (xs ++ (number_line (codes "X-Hub-Mark: ") (mark_number m) ++ (print_field (echo_field run count) ++ flat_map print_field (length_lines v body))))) (token_is t)
    ∙ ap (λ (xs : List ℕ). codes "Host: hub\r\n" ++ (token_text t ++ (number_line (codes "X-Hub-Mark: ") (mark_number m) ++ (xs ++ flat_map print_field (length_lines v body))))) (echo_is run count)
    ∙ ap (λ (xs : List ℕ). codes "Host: hub\r\n" ++ (token_text t ++ (number_line (codes "X-Hub-Mark: ") (mark_number m) ++ (echo_text run count ++ xs)))) (length_text v body)

printed : (v : Verb) (path query t : List ℕ) (m : MarkField) (run count : ℕ) (body more : List ℕ)
    → request_text (sent v path query t m run count body) ++ more ≡ print_request (head v path query t m run count body) ++ (body ++ more)
unfolding print_request verb_text path_text query_text
printed v path query t m run count body more =
    shape (verb_word v) (32 ∷ []) path (query_mark query) query (codes "HTTP/1.1") (13 ∷ 10 ∷ []) (codes "Host: hub\r\n") (token_text t)
    (number_line (codes "X-Hub-Mark: ") (mark_number m)) (echo_text run count) (number_line (codes "Content-Length: ") (put_length v body)) body more
    ∙ ap (λ (xs : List ℕ). ((((verb_word v ++ ((32 ∷ []) ++ (path ++ (query_mark query ++ query)))) ++ ((32 ∷ []) ++ codes "HTTP/1.1")) ++ (13 ∷ 10 ∷ [])) ++ (xs ++ 13 ∷ 10 ∷ [])) ++ (body ++ more))
    (sym (fields_text v t m run count body))

-- ---- plain values

plain_append : (a b : List ℕ) → AllPlain a → AllPlain b → AllPlain (a ++ b)
plain_append [] b x y = y
plain_append (c ∷ a) b x y = (x.0, plain_append a b x.1 y)

plain_reverse : (v : List ℕ) → AllPlain v → AllPlain (reverse v)
plain_reverse [] x = tt
plain_reverse (b ∷ v) x = subst AllPlain (sym (reverse-append (b ∷ []) v)) (plain_append (reverse v) (b ∷ []) (plain_reverse v x.1) (x.0, tt))

no_ows : (b : ℕ) → IsPlain b → is_ows b ≡ false
no_ows b x = let low = x.0 in grind (arith, nat_tests)

plain_skip : (v more : List ℕ) → AllPlain v → 0 < length v → skip_ows (v ++ more) ≡ v ++ more
plain_skip [] more x some = absurd (omega arith)
plain_skip (b ∷ v) more x some = rw (no_ows b x.0) refl

-- a value whose first and last bytes are plain comes back from behind a space
trimmed : (first : ℕ) (front v : List ℕ) → IsPlain first → AllPlain v → 0 < length v → trim_ows (32 ∷ (first ∷ front ++ v)) ≡ first ∷ front ++ v
trimmed first front v one plain some =
    let behind : reverse (first ∷ front ++ v) ≡ reverse v ++ reverse (first ∷ front) = reverse-append (first ∷ front) v in
    let long : 0 < length (reverse v) = omega (arith, length-reverse v) in
    trim_ows_space (first ∷ front ++ v) (rw (no_ows first one) refl)
    (subst (λ (xs : List ℕ). skip_ows xs ≡ xs) (sym behind) (plain_skip (reverse v) (reverse (first ∷ front)) (plain_reverse v plain) long))

pub value_byte : (b : ℕ) → IsPlain b → is_value_byte b ≡ true
value_byte b x = let (low, high) = x in grind (arith, nat_tests)

uri_byte : (b : ℕ) → IsPlain b → is_uri_byte b ≡ true
uri_byte b x = let (low, high) = x in grind (arith, nat_tests)

pub plain_value : (v : List ℕ) → AllPlain v → AllPass is_value_byte v
plain_value [] x = All-nil (λ b. IsTrue (is_value_byte b))
plain_value (b ∷ v) x = All-cons (λ b. IsTrue (is_value_byte b)) b v (value_byte b x.0) (plain_value v x.1)

plain_uri : (v : List ℕ) → AllPlain v → AllPass is_uri_byte v
plain_uri [] x = All-nil (λ b. IsTrue (is_uri_byte b))
plain_uri (b ∷ v) x = All-cons (λ b. IsTrue (is_uri_byte b)) b v (uri_byte b x.0) (plain_uri v x.1)

digits_plain : (ds : List ℕ) → AllDigits 10 ds → AllPlain ds
digits_plain [] x = tt
digits_plain (c ∷ ds) x = let (low, high) = digit_from_value c x.0 in ((omega arith, omega arith), digits_plain ds x.1)

-- ---- the head is one

pub is_field : (name value : List ℕ) → IsToken name → AllPass is_value_byte value → IsField (line name value)
is_field name value token passes = record { name = token; raw = All-cons (λ b. IsTrue (is_value_byte b)) 32 value refl passes }

pub name_is : (name : List ℕ) → 0 < length name → list_all is_token_byte name ≡ true → IsToken name
name_is name some h = (some, AllPass-from_list_all is_token_byte name h)

pub and_dot : (a b : List ℕ) → AllPlain a → AllPlain b → AllPlain (a ++ 46 ∷ b)
and_dot a b x y = plain_append a (46 ∷ b) x ((omega arith, omega arith), y)

pub decimal_plain : (n : ℕ) → n < 2 ^ 64 → (0 < length (decimal n)) × AllPlain (decimal n)
decimal_plain n bound = let (numeral, value) = decimal_is_IsNumeral n bound in (numeral.0, digits_plain (decimal n) numeral.1)

host_ok : IsField (line (codes "Host") (codes "hub"))
unfolding is_token_byte
host_ok = is_field (codes "Host") (codes "hub") (name_is (codes "Host") (omega arith) refl) (plain_value (codes "hub") ((omega arith, omega arith), ((omega arith, omega arith), ((omega arith, omega arith), tt))))

token_ok : (t : List ℕ) → AllPlain t → IsField (token_field t)
unfolding is_token_byte
token_ok t plain =
    is_field (codes "Authorization") (codes "Bearer " ++ t) (name_is (codes "Authorization") (omega arith) refl)
    (All-append (λ b. IsTrue (is_value_byte b)) (codes "Bearer ") t (AllPass-from_list_all is_value_byte (codes "Bearer ") refl) (plain_value t plain))

mark_ok : (m : MarkField) → IsSentMark m → All IsField (mark_lines m)
unfolding is_token_byte
mark_ok mark.Nothing can = All-nil IsField
mark_ok (mark.Number n) can =
    All-cons IsField (line (codes "X-Hub-Mark") (decimal n)) []
    (is_field (codes "X-Hub-Mark") (decimal n) (name_is (codes "X-Hub-Mark") (omega arith) refl) (plain_value (decimal n) (decimal_plain n (omega (arith, can.1))).1)) (All-nil IsField)
mark_ok mark.Bad can = absurd can

length_ok : (v : Verb) (body : List ℕ) → IsSentVerb v body → All IsField (length_lines v body)
unfolding is_token_byte
length_ok verb.Get body can = All-nil IsField
length_ok verb.Put body can =
    All-cons IsField (line (codes "Content-Length") (decimal (length body))) []
    (is_field (codes "Content-Length") (decimal (length body)) (name_is (codes "Content-Length") (omega arith) refl) (plain_value (decimal (length body)) (decimal_plain (length body) (omega (arith, can))).1)) (All-nil IsField)
length_ok verb.Delete body can = All-nil IsField
length_ok verb.Head body can = absurd can
length_ok verb.Other body can = absurd can

echo_ok : (run count : ℕ) → run < 2 ^ 64 → count < 2 ^ 64 → IsField (echo_field run count)
unfolding is_token_byte
echo_ok run count small few =
    is_field (codes "X-Hub-Exchange") (decimal run ++ 46 ∷ decimal count) (name_is (codes "X-Hub-Exchange") (omega arith) refl)
    (plain_value (decimal run ++ 46 ∷ decimal count) (and_dot (decimal run) (decimal count) (decimal_plain run small).1 (decimal_plain count few).1))

fields_ok : (v : Verb) (t : List ℕ) (m : MarkField) (run count : ℕ) (body : List ℕ) → AllPlain t → IsSentMark m → run < 2 ^ 64 → count < 2 ^ 64 → IsSentVerb v body
    → All IsField (sent_fields v t m run count body)
fields_ok v t m run count body plain marked small few stated =
    All-cons IsField (line (codes "Host") (codes "hub")) (token_field t ∷ (mark_lines m ++ echo_field run count ∷ length_lines v body)) host_ok
    (All-cons IsField (token_field t) (mark_lines m ++ echo_field run count ∷ length_lines v body) (token_ok t plain)
    (All-append IsField (mark_lines m) (echo_field run count ∷ length_lines v body) (mark_ok m marked)
    (All-cons IsField (echo_field run count) (length_lines v body) (echo_ok run count small few) (length_ok v body stated))))

-- ---- what the head says

abbrev sent_values : Verb → List ℕ → MarkField → ℕ → ℕ → List ℕ → List (List ℕ × List ℕ)
sent_values v t m run count body = map name_and_value (sent_fields v t m run count body)

record Looks (v : Verb) (t : List ℕ) (m : MarkField) (run count : ℕ) (body : List ℕ) : Type 0 where
  token : value_of (codes "authorization") (sent_values v t m run count body) ≡ Some (trim_ows (32 ∷ codes "Bearer " ++ t))
  mark : value_of (codes "x-hub-mark") (sent_values v t m run count body) ≡ option_map (λ n. trim_ows (32 ∷ decimal n)) (mark_number m)
  echo : value_of (codes "x-hub-exchange") (sent_values v t m run count body) ≡ Some (trim_ows (32 ∷ (decimal run ++ 46 ∷ decimal count)))
  stated : value_of (codes "content-length") (sent_values v t m run count body) ≡ option_map (λ n. trim_ows (32 ∷ decimal n)) (put_length v body)
  chunked : value_of (codes "transfer-encoding") (sent_values v t m run count body) ≡ None
  connection : value_of (codes "connection") (sent_values v t m run count body) ≡ None

looks : (v : Verb) (t : List ℕ) (m : MarkField) (run count : ℕ) (body : List ℕ) → Looks v t m run count body
looks verb.Get t mark.Nothing run count body = record { token = refl; mark = refl; echo = refl; stated = refl; chunked = refl; connection = refl }
looks verb.Get t (mark.Number n) run count body = record { token = refl; mark = refl; echo = refl; stated = refl; chunked = refl; connection = refl }
looks verb.Get t mark.Bad run count body = record { token = refl; mark = refl; echo = refl; stated = refl; chunked = refl; connection = refl }
looks verb.Put t mark.Nothing run count body = record { token = refl; mark = refl; echo = refl; stated = refl; chunked = refl; connection = refl }
looks verb.Put t (mark.Number n) run count body = record { token = refl; mark = refl; echo = refl; stated = refl; chunked = refl; connection = refl }
looks verb.Put t mark.Bad run count body = record { token = refl; mark = refl; echo = refl; stated = refl; chunked = refl; connection = refl }
looks verb.Delete t mark.Nothing run count body = record { token = refl; mark = refl; echo = refl; stated = refl; chunked = refl; connection = refl }
looks verb.Delete t (mark.Number n) run count body = record { token = refl; mark = refl; echo = refl; stated = refl; chunked = refl; connection = refl }
looks verb.Delete t mark.Bad run count body = record { token = refl; mark = refl; echo = refl; stated = refl; chunked = refl; connection = refl }
looks verb.Head t mark.Nothing run count body = record { token = refl; mark = refl; echo = refl; stated = refl; chunked = refl; connection = refl }
looks verb.Head t (mark.Number n) run count body = record { token = refl; mark = refl; echo = refl; stated = refl; chunked = refl; connection = refl }
looks verb.Head t mark.Bad run count body = record { token = refl; mark = refl; echo = refl; stated = refl; chunked = refl; connection = refl }
looks verb.Other t mark.Nothing run count body = record { token = refl; mark = refl; echo = refl; stated = refl; chunked = refl; connection = refl }
looks verb.Other t (mark.Number n) run count body = record { token = refl; mark = refl; echo = refl; stated = refl; chunked = refl; connection = refl }
looks verb.Other t mark.Bad run count body = record { token = refl; mark = refl; echo = refl; stated = refl; chunked = refl; connection = refl }

plain_keeps : (v : List ℕ) → AllPlain v → skip_ows v ≡ v
plain_keeps [] x = refl
plain_keeps (b ∷ v) x = rw (no_ows b x.0) refl

plain_trim : (v : List ℕ) → AllPlain v → trim_ows (32 ∷ v) ≡ v
plain_trim v x = trim_ows_space v (plain_keeps v x) (plain_keeps (reverse v) (plain_reverse v x))

pub decimal_trim : (n : ℕ) → n < 2 ^ 64 → trim_ows (32 ∷ decimal n) ≡ decimal n
decimal_trim n bound = plain_trim (decimal n) (decimal_plain n bound).1

token_told : (t : List ℕ) → is_token t ≡ true → token_at (Some (trim_ows (32 ∷ codes "Bearer " ++ t))) ≡ Some t
token_told t good =
    let plain = token_plain t good in
    ap token_of (trimmed 66 (codes "earer ") t (omega arith, omega arith) plain.2 plain.0) ∙ token_again t good

mark_told : (m : MarkField) → IsSentMark m → mark_of (option_map (λ n. trim_ows (32 ∷ decimal n)) (mark_number m)) ≡ m
mark_told mark.Nothing can = refl
mark_told (mark.Number n) can =
    ap (λ (xs : List ℕ). mark_or_bad (number_of last_number xs)) (decimal_trim n (omega (arith, can.1)))
    ∙ ap mark_or_bad (number_again last_number n (omega arith) can.0 can.1)
mark_told mark.Bad can = absurd can

pub echo_told : (run count : ℕ) → IsSentEcho (record { run = run; count = count })
    → echo_at (Some (trim_ows (32 ∷ (decimal run ++ 46 ∷ decimal count)))) ≡ Some (record { run = run; count = count })
echo_told run count (a, b, c, d) =
    ap echo_of (plain_trim (decimal run ++ 46 ∷ decimal count) (and_dot (decimal run) (decimal count) (decimal_plain run (omega arith)).1 (decimal_plain count (omega arith)).1))
    ∙ echo_again run count a b c d

verb_told : (v : Verb) → verb_of (verb_word v) ≡ v
unfolding verb_of
verb_told verb.Get = refl
verb_told verb.Put = refl
verb_told verb.Delete = refl
verb_told verb.Head = refl
verb_told verb.Other = refl

-- ---- the target

sent_byte : (b : ℕ) → is_sent_byte b ≡ true → IsPlain b
sent_byte b h = (grind (arith, nat_tests), grind (arith, nat_tests))

no_mark : (b : ℕ) → is_sent_byte b ≡ true → is_question_mark b ≡ false
no_mark b h = grind (arith, nat_tests)

sent_split : (a b : List ℕ) → list_all is_sent_byte (a ++ b) ≡ true → (list_all is_sent_byte a ≡ true) × (list_all is_sent_byte b ≡ true)
sent_split [] b h = (refl, h)
sent_split (c ∷ a) b h =
    let (first, rest) = and_parts (is_sent_byte c) (list_all is_sent_byte (a ++ b)) h in
    let (left, right) = sent_split a b rest in (rw (first, left) refl, right)

sent_plain : (v : List ℕ) → list_all is_sent_byte v ≡ true → AllPlain v
sent_plain [] h = tt
sent_plain (b ∷ v) h = let (first, rest) = and_parts (is_sent_byte b) (list_all is_sent_byte v) h in (sent_byte b first, sent_plain v rest)

place : (path rest : List ℕ) → list_all is_sent_byte path ≡ true → position_or_len is_question_mark (path ++ rest) ≡ length path + position_or_len is_question_mark rest
place [] rest h = omega arith
place (b ∷ path) rest h =
    let (first, others) = and_parts (is_sent_byte b) (list_all is_sent_byte path) h in rw (no_mark b first) (omega (arith, place path rest others))

mark_some : (q : ℕ) (query : List ℕ) → query_mark (q ∷ query) ≡ 63 ∷ []
mark_some q query = rw (not_zero (length (q ∷ query)) (omega arith)) refl

target_told : (path query : List ℕ) → list_all is_sent_byte path ≡ true
    → (path_of (path ++ (query_mark query ++ query)) ≡ path) × (query_of (path ++ (query_mark query ++ query)) ≡ query)
target_told path [] h =
    let at : position_or_len is_question_mark (path ++ []) ≡ length path = place path [] h ∙ omega arith in
    (ap (λ (k : ℕ). take k (path ++ [])) at ∙ take-append_seam path [], ap (λ (k : ℕ). drop (k + 1) (path ++ [])) at ∙ drop-append-add path [] 1)
target_told path (q ∷ query) h =
    let at : position_or_len is_question_mark (path ++ 63 ∷ q ∷ query) ≡ length path = place path (63 ∷ q ∷ query) h ∙ omega arith in
    rw (mark_some q query) (ap (λ (k : ℕ). take k (path ++ 63 ∷ q ∷ query)) at ∙ take-append_seam path (63 ∷ q ∷ query), ap (λ (k : ℕ). drop (k + 1) (path ++ 63 ∷ q ∷ query)) at ∙ drop-append-add path (63 ∷ q ∷ query) 1)

mark_plain : (query : List ℕ) → AllPlain query → AllPlain (query_mark query ++ query)
mark_plain [] x = tt
mark_plain (q ∷ query) x = rw (mark_some q query) ((omega arith, omega arith), x)

-- ---- the body

agree : (t : List ℕ) (m : MarkField) (run count : ℕ) (body : List ℕ)
    → lengths_are (length body) (sent_values verb.Put t m run count body)
    ≡ (if is_number (length body) (digits_of (trim_ows (32 ∷ decimal (length body)))) then true else false)
agree t mark.Nothing run count body = refl
agree t (mark.Number n) run count body = refl
agree t mark.Bad run count body = refl

stated_body_length : (v : Verb) (t : List ℕ) (m : MarkField) (run count : ℕ) (body : List ℕ) → IsSentVerb v body → body_length (sent_values v t m run count body) ≡ Ok (length body)
unfolding length_of
stated_body_length verb.Get t m run count body can = let l = looks verb.Get t m run count body in rw (l.stated, l.chunked, can) refl
stated_body_length verb.Put t m run count body can =
    let l = looks verb.Put t m run count body in
    let digits : digits_of (trim_ows (32 ∷ decimal (length body))) ≡ Some (length body) =
    ap digits_of (decimal_trim (length body) (omega (arith, can))) ∙ digits_of_decimal (length body) (omega (arith, can)) in
    rw (l.stated, l.chunked, digits, agree t m run count body, digits, eq-eqb (length body) (length body) refl, le-ltb max_body (length body) can) refl
stated_body_length verb.Delete t m run count body can = let l = looks verb.Delete t m run count body in rw (l.stated, l.chunked, can) refl
stated_body_length verb.Head t m run count body can = absurd can
stated_body_length verb.Other t m run count body can = absurd can

-- ---- the limits

verb_short : (v : Verb) → length (verb_word v) ≤ 8
verb_short verb.Get = omega arith
verb_short verb.Put = omega arith
verb_short verb.Delete = omega arith
verb_short verb.Head = omega arith
verb_short verb.Other = omega arith

mark_short : (query : List ℕ) → length (query_mark query) ≤ 1
mark_short [] = omega arith
mark_short (q ∷ query) = rw (mark_some q query) (omega arith)

number_short : (name : List ℕ) (n : ℕ) → length name ≤ 20 → n < 2 ^ 64 → length (number_line name (Some n)) ≤ 42
unfolding number_line
number_short name n short bound = let digits = length-decimal-le 20 n (omega arith) (omega arith) bound in simp length-append (omega arith)

no_line : (name : List ℕ) → length (number_line name None) ≤ 42
unfolding number_line
no_line name = omega arith

marked_short : (m : MarkField) → IsSentMark m → length (number_line (codes "X-Hub-Mark: ") (mark_number m)) ≤ 42
marked_short mark.Nothing can = no_line (codes "X-Hub-Mark: ")
marked_short (mark.Number n) can = number_short (codes "X-Hub-Mark: ") n (omega arith) (omega (arith, can.1))
marked_short mark.Bad can = absurd can

stated_short : (v : Verb) (body : List ℕ) → IsSentVerb v body → length (number_line (codes "Content-Length: ") (put_length v body)) ≤ 42
stated_short verb.Get body can = no_line (codes "Content-Length: ")
stated_short verb.Put body can = number_short (codes "Content-Length: ") (length body) (omega arith) (omega (arith, can))
stated_short verb.Delete body can = no_line (codes "Content-Length: ")
stated_short verb.Head body can = absurd can
stated_short verb.Other body can = absurd can

token_short : (t : List ℕ) → length t ≤ 256 → length (token_text t) ≤ 300
unfolding token_text
token_short t short = simp length-append (omega arith)

echo_short : (run count : ℕ) → run < 2 ^ 64 → count < 2 ^ 64 → length (echo_text run count) ≤ 100
unfolding echo_text
echo_short run count small few =
    let runs = length-decimal-le 20 run (omega arith) (omega arith) small in
    let counts = length-decimal-le 20 count (omega arith) (omega arith) few in simp length-append (omega arith)

outer_short : (V T F : List ℕ) → length V ≤ 8 → length T ≤ 8_193 → length F ≤ 495
    → length ((((V ++ 32 ∷ T) ++ 32 ∷ codes "HTTP/1.1") ++ 13 ∷ 10 ∷ []) ++ (F ++ 13 ∷ 10 ∷ [])) ≤ max_head
outer_short V T F v t f = simp length-append (omega arith)

inner_short : (A M E L : List ℕ) → length A ≤ 300 → length M ≤ 42 → length E ≤ 100 → length L ≤ 42 → length (codes "Host: hub\r\n" ++ (A ++ (M ++ (E ++ L)))) ≤ 495
inner_short A M E L a m e l = simp length-append (omega arith)

head_short : (v : Verb) (path query t : List ℕ) (m : MarkField) (run count : ℕ) (body : List ℕ)
    → length path + length query ≤ 8_192 → length t ≤ 256 → IsSentMark m → run < 2 ^ 64 → count < 2 ^ 64 → IsSentVerb v body
    → length (print_request (head v path query t m run count body)) ≤ max_head
unfolding print_request
head_short v path query t m run count body target short marked small few stated =
    let T = path ++ (query_mark query ++ query) in
    let long : length T ≤ 8_193 = omega (arith, length-append path (query_mark query ++ query), length-append (query_mark query) query, mark_short query) in
    outer_short (verb_word v) T (flat_map print_field (sent_fields v t m run count body)) (verb_short v) long
    (subst (λ (xs : List ℕ). length xs ≤ 495) (sym (fields_text v t m run count body))
    (inner_short (token_text t) (number_line (codes "X-Hub-Mark: ") (mark_number m)) (echo_text run count) (number_line (codes "Content-Length: ") (put_length v body))
    (token_short t short) (marked_short m marked) (echo_short run count small few) (stated_short v body stated)))

marks_few : (m : MarkField) → length (mark_lines m) ≤ 1
marks_few mark.Nothing = omega arith
marks_few (mark.Number n) = omega arith
marks_few mark.Bad = omega arith

lengths_few : (v : Verb) (body : List ℕ) → length (length_lines v body) ≤ 1
lengths_few verb.Get body = omega arith
lengths_few verb.Put body = omega arith
lengths_few verb.Delete body = omega arith
lengths_few verb.Head body = omega arith
lengths_few verb.Other body = omega arith

fields_few : (v : Verb) (t : List ℕ) (m : MarkField) (run count : ℕ) (body : List ℕ) → length (sent_fields v t m run count body) ≤ max_fields
fields_few v t m run count body =
    omega (arith, length-append (mark_lines m) (echo_field run count ∷ length_lines v body), marks_few m, lengths_few v body)

-- ---- the whole

verb_token : (v : Verb) → IsToken (verb_word v)
unfolding is_token_byte
verb_token verb.Get = name_is (codes "GET") (omega arith) refl
verb_token verb.Put = name_is (codes "PUT") (omega arith) refl
verb_token verb.Delete = name_is (codes "DELETE") (omega arith) refl
verb_token verb.Head = name_is (codes "HEAD") (omega arith) refl
verb_token verb.Other = name_is (codes "OTHER") (omega arith) refl

says : (v : Verb) (path query t : List ℕ) (m : MarkField) (run count : ℕ) (body : List ℕ)
    → list_all is_sent_byte path ≡ true → is_token t ≡ true → IsSentMark m → IsSentEcho (record { run = run; count = count })
    → sent v path query t m run count body ≡ asked (request_parts (head v path query t m run count body)) body
unfolding asked
says v path query t m run count body plain good marked echoed =
    let l = looks v t m run count body in
    let target = target_told path query plain in
    let token : token_at (value_of (codes "authorization") (sent_values v t m run count body)) ≡ Some t = ap token_at l.token ∙ token_told t good in
    let mark : mark_of (value_of (codes "x-hub-mark") (sent_values v t m run count body)) ≡ m = ap mark_of l.mark ∙ mark_told m marked in
    let echo : echo_at (value_of (codes "x-hub-exchange") (sent_values v t m run count body)) ≡ Some (record { run = run; count = count }) = ap echo_at l.echo ∙ echo_told run count echoed in
    let close : is_close (value_of (codes "connection") (sent_values v t m run count body)) ≡ false = ap is_close l.connection in
    rw (verb_told v, target.0, target.1, token, mark, echo, close) refl

whole : (v : Verb) (path query : List ℕ) (t : Option (List ℕ)) (m : MarkField) (e : Option Echo) (close : Bool) (body more : List ℕ)
    → CanSend (record { verb = v; path = path; query = query; token = t; mark = m; echo = e; close = close; body = body })
    → BeginsWith (request_text (record { verb = v; path = path; query = query; token = t; mark = m; echo = e; close = close; body = body }) ++ more)
    (record { verb = v; path = path; query = query; token = t; mark = m; echo = e; close = close; body = body }) more
whole v path query None m e close body more can = absurd can.token
whole v path query (Some t) m None close body more can = absurd can.echo
whole v path query (Some t) m (Some e) true body more can = let no = can.close in cc
whole v path query (Some t) m (Some e) false body more can =
    let (good, rest) = sent_split path query can.target in
    let plain = token_plain t can.token in
    let run : e.run < 2 ^ 64 = let x = can.echo.1 in omega arith in
    let count : e.count < 2 ^ 64 = let x = can.echo.3 in omega arith in
    let target : AllPlain (path ++ (query_mark query ++ query)) = plain_append path (query_mark query ++ query) (sent_plain path good) (mark_plain query (sent_plain query rest)) in (
      head v path query t m e.run e.count body,
      body ++ more,
      record {
        reads = (
          record {
            method = verb_token v;
            target = (omega (arith, length-append path (query_mark query ++ query), can.path), plain_uri (path ++ (query_mark query ++ query)) target);
            target_text = plain_is_text (path ++ (query_mark query ++ query)) target;
            minor = omega arith;
            fields = fields_ok v t m e.run e.count body plain.2 can.mark run count can.verb;
          },
          printed v path query t m e.run e.count body more,
        );
        short = head_short v path query t m e.run e.count body can.short plain.1 can.mark run count can.verb;
        few = fields_few v t m e.run e.count body;
      },
      record {
        length_is = stated_body_length v t m e.run e.count body can.verb;
        body = refl;
        asks = says v path query t m e.run e.count body good can.token can.mark can.echo;
      },
    )

pub sent_is_read : (r : Request) (more : List ℕ) → CanSend r → BeginsWith (request_text r ++ more) r more
sent_is_read r more can = whole r.verb r.path r.query r.token r.mark r.echo r.close r.body more can
