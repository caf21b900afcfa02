-- What is written of a reply is read as the same reply.
use Rattle.std.proofs.Common.{◌≡◌, inl, inr, Err, Result, ◌<◌, ◌≤◌, ℕ, ◌+◌, ◌^◌, List, [], ◌∷◌, ◌++◌, length, Bool}
use Rattle.std.proofs.Common.{true, false, Option, Some, None, refl, sym, ap, ◌∙◌, arith, append_assoc, length-append}
use Rattle.std.proofs.Common.{codes, map, if◌then◌else◌, ◌==◌, Ok}
use Rattle.std.proofs.lemmas.Bool.{and_parts, eq-eqb, le-ltb}
use Rattle.std.specs.Prelude.{◌⊎◌, All, IfSome, IsTrue, decimal, nat_lt, option_map}
use Rattle.std.specs.List.{flat_map, list_all}
use Rattle.std.specs.Str.{str_eq_ignore_ascii_case}
use Rattle.std.specs.Str.Parse.{digits_value}
use Rattle.std.specs.Char.{is_ascii_digit}
use Rattle.std.specs.Fmt.{digits}
use Rattle.std.proofs.lemmas.List.{append-nil}
use Rattle.std.proofs.lemmas.List.Elements.{All-append, All-cons, All-head, All-nil, All-tail, All-weaker}
use Rattle.std.proofs.lemmas.List.Concat.{flat_map-append}
use Rattle.std.proofs.lemmas.List.Sums.{AllPass-from_list_all}
use Rattle.std.proofs.lemmas.Bool.Decides.{nat_tests}
use Rattle.httparse.specs.Grammar.{AllPass, Field, IsField, ResponseHead, crlf, is_token, is_token_byte, is_value_byte}
use Rattle.httparse.specs.Grammar.{print_field, print_response, status_code, trim_ows}
use Rattle.httparse.specs.Spans.{name_and_value}
use Rattle.status_info.specs.Bodies.{status_body}
use Rattle.status_info.specs.Causes.{status_of}
use Rattle.status_info.specs.declared.cause.Cause.{Cause}
use Rattle.status_info.specs.declared.cause.Cause.TheVariants as cause
use Rattle.status_info.specs.declared.reply.LinkItem.{LinkItem}
use Rattle.status_info.specs.declared.reply.Rel.{Rel}
use Rattle.status_info.specs.declared.reply.Rel.TheVariants as rel
use Rattle.status_info.specs.declared.reply.Reply.{Reply}
use Rattle.status_info.specs.declared.request.Echo.{Echo}
use Rattle.http_wire.specs.declared.reply_reading.WireReply.{WireReply}
use Rattle.http_wire.specs.declared.fault.WireFault.{WireFault}
use Rattle.http_wire.specs.declared.fault.WireFault.TheVariants as fault
use Rattle.http_wire.specs.Answers.{HasAnswerHead, IsReplyText, ReadsReply, answered, count_at, max_reply_body}
use Rattle.http_wire.specs.Answers.{body_length, missing_length, number_at, parts_of_head}
use Rattle.http_wire.specs.Heads.{is_number, length_of, lengths_are, value_of}
use Rattle.http_wire.specs.Replies.{allow_line, body_text, challenge_line, close_line, echo_line, end_text, front_text}
use Rattle.http_wire.specs.Replies.{further_link, joined, length_line, length_of_body, link_text, links_line}
use Rattle.http_wire.specs.Replies.{more_links, number_line, phrase_of, rel_word, reply_text, some_links, start_text}
use Rattle.http_wire.specs.Replies.{target_text, type_line, versions_text, warning_line}
use Rattle.http_wire.specs.Seen.{CanRead, IsVisible, IsVisibleLink, seen_of}
use Rattle.http_wire.specs.Sending.{IsSentEcho}
use Rattle.http_wire.specs.Texts.{count_of, digits_of, echo_at, last_number, number_of}
use Rattle.http_wire.proofs.AnswerLemmas.{one_answer}
use Rattle.http_wire.proofs.NumberLemmas.{count_again, digits_of_decimal, number_again}
use Rattle.http_wire.proofs.SendLemmas.{and_dot, decimal_plain, decimal_trim, echo_is, echo_told, is_field, line}
use Rattle.http_wire.proofs.SendLemmas.{name_is, plain_value, value_byte}

-- ---- a head of parts: each is a name, and a value where the reply has one

abbrev lines : List ℕ → Option (List ℕ) → List Field
lines name None = []
lines name (Some v) = line name v ∷ []

abbrev fields_of : List (List ℕ × Option (List ℕ)) → List Field
fields_of [] = []
fields_of (p ∷ parts) = lines p.0 p.1 ++ fields_of parts

-- the lines of a part are this text, and its value may stand in a field
abbrev Shows : List ℕ → Option (List ℕ) → List ℕ → Type 0
Shows name value text = (flat_map print_field (lines name value) ≡ text) × IfSome value (AllPass is_value_byte)

abbrev AllShow : List (List ℕ × Option (List ℕ)) → List (List ℕ) → Type 0
AllShow [] [] = Unit {0}
AllShow (p ∷ parts) (t ∷ texts) = Shows p.0 p.1 t × AllShow parts texts
AllShow parts texts = ⊥

fields_text : (parts : List (List ℕ × Option (List ℕ))) (texts : List (List ℕ)) → AllShow parts texts → flat_map print_field (fields_of parts) ≡ joined texts
fields_text [] [] x = refl
fields_text [] (t ∷ texts) x = absurd x
fields_text (p ∷ parts) [] x = absurd x
fields_text (p ∷ parts) (t ∷ texts) x =
    flat_map-append print_field (lines p.0 p.1) (fields_of parts) ∙ ap (λ (xs : List ℕ). xs ++ flat_map print_field (fields_of parts)) x.0.0
    ∙ ap (λ (xs : List ℕ). t ++ xs) (fields_text parts texts x.1)

part_ok : (name : List ℕ) (value : Option (List ℕ)) → is_token name ≡ true → IfSome value (AllPass is_value_byte) → All IsField (lines name value)
part_ok name None token passes = All-nil IsField
part_ok name (Some v) token passes =
    let (some, each) = and_parts (nat_lt 0 (length name)) (list_all is_token_byte name) token in
    let long : 0 < length name = grind (arith, nat_tests) in
    All-cons IsField (line name v) [] (is_field name v (name_is name long each) passes) (All-nil IsField)

fields_ok : (parts : List (List ℕ × Option (List ℕ))) (texts : List (List ℕ)) → list_all (λ p. is_token p.0) parts ≡ true → AllShow parts texts → All IsField (fields_of parts)
fields_ok [] texts tokens x = All-nil IsField
fields_ok (p ∷ parts) [] tokens x = absurd x
fields_ok (p ∷ parts) (t ∷ texts) tokens x =
    let (first, rest) = and_parts (is_token p.0) (list_all (λ p. is_token p.0) parts) tokens in
    All-append IsField (lines p.0 p.1) (fields_of parts) (part_ok p.0 p.1 first x.0.1) (fields_ok parts texts rest x.1)

one_line : (name : List ℕ) (value : Option (List ℕ)) → length (lines name value) ≤ 1
one_line name None = omega arith
one_line name (Some v) = omega arith

few_fields : (parts : List (List ℕ × Option (List ℕ))) → length (fields_of parts) ≤ length parts
few_fields [] = omega arith
few_fields (p ∷ parts) = omega (arith, length-append (lines p.0 p.1) (fields_of parts), one_line p.0 p.1, few_fields parts)

-- ---- what such a head says

abbrev written_values : List (List ℕ × Option (List ℕ)) → List (List ℕ × List ℕ)
written_values parts = map name_and_value (fields_of parts)

abbrev or_else : Option (List ℕ) → Option (List ℕ) → Option (List ℕ)
or_else None other = other
or_else (Some v) other = Some v

-- the value of the first part of a name that has one
abbrev first : List ℕ → List (List ℕ × Option (List ℕ)) → Option (List ℕ)
first name [] = None
first name (p ∷ parts) = if str_eq_ignore_ascii_case p.0 name then or_else p.1 (first name parts) else first name parts

abbrev trimmed : Option (List ℕ) → Option (List ℕ)
trimmed value = option_map (λ v. trim_ows (32 ∷ v)) value

value_told : (name : List ℕ) (parts : List (List ℕ × Option (List ℕ))) → value_of name (written_values parts) ≡ trimmed (first name parts)
value_told name [] = refl
value_told name (p ∷ parts) = by (str_eq_ignore_ascii_case p.0 name) p.1 refl (value_told name parts)
  where
    by : (same : Bool) (value : Option (List ℕ)) → str_eq_ignore_ascii_case p.0 name ≡ same → value_of name (written_values parts) ≡ trimmed (first name parts)
        → value_of name (map name_and_value (lines p.0 value ++ fields_of parts)) ≡ trimmed (if same then or_else value (first name parts) else first name parts)
    by true None e rest = rest
    by false None e rest = rest
    by true (Some v) e rest = rw e refl
    by false (Some v) e rest = rw e rest

-- each part that is Content-Length has this number
abbrev fits : ℕ → Option (List ℕ) → Bool
fits n None = true
fits n (Some v) = is_number n (digits_of (trim_ows (32 ∷ v)))

abbrev agree : ℕ → List (List ℕ × Option (List ℕ)) → Bool
agree n [] = true
agree n (p ∷ parts) = if str_eq_ignore_ascii_case p.0 (codes "content-length") then (if fits n p.1 then agree n parts else false) else agree n parts

lengths_agree : (n : ℕ) (parts : List (List ℕ × Option (List ℕ))) → lengths_are n (written_values parts) ≡ agree n parts
lengths_agree n [] = refl
lengths_agree n (p ∷ parts) = by (str_eq_ignore_ascii_case p.0 (codes "content-length")) p.1 refl (lengths_agree n parts)
  where
    by : (same : Bool) (value : Option (List ℕ)) → str_eq_ignore_ascii_case p.0 (codes "content-length") ≡ same → lengths_are n (written_values parts) ≡ agree n parts
        → lengths_are n (map name_and_value (lines p.0 value ++ fields_of parts)) ≡ (if same then (if fits n value then agree n parts else false) else agree n parts)
    by true None e rest = rest
    by false None e rest = rest
    by true (Some v) e rest = rw (e, rest) refl
    by false (Some v) e rest = rw e rest

-- ---- the parts of a reply

abbrev type_value : ℕ → Option (List ℕ)
type_value status = if status == 204 then None else Some (codes "application/json")

abbrev challenge_value : ℕ → Option (List ℕ)
challenge_value status = if status == 401 then Some (codes "Bearer") else None

abbrev allow_value : ℕ → Bool → Option (List ℕ)
allow_value status writes = if status == 405 then Some (if writes then codes "GET, PUT, DELETE" else codes "GET") else None

abbrev links_value : List LinkItem → Option (List ℕ)
links_value [] = None
links_value (link ∷ links) = Some (60 ∷ link_text link ++ more_links links)

abbrev warning_value : Bool → Bool → Option (List ℕ)
warning_value true selection = Some (if selection then codes "invalid_sort_field, invalid_selection_field" else codes "invalid_sort_field")
warning_value false selection = if selection then Some (codes "invalid_selection_field") else None

abbrev echo_value : Echo → List ℕ
echo_value echo = decimal echo.run ++ 46 ∷ decimal echo.count

abbrev close_value : Bool → Option (List ℕ)
close_value close = if close then Some (codes "close") else None

abbrev parts_of : Reply → List (List ℕ × Option (List ℕ))
parts_of r =
    (codes "Content-Type", type_value (status_of r.cause)) ∷ (codes "WWW-Authenticate", challenge_value (status_of r.cause))
    ∷ (codes "Allow", allow_value (status_of r.cause) r.allow_write) ∷ (codes "X-Total-Count", option_map decimal r.total)
    ∷ (codes "Link", links_value r.links) ∷ (codes "X-Hub-Warning", warning_value r.warnings.sort r.warnings.selection)
    ∷ (codes "X-Hub-Version", option_map decimal r.version) ∷ (codes "X-Hub-Oldest", option_map decimal r.oldest)
    ∷ (codes "X-Hub-Mark", option_map decimal r.mark) ∷ (codes "X-Hub-Exchange", option_map echo_value r.echo)
    ∷ (codes "Connection", close_value r.close) ∷ (codes "Content-Length", option_map decimal (length_of_body r)) ∷ []

abbrev texts_of : Reply → List (List ℕ)
texts_of r =
    type_line r.cause ∷ challenge_line r.cause ∷ allow_line r.cause r.allow_write ∷ number_line (codes "X-Total-Count: ") r.total
    ∷ links_line r.links ∷ warning_line r.warnings ∷ number_line (codes "X-Hub-Version: ") r.version ∷ number_line (codes "X-Hub-Oldest: ") r.oldest
    ∷ number_line (codes "X-Hub-Mark: ") r.mark ∷ echo_line r.echo ∷ close_line r.close ∷ length_line r ∷ []

passes : (v : List ℕ) → list_all is_value_byte v ≡ true → AllPass is_value_byte v
passes v h = AllPass-from_list_all is_value_byte v h

type_shows : (c : Cause) → Shows (codes "Content-Type") (type_value (status_of c)) (type_line c)
unfolding type_line
type_shows c = by (status_of c == 204)
  where
    by : (none : Bool) → Shows (codes "Content-Type") (if none then None else Some (codes "application/json")) (if none then [] else codes "Content-Type: application/json\r\n")
    by true = (refl, tt)
    by false = (refl, passes (codes "application/json") refl)

challenge_shows : (c : Cause) → Shows (codes "WWW-Authenticate") (challenge_value (status_of c)) (challenge_line c)
unfolding challenge_line
challenge_shows c = by (status_of c == 401)
  where
    by : (some : Bool) → Shows (codes "WWW-Authenticate") (if some then Some (codes "Bearer") else None) (if some then codes "WWW-Authenticate: Bearer\r\n" else [])
    by true = (refl, passes (codes "Bearer") refl)
    by false = (refl, tt)

allow_shows : (c : Cause) (writes : Bool) → Shows (codes "Allow") (allow_value (status_of c) writes) (allow_line c writes)
unfolding allow_line
allow_shows c writes = by (status_of c == 405) writes
  where
    by : (some writes : Bool)
        → Shows (codes "Allow") (if some then Some (if writes then codes "GET, PUT, DELETE" else codes "GET") else None)
        (if some then (if writes then codes "Allow: GET, PUT, DELETE\r\n" else codes "Allow: GET\r\n") else [])
    by true true = (refl, passes (codes "GET, PUT, DELETE") refl)
    by true false = (refl, passes (codes "GET") refl)
    by false writes = (refl, tt)

number_shows : (name : List ℕ) (o : Option ℕ) → IfSome o (λ n. n ≤ last_number) → Shows name (option_map decimal o) (number_line (name ++ 58 ∷ 32 ∷ []) o)
unfolding number_line
number_shows name None small = (refl, tt)
number_shows name (Some n) small = (simp (append_assoc, append-nil) refl, plain_value (decimal n) (decimal_plain n (omega (arith, small))).1)

visible_passes : (v : List ℕ) → All IsVisible v → AllPass is_value_byte v
visible_passes v x = All-weaker IsVisible (λ b. IsTrue (is_value_byte b)) (λ b w. value_byte b (omega (arith, w.0), omega (arith, w.1))) v x

rel_passes : (r : Rel) → AllPass is_value_byte (codes ">; rel=\"" ++ (rel_word r ++ (codes "\"" ++ [])))
rel_passes rel.Next = passes (codes ">; rel=\"next\"") refl
rel_passes rel.Prev = passes (codes ">; rel=\"prev\"") refl
rel_passes rel.First = passes (codes ">; rel=\"first\"") refl
rel_passes rel.Last = passes (codes ">; rel=\"last\"") refl

link_passes : (link : LinkItem) → IsVisibleLink link → AllPass is_value_byte (link_text link)
unfolding target_text
link_passes link x =
    All-append (λ b. IsTrue (is_value_byte b)) link.target (codes ">; rel=\"" ++ (rel_word link.rel ++ (codes "\"" ++ []))) (visible_passes link.target x) (rel_passes link.rel)

more_pass : (links : List LinkItem) → All IsVisibleLink links → AllPass is_value_byte (more_links links)
more_pass [] x = passes [] refl
more_pass (link ∷ links) x =
    All-append (λ b. IsTrue (is_value_byte b)) (further_link link) (more_links links)
    (All-append (λ b. IsTrue (is_value_byte b)) (codes ", <") (link_text link) (passes (codes ", <") refl) (link_passes link (All-head IsVisibleLink link links x)))
    (more_pass links (All-tail IsVisibleLink link links x))

links_shows : (links : List LinkItem) → All IsVisibleLink links → Shows (codes "Link") (links_value links) (links_line links)
unfolding some_links
links_shows [] x = (refl, tt)
links_shows (link ∷ links) x = (
  append-nil _ ∙ ap (λ (xs : List ℕ). codes "Link: <" ++ xs) (append_assoc (link_text link) (more_links links) (13 ∷ 10 ∷ [])),
  All-append (λ b. IsTrue (is_value_byte b)) (60 ∷ link_text link) (more_links links)
      (All-cons (λ b. IsTrue (is_value_byte b)) 60 (link_text link) refl (link_passes link (All-head IsVisibleLink link links x)))
      (more_pass links (All-tail IsVisibleLink link links x)),
)

warning_shows : (r : Reply) → Shows (codes "X-Hub-Warning") (warning_value r.warnings.sort r.warnings.selection) (warning_line r.warnings)
unfolding warning_line
warning_shows r = by r.warnings.sort r.warnings.selection
  where
    by : (sort selection : Bool) → Shows (codes "X-Hub-Warning") (warning_value sort selection) (warning_line (record { sort = sort; selection = selection }))
    by true true = (refl, passes (codes "invalid_sort_field, invalid_selection_field") refl)
    by true false = (refl, passes (codes "invalid_sort_field") refl)
    by false true = (refl, passes (codes "invalid_selection_field") refl)
    by false false = (refl, tt)

echo_shows : (o : Option Echo) → IfSome o IsSentEcho → Shows (codes "X-Hub-Exchange") (option_map echo_value o) (echo_line o)
echo_shows None x = (refl, tt)
echo_shows (Some e) x =
    let run : e.run < 2 ^ 64 = let y = x.1 in omega arith in
    let count : e.count < 2 ^ 64 = let y = x.3 in omega arith in
    (append-nil _ ∙ echo_is e.run e.count, plain_value (echo_value e) (and_dot (decimal e.run) (decimal e.count) (decimal_plain e.run run).1 (decimal_plain e.count count).1))

close_shows : (close : Bool) → Shows (codes "Connection") (close_value close) (close_line close)
unfolding close_line
close_shows true = (refl, passes (codes "close") refl)
close_shows false = (refl, tt)

mark_small : (o : Option ℕ) → IfSome o (λ n. (1 ≤ n) × (n ≤ last_number)) → IfSome o (λ n. n ≤ last_number)
mark_small None x = tt
mark_small (Some n) x = x.1

length_small : (r : Reply) → length (body_text r) ≤ max_reply_body → IfSome (length_of_body r) (λ n. n ≤ last_number)
unfolding length_of_body
length_small r short = by (status_of r.cause == 204)
  where
    by : (none : Bool) → IfSome (if none then None else Some (length (body_text r))) (λ n. n ≤ last_number)
    by true = tt
    by false = omega arith

all_show : (r : Reply) → CanRead r → AllShow (parts_of r) (texts_of r)
all_show r can =
    let kind = type_shows r.cause in
    let challenge = challenge_shows r.cause in
    let allow = allow_shows r.cause r.allow_write in
    let total = number_shows (codes "X-Total-Count") r.total can.total in
    let links = links_shows r.links can.links in
    let warning = warning_shows r in
    let version = number_shows (codes "X-Hub-Version") r.version can.version in
    let oldest = number_shows (codes "X-Hub-Oldest") r.oldest can.oldest in
    let mark = number_shows (codes "X-Hub-Mark") r.mark (mark_small r.mark can.mark) in
    let echo = echo_shows r.echo can.echo in
    let close = close_shows r.close in
    let size = number_shows (codes "Content-Length") (length_of_body r) (length_small r can.body) in
    (kind, (challenge, (allow, (total, (links, (warning, (version, (oldest, (mark, (echo, (close, (size, tt))))))))))))

-- ---- the head

record IsStatusLine (status : ℕ) : Type 0 where
  digits : (length (decimal status) ≡ 3) × AllPass is_ascii_digit (decimal status)
  value : digits_value 10 (decimal status) ≡ status
  phrase : AllPass is_value_byte (phrase_of status)

status_line : (c : Cause) → IsStatusLine (status_of c)
unfolding phrase_of digits
status_line cause.Done = record { digits = (refl, AllPass-from_list_all is_ascii_digit (decimal 200) refl); value = refl; phrase = passes (phrase_of 200) refl }
status_line c =
    record { digits = (refl, AllPass-from_list_all is_ascii_digit (decimal (status_of c)) refl); value = refl; phrase = passes (phrase_of (status_of c)) refl }

abbrev head_of : Reply → ResponseHead
head_of r = record {
  blank = [];
  minor = 1;
  digits = decimal (status_of r.cause);
  reason = Some (phrase_of (status_of r.cause));
  line_end = crlf;
  fields = fields_of (parts_of r);
  last = crlf;
}

shape : (H D S P Z T C A N K W V O M E X L B : List ℕ)
    → ((H ++ D) ++ (S ++ (D ++ (P ++ (Z ++ (T ++ (C ++ (A ++ [])))))))) ++ N ++ (K ++ (W ++ ((V ++ (O ++ M)) ++ ((E ++ (X ++ (L ++ Z))) ++ B))))
    ≡ (((((H ++ (D ++ S)) ++ (D ++ P)) ++ Z) ++ ((T ++ (C ++ (A ++ (N ++ (K ++ (W ++ (V ++ (O ++ (M ++ (E ++ (X ++ (L ++ [])))))))))))) ++ Z))) ++ B
shape H D S P Z T C A N K W V O M E X L B = simp (append_assoc, append-nil) refl

printed : (r : Reply) → CanRead r → reply_text r ≡ print_response (head_of r) ++ body_text r
unfolding print_response front_text start_text versions_text end_text
printed r can =
    shape (codes "HTTP/1.1") (32 ∷ []) (decimal (status_of r.cause)) (phrase_of (status_of r.cause)) (13 ∷ 10 ∷ [])
    (type_line r.cause) (challenge_line r.cause) (allow_line r.cause r.allow_write) (number_line (codes "X-Total-Count: ") r.total)
    (links_line r.links) (warning_line r.warnings) (number_line (codes "X-Hub-Version: ") r.version) (number_line (codes "X-Hub-Oldest: ") r.oldest)
    (number_line (codes "X-Hub-Mark: ") r.mark) (echo_line r.echo) (close_line r.close) (length_line r) (body_text r)
    ∙ ap (λ (xs : List ℕ). (((((codes "HTTP/1.1" ++ (32 ∷ decimal (status_of r.cause))) ++ (32 ∷ phrase_of (status_of r.cause))) ++ (13 ∷ 10 ∷ [])) ++ (xs ++ 13 ∷ 10 ∷ []))) ++ body_text r)
    (sym (fields_text (parts_of r) (texts_of r) (all_show r can)))

has_head : (r : Reply) → CanRead r → HasAnswerHead (reply_text r) (head_of r) (body_text r)
unfolding is_token_byte
has_head r can =
    let line = status_line r.cause in
    let print = printed r can in
    let long : length (reply_text r) ≡ length (print_response (head_of r)) + length (body_text r) = ap length print ∙ length-append (print_response (head_of r)) (body_text r) in
    record {
      reads = (
        record { minor = omega arith; digits = line.digits; reason = line.phrase; fields = fields_ok (parts_of r) (texts_of r) refl (all_show r can) },
        print,
      );
      short = omega (arith, can.head);
      few = omega (arith, few_fields (parts_of r));
    }

-- ---- what it says

count_told : (o : Option ℕ) → IfSome o (λ n. n ≤ last_number) → count_at (trimmed (or_else (option_map decimal o) None)) ≡ o
count_told None small = refl
count_told (Some n) small = ap (count_of last_number) (decimal_trim n (omega (arith, small))) ∙ count_again last_number n (omega arith) small

mark_told : (o : Option ℕ) → IfSome o (λ n. (1 ≤ n) × (n ≤ last_number)) → number_at (trimmed (or_else (option_map decimal o) None)) ≡ o
mark_told None x = refl
mark_told (Some n) x = ap (number_of last_number) (decimal_trim n (omega (arith, x.1))) ∙ number_again last_number n (omega arith) x.0 x.1

reply_echo_told : (o : Option Echo) → IfSome o IsSentEcho → echo_at (trimmed (or_else (option_map echo_value o) None)) ≡ o
reply_echo_told None x = refl
reply_echo_told (Some e) x = echo_told e.run e.count x

says : (r : Reply) → CanRead r → seen_of r ≡ answered (parts_of_head (head_of r)) (body_text r)
unfolding answered
says r can =
    let total : count_at (value_of (codes "x-total-count") (written_values (parts_of r))) ≡ r.total = ap count_at (value_told (codes "x-total-count") (parts_of r)) ∙ count_told r.total can.total in
    let version : count_at (value_of (codes "x-hub-version") (written_values (parts_of r))) ≡ r.version = ap count_at (value_told (codes "x-hub-version") (parts_of r)) ∙ count_told r.version can.version in
    let oldest : count_at (value_of (codes "x-hub-oldest") (written_values (parts_of r))) ≡ r.oldest = ap count_at (value_told (codes "x-hub-oldest") (parts_of r)) ∙ count_told r.oldest can.oldest in
    let mark : number_at (value_of (codes "x-hub-mark") (written_values (parts_of r))) ≡ r.mark = ap number_at (value_told (codes "x-hub-mark") (parts_of r)) ∙ mark_told r.mark can.mark in
    let echo : echo_at (value_of (codes "x-hub-exchange") (written_values (parts_of r))) ≡ r.echo = ap echo_at (value_told (codes "x-hub-exchange") (parts_of r)) ∙ reply_echo_told r.echo can.echo in
    rw ((status_line r.cause).value, total, version, oldest, mark, echo) refl

-- ---- the length of the body

no_other : (status : ℕ) → (status == 204) ≡ true → (status == 200) ≡ false
no_other status h = grind (arith, nat_tests)

no_body : (r : Reply) → (status_of r.cause == 204) ≡ true → body_text r ≡ []
unfolding body_text
no_body r none = by r.headless
  where
    by : (headless : Bool)
        → (if headless then [] else if status_of r.cause == 200 then r.body else if status_of r.cause == 204 then [] else status_body r.cause) ≡ []
    by true = refl
    by false = rw (no_other (status_of r.cause) none, none) refl

none_stated : (fields : List (List ℕ × List ℕ)) → value_of (codes "content-length") fields ≡ None → value_of (codes "transfer-encoding") fields ≡ None
    → length_of max_reply_body (Some 0) fields ≡ Ok 0
unfolding length_of
none_stated fields none whole = rw (none, whole) refl

one_stated : (missing : Option ℕ) (fields : List (List ℕ × List ℕ)) (v : List ℕ) (n : ℕ) → value_of (codes "content-length") fields ≡ Some v
    → value_of (codes "transfer-encoding") fields ≡ None → digits_of v ≡ Some n → lengths_are n fields ≡ true → n ≤ max_reply_body
    → length_of max_reply_body missing fields ≡ Ok n
unfolding length_of
one_stated missing fields v n one whole digits same short = rw (one, whole, digits, same, le-ltb max_reply_body n short) refl

stated_body_length : (r : Reply) → CanRead r → body_length (parts_of_head (head_of r)) ≡ Ok (length (body_text r))
unfolding length_of_body
stated_body_length r can = by (status_of r.cause == 204) refl
  where
    by : (none : Bool) → (status_of r.cause == 204) ≡ none → body_length (parts_of_head (head_of r)) ≡ Ok (length (body_text r))
    by true e =
        let said : length_of_body r ≡ None = rw e refl in
        let missing : missing_length (status_code (head_of r)) ≡ Some 0 = rw ((status_line r.cause).value, e) refl in
        let none : value_of (codes "content-length") (written_values (parts_of r)) ≡ None =
        value_told (codes "content-length") (parts_of r) ∙ ap (λ (o : Option ℕ). trimmed (or_else (option_map decimal o) None)) said in
        ap (λ (o : Option ℕ). length_of max_reply_body o (written_values (parts_of r))) missing ∙ none_stated (written_values (parts_of r)) none (value_told (codes "transfer-encoding") (parts_of r))
        ∙ ap (λ (xs : List ℕ). Ok (length xs)) (sym (no_body r e))
    by false e =
        let n = length (body_text r) in
        let said : length_of_body r ≡ Some n = rw e refl in
        let one : value_of (codes "content-length") (written_values (parts_of r)) ≡ Some (trim_ows (32 ∷ decimal n)) =
        value_told (codes "content-length") (parts_of r) ∙ ap (λ (o : Option ℕ). trimmed (or_else (option_map decimal o) None)) said in
        let digits : digits_of (trim_ows (32 ∷ decimal n)) ≡ Some n = ap digits_of (decimal_trim n (omega (arith, can.body))) ∙ digits_of_decimal n (omega (arith, can.body)) in
        let fit : fits n (Some (decimal n)) ≡ true = rw (digits, eq-eqb n n refl) refl in
        let same : lengths_are n (written_values (parts_of r)) ≡ true =
        lengths_agree n (parts_of r) ∙ ap (λ (o : Option ℕ). if fits n (option_map decimal o) then true else false) said ∙ ap (λ (b : Bool). if b then true else false) fit in
        one_stated (missing_length (status_code (head_of r))) (written_values (parts_of r)) (trim_ows (32 ∷ decimal n)) n one (value_told (codes "transfer-encoding") (parts_of r)) digits same can.body

pub written_is_read : (r : Reply) → CanRead r → IsReplyText (reply_text r) (seen_of r)
written_is_read r can = (head_of r, record { head = has_head r can; length_is = stated_body_length r can; says = says r can })

-- ---- what the parser answers of it

pub answer_is : (r : Reply) (answer : Result WireReply WireFault) → CanRead r → ReadsReply (reply_text r) answer → (answer ≡ Ok (seen_of r)) ⊎ (answer ≡ Err fault.NoMemory)
answer_is r (Ok reply) can reads = inl (ap (λ (x : WireReply). Ok x) (one_answer (reply_text r) reply (seen_of r) reads (written_is_read r can)))
answer_is r (Err fault.NoMemory) can reads = inr refl
answer_is r (Err e) can reads = absurd (reads.0 (seen_of r) (written_is_read r can))
