-- User ids, written and read.
use Rattle.std.proofs.Common.{◌≡◌, ℕ, suc, ◌-◌, ◌≤◌, ◌&&◌, not, List, [], ◌∷◌, ◌++◌, length, length-append}
use Rattle.std.proofs.Common.{append_assoc, add-one, get_or, map, take, drop, Bool, true, Ok, refl, sym, ap, ◌∙◌, arith}
use Rattle.std.proofs.Common.{nat_lt, nat_eq}
use Rattle.std.proofs.lemmas.Bool.{and_from, and_parts}
use Rattle.std.proofs.lemmas.Bool.Decides.{nat_tests}
use Rattle.std.proofs.lemmas.List.{take_all, take-append-le}
use Rattle.std.proofs.lemmas.List.Folds.{list_all-append}
use Rattle.std.specs.List.{after_first, before_first, join_with_byte, list_all, position_or_len}
use Rattle.roster_values.specs.CellText.{user_id_text}
use Rattle.roster_values.specs.Fit.{is_item, is_no_comma, is_plain_text, is_user_id_of}
use Rattle.roster_values.specs.Lists.{is_colon, is_filled, read_all, user_id_in, user_id_of, user_ids_of}
use Rattle.roster_texts.specs.Signs.{close_brace, colon, comma, open_brace}
use Rattle.roster_texts.specs.Texts.{has_plain_ends}
use Rattle.roster_texts.specs.Trim.{trimmed}
use Rattle.roster_values.specs.UserIds.{inner, is_braced, is_identifier_byte, is_type_byte, is_user_id, user_id_from}
use Rattle.roster_values.specs.UserIds.{UserIdParts}
use Rattle.roster_values.proofs.ItemLaws.{joined_read}
use Rattle.roster_values.proofs.TrimLaws.{last_append, plain_text_from, trimmed_same}

-- what the test of a user id says
pub record IsGood (form identifier : List ℕ) : Type 0 where
  pub form_filled : is_filled form ≡ true
  pub form_bytes : list_all is_type_byte form ≡ true
  pub form_plain : has_plain_ends form ≡ true
  pub identifier_filled : is_filled identifier ≡ true
  pub identifier_bytes : list_all is_identifier_byte identifier ≡ true
  pub identifier_plain : has_plain_ends identifier ≡ true

pub long_filled : (t : List ℕ) → nat_lt 0 (length t) ≡ true → is_filled t ≡ true
long_filled t h = grind (arith, nat_tests)

good_from : (form identifier : List ℕ) → is_user_id form identifier ≡ true → IsGood form identifier
good_from form identifier h =
    let f = (and_parts (nat_lt 0 (length form) && (list_all is_type_byte form && has_plain_ends form)) (nat_lt 0 (length identifier) && (list_all is_identifier_byte identifier && has_plain_ends identifier)) h).0 in
    let i = (and_parts (nat_lt 0 (length form) && (list_all is_type_byte form && has_plain_ends form)) (nat_lt 0 (length identifier) && (list_all is_identifier_byte identifier && has_plain_ends identifier)) h).1 in
    let fr = (and_parts (nat_lt 0 (length form)) (list_all is_type_byte form && has_plain_ends form) f).1 in
    let ir = (and_parts (nat_lt 0 (length identifier)) (list_all is_identifier_byte identifier && has_plain_ends identifier) i).1 in
    record {
      form_filled = long_filled form (and_parts (nat_lt 0 (length form)) (list_all is_type_byte form && has_plain_ends form) f).0;
      form_bytes = (and_parts (list_all is_type_byte form) (has_plain_ends form) fr).0;
      form_plain = (and_parts (list_all is_type_byte form) (has_plain_ends form) fr).1;
      identifier_filled = long_filled identifier (and_parts (nat_lt 0 (length identifier)) (list_all is_identifier_byte identifier && has_plain_ends identifier) i).0;
      identifier_bytes = (and_parts (list_all is_identifier_byte identifier) (has_plain_ends identifier) ir).0;
      identifier_plain = (and_parts (list_all is_identifier_byte identifier) (has_plain_ends identifier) ir).1;
    }

weaker : (p q : ℕ → Bool) → ((b : ℕ) → p b ≡ true → q b ≡ true) → (t : List ℕ) → list_all p t ≡ true → list_all q t ≡ true
weaker p q step [] h = refl
weaker p q step (b ∷ t) h = and_from (q b) (list_all q t) (step b (and_parts (p b) (list_all p t) h).0) (weaker p q step t (and_parts (p b) (list_all p t) h).1)

type_no_comma : (b : ℕ) → is_type_byte b ≡ true → is_no_comma b ≡ true
type_no_comma b h = (and_parts (not (nat_eq b comma)) (not (nat_eq b open_brace) && not (nat_eq b close_brace)) (and_parts (not (nat_eq b colon)) (is_identifier_byte b) h).1).0

identifier_no_comma : (b : ℕ) → is_identifier_byte b ≡ true → is_no_comma b ≡ true
identifier_no_comma b h = (and_parts (not (nat_eq b comma)) (not (nat_eq b open_brace) && not (nat_eq b close_brace)) h).0

type_no_colon : (b : ℕ) → is_type_byte b ≡ true → not (is_colon b) ≡ true
type_no_colon b h = (and_parts (not (nat_eq b colon)) (is_identifier_byte b) h).0

abbrev body : List ℕ → List ℕ → List ℕ
body form identifier = form ++ colon ∷ identifier

-- the text between its and_from braces
shape : (form identifier : List ℕ) → form ++ colon ∷ (identifier ++ close_brace ∷ []) ≡ body form identifier ++ close_brace ∷ []
shape form identifier = sym (append_assoc form (colon ∷ identifier) (close_brace ∷ []))

last_brace : (u : UserIdParts) → get_or (user_id_text u) (length (user_id_text u) - 1) 0 ≡ close_brace
last_brace u =
    ap (λ t. get_or (open_brace ∷ t) (length (open_brace ∷ t) - 1) 0) (shape u.form u.identifier) ∙ last_append (open_brace ∷ body u.form u.identifier) (close_brace ∷ []) (omega arith)

no_commas : (u : UserIdParts) → IsGood u.form u.identifier → list_all is_no_comma (user_id_text u) ≡ true
no_commas u g =
    let form = weaker is_type_byte is_no_comma type_no_comma u.form g.form_bytes in
    let identifier = weaker is_identifier_byte is_no_comma identifier_no_comma u.identifier g.identifier_bytes in
    let rest : list_all is_no_comma (u.identifier ++ close_brace ∷ []) ≡ true = list_all-append is_no_comma u.identifier (close_brace ∷ []) ∙ and_from (list_all is_no_comma u.identifier) true identifier refl in
    list_all-append is_no_comma u.form (colon ∷ (u.identifier ++ close_brace ∷ [])) ∙ and_from (list_all is_no_comma u.form) (list_all is_no_comma (u.identifier ++ close_brace ∷ [])) form rest

user_item : (u : UserIdParts) → is_user_id_of u ≡ true → is_item (user_id_text u) ≡ true
user_item u h =
    let plain : is_plain_text (user_id_text u) ≡ true = plain_text_from (user_id_text u) (omega arith) (λ e. omega (arith, e)) (λ e. omega (arith, sym (last_brace u) ∙ e)) in
    and_from (is_plain_text (user_id_text u)) (list_all is_no_comma (user_id_text u)) plain (no_commas u (good_from u.form u.identifier h))

pub user_items : (us : List UserIdParts) → list_all is_user_id_of us ≡ true → list_all is_item (map user_id_text us) ≡ true
user_items [] h = refl
user_items (u ∷ us) h =
    and_from (is_item (user_id_text u)) (list_all is_item (map user_id_text us)) (user_item u (and_parts (is_user_id_of u) (list_all is_user_id_of us) h).0) (user_items us (and_parts (is_user_id_of u) (list_all is_user_id_of us) h).1)

-- where the first colon stands
colon_at : (form identifier : List ℕ) → list_all is_type_byte form ≡ true → position_or_len is_colon (body form identifier) ≡ length form
colon_at [] identifier h = refl
colon_at (b ∷ form) identifier h =
    let here : not (is_colon b) ≡ true = type_no_colon b (and_parts (is_type_byte b) (list_all is_type_byte form) h).0 in
    let rest : position_or_len is_colon (body form identifier) ≡ length form = colon_at form identifier (and_parts (is_type_byte b) (list_all is_type_byte form) h).1 in
    rw (here, rest) (omega arith)

past : (form identifier : List ℕ) → drop (suc (length form)) (body form identifier) ≡ identifier
past [] identifier = refl
past (b ∷ form) identifier = past form identifier

before : (form rest : List ℕ) → take (length form) (form ++ rest) ≡ form
before form rest = take-append-le (length form) form rest (omega arith) ∙ take_all (length form) form (omega arith)

before_colon : (form identifier : List ℕ) → list_all is_type_byte form ≡ true → before_first is_colon (body form identifier) ≡ form
before_colon form identifier h = rw (colon_at form identifier h) (before form (colon ∷ identifier))

after_colon : (form identifier : List ℕ) → list_all is_type_byte form ≡ true → after_first is_colon (body form identifier) ≡ identifier
after_colon form identifier h = rw (colon_at form identifier h, add-one) (past form identifier)

in_body : (form identifier : List ℕ) → list_all is_type_byte form ≡ true → nat_lt (position_or_len is_colon (body form identifier)) (length (body form identifier)) ≡ true
in_body form identifier h =
    let long = length-append form (colon ∷ identifier) in
    rw (colon_at form identifier h) (grind (arith, nat_tests, long))

body_read : (u : UserIdParts) → is_user_id_of u ≡ true → user_id_in (body u.form u.identifier) ≡ Ok u
unfolding user_id_in user_id_from
body_read u h =
    let g = good_from u.form u.identifier h in
    let form_same : trimmed u.form ≡ u.form = trimmed_same u.form g.form_filled g.form_plain in
    let identifier_same : trimmed u.identifier ≡ u.identifier = trimmed_same u.identifier g.identifier_filled g.identifier_plain in
    rw (in_body u.form u.identifier g.form_bytes, before_colon u.form u.identifier g.form_bytes, after_colon u.form u.identifier g.form_bytes, form_same, identifier_same, h) refl

inner_is : (u : UserIdParts) → inner (user_id_text u) ≡ body u.form u.identifier
inner_is u =
    let lengths : length (user_id_text u) - 1 - 1 ≡ length (body u.form u.identifier) =
    omega (arith, ap length (shape u.form u.identifier), length-append (body u.form u.identifier) (close_brace ∷ [])) in
    ap (λ n. take n (u.form ++ colon ∷ (u.identifier ++ close_brace ∷ []))) lengths
    ∙ ap (λ t. take (length (body u.form u.identifier)) t) (shape u.form u.identifier)
    ∙ before (body u.form u.identifier) (close_brace ∷ [])

braced_from : (t : List ℕ) → 2 ≤ length t → get_or t 0 0 ≡ open_brace → get_or t (length t - 1) 0 ≡ close_brace → is_braced t ≡ true
braced_from t h first last = grind (arith, nat_tests)

is_between : (u : UserIdParts) → is_braced (user_id_text u) ≡ true
is_between u =
    braced_from (user_id_text u) (omega (arith, ap length (shape u.form u.identifier), length-append (body u.form u.identifier) (close_brace ∷ []))) refl (last_brace u)

user_read : (u : UserIdParts) → is_user_id_of u ≡ true → user_id_of (user_id_text u) ≡ Ok u
unfolding user_id_of
user_read u h = rw (is_between u, inner_is u) (body_read u h)

users_read : (us : List UserIdParts) → list_all is_user_id_of us ≡ true → read_all user_id_of (map user_id_text us) ≡ Ok us
unfolding read_all
users_read [] h = refl
users_read (u ∷ us) h =
    rw (user_read u (and_parts (is_user_id_of u) (list_all is_user_id_of us) h).0, users_read us (and_parts (is_user_id_of u) (list_all is_user_id_of us) h).1) refl

pub user_ids_read : (us : List UserIdParts) → list_all is_user_id_of us ≡ true → user_ids_of (join_with_byte comma (map user_id_text us)) ≡ Ok us
unfolding user_ids_of
user_ids_read us h = ap (read_all user_id_of) (joined_read (map user_id_text us) (user_items us h)) ∙ users_read us h
