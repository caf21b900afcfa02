-- A value that fits its field is read from its own cell text.
use Rattle.std.proofs.Common.{◌/◌, ◌%◌, ◌≡◌, ◌≢◌, ℕ, ◌+◌, ◌-◌, ◌<◌, ◌&&◌, not, List, [], ◌∷◌, ◌++◌, length}
use Rattle.std.proofs.Common.{length-append, get_or, map, Bool, true, false, Some, Ok, refl, sym, ap, ◌∙◌, arith, ◌^◌}
use Rattle.std.proofs.Common.{suc, ℤ, pos, negsuc, nat_le, nat_lt, nat_eq, bytes_eq}
use Rattle.std.proofs.lemmas.Bool.{and_from, and_parts}
use Rattle.std.proofs.lemmas.Bool.Decides.{nat_tests}
use Rattle.std.specs.List.{join_with_byte, list_all, list_any}
use Rattle.roster_values.specs.declared.value.Value.{Value}
use Rattle.roster_values.specs.declared.value.Value.TheVariants as value
use Rattle.roster_values.specs.CellText.{cell_text, flag_text, user_id_text}
use Rattle.roster_values.specs.Fit.{fits, fits_form, has_items, is_item, is_user_id_of, is_no_comma, is_plain_text}
use Rattle.roster_values.specs.Lists.{id_of, ids_of, is_filled, read_all}
use Rattle.roster_texts.specs.Numbers.{flag_of}
use Rattle.roster_texts.specs.Days.{day_of_month, day_text, year_of_day}
use Rattle.roster_texts.specs.Digits.{four}
use Rattle.roster_texts.specs.Moments.{clock_text, fraction_text, moment_text}
use Rattle.roster_values.specs.UserIds.{UserIdParts}
use Rattle.roster_texts.proofs.NumberTexts.{number_read, own, small_neg, small_pos, year_read}
use Rattle.roster_texts.proofs.RoundTrip.{day_from, day_written, moment_from, moment_reads_back}
use Rattle.roster_texts.specs.Numbers.{is_number}
use Rattle.std.specs.Fmt.{decimal, signed_decimal}
use Rattle.std.proofs.lemmas.Fmt.{decimal_nonempty, digits_decimal}
use Rattle.std.proofs.lemmas.Str.Parse.{not_in_digits}
use Rattle.std.specs.Int.{IsInRange}
use Rattle.roster_values.specs.Table.{Form, Info, TextForm, IdForm, DayForm, MomentForm, NumberForm, YearForm, FlagForm}
use Rattle.roster_values.specs.Table.{WordForm, TextsForm, UserIdsForm, RefForm, RefsForm}
use Rattle.roster_texts.specs.Texts.{has_plain_ends, is_id, is_id_byte}
use Rattle.roster_texts.specs.Trim.{trimmed}
use Rattle.roster_values.specs.Values.{form_value, many, value_of, word_of}
use Rattle.roster_values.proofs.ItemLaws.{joined_read, plain_of}
use Rattle.roster_values.proofs.TrimLaws.{filled_long, first_of_plain, head_append, last_append, last_of_plain}
use Rattle.roster_values.proofs.TrimLaws.{plain_text_from, trimmed_same}
use Rattle.roster_values.proofs.UserLaws.{user_ids_read, user_items}

-- an id is read as itself
short_id : (t : List ℕ) → is_id t ≡ true → nat_lt 255 (length t) ≡ false
short_id t h = grind (arith, nat_tests)

pub id_read : (t : List ℕ) → is_id t ≡ true → id_of t ≡ Ok t
unfolding id_of
id_read t h = rw (short_id t h, h) refl

id_filled : (t : List ℕ) → is_id t ≡ true → is_filled t ≡ true
id_filled t h = grind (arith, nat_tests)

-- the last two tests of an id
id_rest : (t : List ℕ) → is_id t ≡ true → (list_all is_id_byte t && has_plain_ends t) ≡ true
id_rest t h = (and_parts (nat_le (length t) 255) (list_all is_id_byte t && has_plain_ends t) (and_parts (nat_lt 0 (length t)) (nat_le (length t) 255 && (list_all is_id_byte t && has_plain_ends t)) h).1).1

byte_no_comma : (b : ℕ) → is_id_byte b ≡ true → is_no_comma b ≡ true
byte_no_comma b h = (and_parts (nat_le 32 b && not (nat_eq b 127)) (not (nat_eq b 44)) h).1

bytes_no_comma : (t : List ℕ) → list_all is_id_byte t ≡ true → list_all is_no_comma t ≡ true
bytes_no_comma [] h = refl
bytes_no_comma (b ∷ t) h =
    and_from (is_no_comma b) (list_all is_no_comma t) (byte_no_comma b (and_parts (is_id_byte b) (list_all is_id_byte t) h).0)
    (bytes_no_comma t (and_parts (is_id_byte b) (list_all is_id_byte t) h).1)

pub id_plain : (t : List ℕ) → is_id t ≡ true → is_plain_text t ≡ true
id_plain t h = and_from (is_filled t) (has_plain_ends t) (id_filled t h) (and_parts (list_all is_id_byte t) (has_plain_ends t) (id_rest t h)).1

pub id_item : (t : List ℕ) → is_id t ≡ true → is_item t ≡ true
id_item t h = and_from (is_plain_text t) (list_all is_no_comma t) (id_plain t h) (bytes_no_comma t (and_parts (list_all is_id_byte t) (has_plain_ends t) (id_rest t h)).0)

ids_items : (ts : List (List ℕ)) → list_all is_id ts ≡ true → list_all is_item ts ≡ true
ids_items [] h = refl
ids_items (t ∷ ts) h =
    and_from (is_item t) (list_all is_item ts) (id_item t (and_parts (is_id t) (list_all is_id ts) h).0) (ids_items ts (and_parts (is_id t) (list_all is_id ts) h).1)

ids_read : (ts : List (List ℕ)) → list_all is_id ts ≡ true → read_all id_of ts ≡ Ok ts
unfolding read_all
ids_read [] h = refl
ids_read (t ∷ ts) h =
    rw (id_read t (and_parts (is_id t) (list_all is_id ts) h).0, ids_read ts (and_parts (is_id t) (list_all is_id ts) h).1) refl

pub joined_ids_read : (ts : List (List ℕ)) → list_all is_id ts ≡ true → ids_of (join_with_byte 44 ts) ≡ Ok ts
unfolding ids_of
joined_ids_read ts h = ap (read_all id_of) (joined_read ts (ids_items ts h)) ∙ ids_read ts h

flag_read : (b : Bool) → flag_of (flag_text b) ≡ Ok b
unfolding flag_of
flag_read true = refl
flag_read false = refl

many_kept : {A : Type 0} (required : Bool) (variant : List A → Value) (xs : List A) → has_items xs ≡ true → many required variant (Ok xs) ≡ Ok (Some (variant xs))
many_kept required variant [] h = absurd (cc h)
many_kept required variant (x ∷ xs) h = refl

word_read : (words : List (List ℕ)) (w : List ℕ) → list_any (λ word. bytes_eq word w) words ≡ true → word_of words w ≡ Ok w
unfolding word_of
word_read words w h = rw h refl

form_reads : (form : Form) (required : Bool) (v : Value) → fits_form form v ≡ true → form_value form required (cell_text v) ≡ Ok (Some v)
unfolding form_value cell_text
form_reads TextForm required (value.Text t) h = refl
form_reads IdForm required (value.Id t) h = rw (id_read t h) refl
form_reads DayForm required (value.Day z) h = rw (day_written z (day_from z h)) refl
form_reads MomentForm required (value.Moment z) h = rw (moment_reads_back z (moment_from z h)) refl
form_reads NumberForm required (value.Number z) h = rw (number_read z h) refl
form_reads YearForm required (value.Year y) h = rw (year_read y h) refl
form_reads FlagForm required (value.Flag b) h = rw (flag_read b) refl
form_reads (WordForm words) required (value.Word w) h = rw (word_read words w (and_parts (is_plain_text w) (list_any (λ word. bytes_eq word w) words) h).1) refl
form_reads TextsForm required (value.Texts ts) h =
    rw (joined_read ts (and_parts (has_items ts) (list_all is_item ts) h).1) (many_kept required (λ x. value.Texts x) ts (and_parts (has_items ts) (list_all is_item ts) h).0)
form_reads UserIdsForm required (value.UserIds us) h =
    rw (user_ids_read us (and_parts (has_items us) (list_all is_user_id_of us) h).1) (many_kept required (λ x. value.UserIds x) us (and_parts (has_items us) (list_all is_user_id_of us) h).0)
form_reads (RefForm kind) required (value.Ref t) h = rw (id_read t h) refl
form_reads (RefsForm kind) required (value.Refs ts) h =
    rw (joined_ids_read ts (and_parts (has_items ts) (list_all is_id ts) h).1) (many_kept required (λ x. value.Refs x) ts (and_parts (has_items ts) (list_all is_id ts) h).0)
form_reads form required v h = absurd (cc h)

-- the text of a cell is not blank and has no space at its ends
not_space : (n : ℕ) → not (nat_eq (48 + n) 32) ≡ true
not_space n = grind (arith, nat_tests)

day_plain : (z : ℤ) → is_plain_text (day_text z) ≡ true
unfolding day_text
day_plain z = rw (not_space (year_of_day z / 100 / 10), not_space (day_of_month z % 10)) refl

moment_plain : (z : ℤ) → is_plain_text (moment_text z) ≡ true
unfolding moment_text day_text clock_text fraction_text
moment_plain z = rw (not_space _) refl

year_plain : (y : ℕ) → is_plain_text (four y) ≡ true
year_plain y = rw (not_space (y / 100 / 10), not_space (y % 100 % 10)) refl

flag_plain : (b : Bool) → is_plain_text (flag_text b) ≡ true
flag_plain true = refl
flag_plain false = refl

no_digit : ¬ (IsInRange 48 57 32)
no_digit r = omega (arith, r.0)

number_plain : (z : ℤ) → is_number z ≡ true → is_plain_text (signed_decimal z) ≡ true
number_plain (pos n) h =
    let small : n < 2 ^ 64 = omega (arith, small_pos n h) in
    let long = decimal_nonempty n small in
    let digits = digits_decimal own n small in
    plain_text_from (decimal n) long (not_in_digits own (decimal n) 32 digits no_digit 0 long) (not_in_digits own (decimal n) 32 digits no_digit (length (decimal n) - 1) (omega arith))
number_plain (negsuc n) h =
    let small : suc n < 2 ^ 64 = omega (arith, small_neg n h) in
    let long = decimal_nonempty (suc n) small in
    let digits = digits_decimal own (suc n) small in
    let last : get_or (decimal (suc n)) (length (decimal (suc n)) - 1) 0 ≢ 32 = not_in_digits own (decimal (suc n)) 32 digits no_digit (length (decimal (suc n)) - 1) (omega arith) in
    plain_text_from (45 ∷ decimal (suc n)) (omega arith) (λ e. omega (arith, e)) (λ e. last (sym (last_append (45 ∷ []) (decimal (suc n)) long) ∙ e))

joined_plain : (t j : List ℕ) → is_plain_text t ≡ true → is_plain_text j ≡ true → is_plain_text (t ++ (44 ∷ j)) ≡ true
joined_plain t j tp jp =
    let t_long = filled_long t (and_parts (is_filled t) (has_plain_ends t) tp).0 in
    let j_long = filled_long j (and_parts (is_filled j) (has_plain_ends j) jp).0 in
    plain_text_from (t ++ (44 ∷ j)) (omega (arith, length-append t (44 ∷ j)))
    (λ e. first_of_plain t (and_parts (is_filled t) (has_plain_ends t) tp).1 (sym (head_append t (44 ∷ j) t_long) ∙ e))
    (λ e. last_of_plain j (and_parts (is_filled j) (has_plain_ends j) jp).1 (sym (last_append t (44 ∷ j) (omega arith) ∙ last_append (44 ∷ []) j j_long) ∙ e))

items_plain : (ts : List (List ℕ)) → has_items ts ≡ true → list_all is_item ts ≡ true → is_plain_text (join_with_byte 44 ts) ≡ true
items_plain [] some h = absurd (cc some)
items_plain (t ∷ []) some h = plain_of t (and_parts (is_item t) true h).0
items_plain (t ∷ u ∷ us) some h =
    let tp : is_plain_text t ≡ true = plain_of t (and_parts (is_item t) (list_all is_item (u ∷ us)) h).0 in
    let jp : is_plain_text (join_with_byte 44 (u ∷ us)) ≡ true = items_plain (u ∷ us) refl (and_parts (is_item t) (list_all is_item (u ∷ us)) h).1 in
    joined_plain t (join_with_byte 44 (u ∷ us)) tp jp

some_mapped : (us : List UserIdParts) → has_items us ≡ true → has_items (map user_id_text us) ≡ true
some_mapped [] h = h
some_mapped (u ∷ us) h = refl

cell_plain : (form : Form) (v : Value) → fits_form form v ≡ true → is_plain_text (cell_text v) ≡ true
unfolding cell_text
cell_plain TextForm (value.Text t) h = h
cell_plain IdForm (value.Id t) h = id_plain t h
cell_plain DayForm (value.Day z) h = day_plain z
cell_plain MomentForm (value.Moment z) h = moment_plain z
cell_plain NumberForm (value.Number z) h = number_plain z h
cell_plain YearForm (value.Year y) h = year_plain y
cell_plain FlagForm (value.Flag b) h = flag_plain b
cell_plain (WordForm words) (value.Word w) h = (and_parts (is_plain_text w) (list_any (λ word. bytes_eq word w) words) h).0
cell_plain TextsForm (value.Texts ts) h = items_plain ts (and_parts (has_items ts) (list_all is_item ts) h).0 (and_parts (has_items ts) (list_all is_item ts) h).1
cell_plain UserIdsForm (value.UserIds us) h =
    items_plain (map user_id_text us) (some_mapped us (and_parts (has_items us) (list_all is_user_id_of us) h).0) (user_items us (and_parts (has_items us) (list_all is_user_id_of us) h).1)
cell_plain (RefForm kind) (value.Ref t) h = id_plain t h
cell_plain (RefsForm kind) (value.Refs ts) h = items_plain ts (and_parts (has_items ts) (list_all is_id ts) h).0 (ids_items ts (and_parts (has_items ts) (list_all is_id ts) h).1)
cell_plain form v h = absurd (cc h)

pub not_blank : (t : List ℕ) → is_filled t ≡ true → nat_eq (length t) 0 ≡ false
not_blank t h = grind (arith, nat_tests)

pub cell_reads : (info : Info) (v : Value) → fits info (Some v) ≡ true → value_of info (cell_text v) ≡ Ok (Some v)
unfolding value_of
cell_reads info v h =
    let plain : is_plain_text (cell_text v) ≡ true = cell_plain info.form v h in
    let filled : is_filled (cell_text v) ≡ true = (and_parts (is_filled (cell_text v)) (has_plain_ends (cell_text v)) plain).0 in
    let same : trimmed (cell_text v) ≡ cell_text v = trimmed_same (cell_text v) filled (and_parts (is_filled (cell_text v)) (has_plain_ends (cell_text v)) plain).1 in
    rw (same, not_blank (cell_text v) filled) (form_reads info.form info.required v h)
