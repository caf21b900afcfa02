-- Lengths are within bounds that look at no byte.
use Rattle.std.proofs.Common.{◌≡◌, ◌<◌, ◌≤◌, ◌+◌, ◌-◌, ◌*◌, ◌/◌, ◌%◌, ◌++◌, ◌==◌, ℕ, ℤ, suc, pos, negsuc, Bool, true}
use Rattle.std.proofs.Common.{false, List, [], ◌∷◌, Option, None, codes, cond, drop, get_or, length, min, sum_by, refl}
use Rattle.std.proofs.Common.{arith, add-one}
use Rattle.std.proofs.lemmas.Bool.Decides.{nat_tests}
use Rattle.std.proofs.lemmas.Fmt.{length-decimal-le}
use Rattle.std.proofs.lemmas.List.Sums.{sum_by-append, sum_by-cons}
use Rattle.std.specs.Fmt.{digit_glyph, signed_decimal}
use Rattle.std.specs.List.{flat_map}
use Rattle.percent_encoding.specs.Percent.{percent_encode_byte}
use Rattle.roster_texts.specs.Days.{day_text}
use Rattle.roster_texts.specs.Digits.{four}
use Rattle.roster_texts.specs.Moments.{moment_text}
use Rattle.roster_texts.specs.Numbers.{is_number}
use Rattle.roster_texts.proofs.NumberTexts.{small_neg, small_pos}
use Rattle.roster_values.specs.declared.kind.Kind.{Kind}
use Rattle.roster_values.specs.declared.kind.Kind.TheVariants.{Orgs}
use Rattle.roster_values.specs.declared.value.Value.{Value}
use Rattle.roster_values.specs.declared.value.Value.TheVariants.{Day, Flag, Moment, Number, Year}
use Rattle.roster_values.specs.CellText.{cell_text, flag_text}
use Rattle.roster_values.specs.Fit.{fits_form}
use Rattle.roster_values.specs.Kinds.{plural_of, single_of}
use Rattle.roster_values.specs.Table.{Form, Info, TextForm, IdForm, DayForm, MomentForm, NumberForm, YearForm, FlagForm}
use Rattle.roster_values.specs.Table.{WordForm, TextsForm, UserIdsForm, RefForm, RefsForm}
use Rattle.roster_types.specs.declared.metadata.Entry.{Entry}
use Rattle.roster_types.specs.Bounds.{IsBound}
use Rattle.roster_types.specs.Hrefs.{encoded_byte, href, is_unreserved}
use Rattle.roster_types.specs.Lengths.{entry_length, escaped_length, field_length, fields_length, metadata_length}
use Rattle.roster_types.specs.Lengths.{reference_length, text_length, value_length}
use Rattle.roster_types.proofs.Dates.{moment_bytes}
use Rattle.roster_types.proofs.MetadataLaws.{metadata_length-some}
use Rattle.roster_types.proofs.Sums.{fields_length-drop, fields_length-end}

byte_most : (b : ℕ) → escaped_length b ≤ 6
byte_most b = grind (arith, nat_tests)

bytes_most : (t : List ℕ) → sum_by escaped_length t ≤ 6 * length t
bytes_most [] = omega arith
bytes_most (b ∷ t) = omega (arith, byte_most b, bytes_most t, sum_by-cons escaped_length b t)

-- each byte of a text takes six in a string at most
pub text_most : (t : List ℕ) → text_length t ≤ 2 + 6 * length t
unfolding text_length
text_most t = omega (arith, bytes_most t)

glyph_one : (d : ℕ) → d < 16 → escaped_length (digit_glyph true d) ≡ 1
glyph_one d h = grind (arith, nat_tests, h)

escape_most : (b : ℕ) → sum_by escaped_length (percent_encode_byte b) ≤ 3
unfolding percent_encode_byte
escape_most b = omega (arith, glyph_one (b / 16 % 16) (omega arith), glyph_one (b % 16) (omega arith))

kept_one : (b : ℕ) → is_unreserved b ≡ true → escaped_length b ≡ 1
kept_one b h = grind (arith, nat_tests, h)

encoded_by : (b : ℕ) (kept : Bool) → is_unreserved b ≡ kept → sum_by escaped_length (cond kept (b ∷ []) (percent_encode_byte b)) ≤ 3
encoded_by b true e = omega (arith, kept_one b e)
encoded_by b false e = escape_most b

encoded_most : (t : List ℕ) → sum_by escaped_length (flat_map encoded_byte t) ≤ 3 * length t
encoded_most [] = omega arith
encoded_most (b ∷ t) =
    omega (arith, sum_by-append escaped_length (encoded_byte b) (flat_map encoded_byte t), encoded_by b (is_unreserved b) refl, encoded_most t)

plural_plain : (kind : Kind) → sum_by escaped_length (plural_of kind) ≡ length (plural_of kind)
plural_plain Orgs = refl
plural_plain _ = refl

single_plain : (kind : Kind) → text_length (single_of kind) ≡ 2 + length (single_of kind)
unfolding text_length
single_plain Orgs = refl
single_plain _ = refl

path_sum : (kind : Kind) (t : List ℕ) → sum_by escaped_length (codes "/ims/oneroster/v1p1/" ++ plural_of kind ++ codes "/" ++ t) ≡ 21 + length (plural_of kind) + sum_by escaped_length t
path_sum kind t =
    let base : sum_by escaped_length (codes "/ims/oneroster/v1p1/") ≡ 20 = refl in
    let one : sum_by escaped_length (codes "/") ≡ 1 = refl in
    let words = sum_by-append escaped_length (codes "/ims/oneroster/v1p1/") (plural_of kind) in
    let front = sum_by-append escaped_length (codes "/ims/oneroster/v1p1/" ++ plural_of kind) (codes "/") in
    let whole = sum_by-append escaped_length (codes "/ims/oneroster/v1p1/" ++ plural_of kind ++ codes "/") t in
    omega (arith, base, one, words, front, whole, plural_plain kind)

href_sum : (kind : Kind) (id : List ℕ) → sum_by escaped_length (href kind id) ≡ 21 + length (plural_of kind) + sum_by escaped_length (flat_map encoded_byte id)
unfolding href
href_sum kind id = path_sum kind (flat_map encoded_byte id)

href_most : (kind : Kind) (id : List ℕ) → text_length (href kind id) ≤ 23 + length (plural_of kind) + 3 * length id
unfolding text_length
href_most kind id = omega (arith, href_sum kind id, encoded_most id)

names_fixed : (text_length (codes "href") ≡ 6) × ((text_length (codes "sourcedId") ≡ 11) × (text_length (codes "type") ≡ 6))
unfolding text_length
names_fixed = (refl, (refl, refl))

pub reference_most : (kind : Kind) (id : List ℕ) → reference_length kind id ≤ 57 + length (plural_of kind) + length (single_of kind) + 9 * length id
reference_most kind id = omega (arith, href_most kind id, text_most id, single_plain kind, names_fixed.0, names_fixed.1.0, names_fixed.1.1)

day_bytes : (day : ℤ) → length (day_text day) ≡ 10
unfolding day_text
day_bytes day = refl

pub day_bound : (form : Form) (day : ℤ) → IsBound 146 (value_length form (Day day))
unfolding value_length cell_text
day_bound form day =
    let most : text_length (day_text day) ≤ 146 = omega (arith, text_most (day_text day), day_bytes day) in
    record { small = omega arith; above = omega (arith, most) }

pub moment_bound : (form : Form) (moment : ℤ) → IsBound 146 (value_length form (Moment moment))
unfolding value_length cell_text
moment_bound form moment =
    let most : text_length (moment_text moment) ≤ 146 = omega (arith, text_most (moment_text moment), moment_bytes moment) in
    record { small = omega arith; above = omega (arith, most) }

pub year_bound : (form : Form) (year : ℕ) → IsBound 146 (value_length form (Year year))
unfolding value_length cell_text
year_bound form year =
    let bytes : length (four year) ≡ 4 = refl in
    let most : text_length (four year) ≤ 146 = omega (arith, text_most (four year), bytes) in
    record { small = omega arith; above = omega (arith, most) }

flag_most : (flag : Bool) → text_length (flag_text flag) ≤ 146
flag_most true = omega (arith, text_most (codes "true"))
flag_most false = omega (arith, text_most (codes "false"))

pub flag_bound : (form : Form) (flag : Bool) → IsBound 146 (value_length form (Flag flag))
unfolding value_length cell_text
flag_bound form flag = record { small = omega arith; above = omega (arith, flag_most flag) }

number_in : (form : Form) (n : ℤ) → fits_form form (Number n) ≡ true → is_number n ≡ true
number_in TextForm n h = cc h
number_in IdForm n h = cc h
number_in DayForm n h = cc h
number_in MomentForm n h = cc h
number_in NumberForm n h = h
number_in YearForm n h = cc h
number_in FlagForm n h = cc h
number_in (WordForm words) n h = cc h
number_in TextsForm n h = cc h
number_in UserIdsForm n h = cc h
number_in (RefForm kind) n h = cc h
number_in (RefsForm kind) n h = cc h

number_most : (n : ℤ) → is_number n ≡ true → length (signed_decimal n) ≤ 13
number_most (pos n) h =
    let small = small_pos n h in
    let most = length-decimal-le 12 n (omega arith) small (omega (arith, small)) in
    omega (arith, most)
number_most (negsuc n) h =
    let small = small_neg n h in
    let most = length-decimal-le 12 (suc n) (omega arith) small (omega (arith, small)) in
    omega (arith, most)

pub number_bound : (form : Form) (n : ℤ) → fits_form form (Number n) ≡ true → IsBound 146 (value_length form (Number n))
unfolding value_length cell_text
number_bound form n h = let most = number_most n (number_in form n h) in record { small = omega arith; above = omega (arith, most) }

metadata_named : text_length (codes "metadata") ≡ 10
unfolding text_length
metadata_named = refl

pub metadata_most : (es : List Entry) → metadata_length es ≤ 12 + (2 + (sum_by (λ e. entry_length e + 1) es - 1))
unfolding metadata_length
metadata_most [] = omega arith
metadata_most (e ∷ es) =
    let some : (length (e ∷ es) == 0) ≡ false = grind (arith, nat_tests) in
    omega (arith, metadata_length-some (e ∷ es) some, metadata_named)

-- how far a bound of the fields has come: with what is left it is no less than the whole
pub record BoundSums (is : List Info) (vs : List (Option Value)) (place sum : ℕ) : Type 0 where
  pub small : sum ≤ 100000
  pub above : min (fields_length is vs) 100000 ≤ sum + fields_length (drop place is) (drop place vs)

pub bounds-start : (is : List Info) (vs : List (Option Value)) → BoundSums is vs 0 0
bounds-start is vs = record { small = omega arith; above = omega arith }

pub bounds-on : (is : List Info) (vs : List (Option Value)) (place sum member new : ℕ) (d : Info) → BoundSums is vs place sum → place < length is → length is ≡ length vs
    → IsBound member (field_length (get_or is place d) (get_or vs place None)) → new ≡ min (sum + member) 100000 → BoundSums is vs (place + 1) new
bounds-on is vs place sum member new d s l e m n =
    let cut = fields_length-drop is vs place d l e in
    record {
      small = omega arith;
      above = rw add-one (omega (arith, cut, s.above, s.small, m.small, m.above, n));
    }

pub bounds-end : (is : List Info) (vs : List (Option Value)) (place sum : ℕ) → BoundSums is vs place sum → length is ≤ place → IsBound sum (fields_length is vs)
bounds-end is vs place sum s h =
    let none = fields_length-end is vs place h in
    record { small = s.small; above = omega (arith, none, s.above) }
