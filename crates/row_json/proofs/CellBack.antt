-- A value that fits its field is read from its own JSON value.
use Rattle.std.proofs.Common.{◌≡◌, ◌&&◌, ◌==◌, ℕ, ℤ, pos, negsuc, Bool, true, false, List, [], ◌∷◌, Option, None, Some}
use Rattle.std.proofs.Common.{Result, Ok, length, map, not, nat_lt, option_map, refl}
use Rattle.std.proofs.lemmas.Bool.{and_parts, not-true}
use Rattle.std.proofs.lemmas.List.{map-id}
use Rattle.std.specs.List.{list_all}
use Rattle.serde_json.specs.Data.{Data, string}
use Rattle.serde_json.specs.View.{items_of}
use Rattle.roster_texts.specs.Texts.{has_plain_ends, is_id}
use Rattle.roster_texts.specs.Trim.{trimmed}
use Rattle.roster_values.specs.declared.kind.Kind.{Kind}
use Rattle.roster_values.specs.declared.value.Value.{Value}
use Rattle.roster_values.specs.declared.value.Value.TheVariants as value
use Rattle.roster_values.proofs.CellLaws.{cell_reads, id_item, id_plain, id_read}
use Rattle.roster_values.proofs.TrimLaws.{trimmed_same}
use Rattle.roster_values.proofs.UserLaws.{long_filled}
use Rattle.roster_values.specs.CellText.{cell_text, user_id_text}
use Rattle.roster_values.specs.Fit.{fits, fits_form, has_items, is_item, is_no_comma, is_plain_text, is_user_id_of}
use Rattle.roster_values.specs.Lists.{is_filled}
use Rattle.roster_values.specs.Table.{Form, Info, TextForm, IdForm, DayForm, MomentForm, NumberForm, YearForm, FlagForm}
use Rattle.roster_values.specs.Table.{WordForm, TextsForm, UserIdsForm, RefForm, RefsForm}
use Rattle.roster_values.specs.UserIds.{UserIdParts, is_identifier, is_identifier_byte, is_type, is_type_byte}
use Rattle.roster_values.specs.UserIds.{user_id_from}
use Rattle.roster_values.specs.Values.{value_of}
use Rattle.row_json.specs.CellTexts.{each, item_text, list_text, listed_id, listed_reference, text_of, user_id_part}
use Rattle.row_json.specs.CellTexts.{without_comma}
use Rattle.row_json.specs.Json.{reference_data, user_id_data, value_data}
use Rattle.row_json.specs.Reading.{field_in}

pub each-read : {A F : Type 0} (read : Data → Result (List ℕ) F) (made : A → Data) (text : A → List ℕ) (good : A → Bool) → ((x : A) → good x ≡ true → read (made x) ≡ Ok (text x))
    → (xs : List A) → list_all good xs ≡ true → each read (items_of (map made xs)) ≡ Ok (map text xs)
unfolding each
each-read read made text good h [] all = refl
each-read read made text good h (x ∷ xs) all =
    let p = and_parts (good x) (list_all good xs) all in
    rw (h x p.0, each-read read made text good h xs p.1) refl

item-read : (t : List ℕ) → is_item t ≡ true → item_text TextsForm (string t) ≡ Ok t
unfolding item_text without_comma
item-read t h = rw (and_parts (is_plain_text t) (list_all is_no_comma t) h).1 refl

pub id-trimmed : (id : List ℕ) → is_id id ≡ true → trimmed id ≡ id
id-trimmed id h = let p = and_parts (is_filled id) (has_plain_ends id) (id_plain id h) in trimmed_same id p.0 p.1

id-filled : (id : List ℕ) → is_id id ≡ true → (length id == 0) ≡ false
id-filled id h = not-true (length id == 0) (and_parts (is_filled id) (has_plain_ends id) (id_plain id h)).0

listed-read : (id : List ℕ) → is_id id ≡ true → listed_id id ≡ Ok id
unfolding listed_id
listed-read id h = rw (id-trimmed id h, id-filled id h) (id_read id h)

reference-read : (kind : Kind) (id : List ℕ) → is_id id ≡ true → item_text (RefsForm kind) (reference_data kind id) ≡ Ok id
unfolding item_text listed_reference without_comma
reference-read kind id h = rw (and_parts (is_plain_text id) (list_all is_no_comma id) (id_item id h)).1 (listed-read id h)

part-trimmed : (p : ℕ → Bool) (t : List ℕ) → (nat_lt 0 (length t) && (list_all p t && has_plain_ends t)) ≡ true → trimmed t ≡ t
part-trimmed p t h =
    let a = and_parts (nat_lt 0 (length t)) (list_all p t && has_plain_ends t) h in
    trimmed_same t (long_filled t a.0) (and_parts (list_all p t) (has_plain_ends t) a.1).1

user_id-read : (u : UserIdParts) → is_user_id_of u ≡ true → item_text UserIdsForm (user_id_data u) ≡ Ok (user_id_text u)
unfolding item_text user_id_part user_id_from
user_id-read u h =
    let p = and_parts (is_type u.form) (is_identifier u.identifier) h in
    rw (part-trimmed is_type_byte u.form p.0, part-trimmed is_identifier_byte u.identifier p.1, h) refl

number-text : (z : ℤ) → text_of NumberForm (value_data NumberForm (value.Number z)) ≡ Ok (cell_text (value.Number z))
unfolding text_of value_data cell_text
number-text (pos n) = refl
number-text (negsuc n) = refl

text-back : (form : Form) (v : Value) → fits_form form v ≡ true → text_of form (value_data form v) ≡ Ok (cell_text v)
unfolding text_of value_data cell_text list_text
text-back TextForm (value.Text t) h = refl
text-back IdForm (value.Id t) h = refl
text-back DayForm (value.Day z) h = refl
text-back MomentForm (value.Moment z) h = refl
text-back NumberForm (value.Number z) h = number-text z
text-back YearForm (value.Year y) h = refl
text-back FlagForm (value.Flag b) h = refl
text-back (WordForm words) (value.Word w) h = refl
text-back TextsForm (value.Texts ts) h = rw (each-read (item_text TextsForm) string (λ t. t) is_item item-read ts (and_parts (has_items ts) (list_all is_item ts) h).1, map-id ts) refl
text-back UserIdsForm (value.UserIds us) h = rw (each-read (item_text UserIdsForm) user_id_data user_id_text is_user_id_of user_id-read us (and_parts (has_items us) (list_all is_user_id_of us) h).1) refl
text-back (RefForm kind) (value.Ref t) h = refl
text-back (RefsForm kind) (value.Refs ts) h =
    rw (each-read (item_text (RefsForm kind)) (reference_data kind) (λ t. t) is_id (reference-read kind) ts (and_parts (has_items ts) (list_all is_id ts) h).1, map-id ts) refl
text-back form v h = absurd (cc h)

blank-back : (info : Info) (b : Bool) → info.required ≡ b → not b ≡ true → field_in info None ≡ Ok None
unfolding field_in value_of trimmed
blank-back info false e h = rw e refl
blank-back info true e h = cc h

-- the value of a field is read from its member, and no value from none
pub field-back : (info : Info) (o : Option Value) → fits info o ≡ true → field_in info (option_map (value_data info.form) o) ≡ Ok o
unfolding field_in
field-back info None h = blank-back info info.required refl h
field-back info (Some v) h = rw (text-back info.form v h) (cell_reads info v h)
