-- The length of a row's text.
use Rattle.std.proofs.Common.{◌≡◌, ◌≤◌, ◌+◌, ℕ, ℤ, pos, negsuc, List, [], ◌∷◌, Option, Some, None, codes, length, map}
use Rattle.std.proofs.Common.{refl, ap, ◌∙◌, arith}
use Rattle.std.proofs.lemmas.Cmp.{eq_by_cmp_equiv, nat_list_cmp_total}
use Rattle.std.proofs.lemmas.Map.Keys.{IsDistinct-from_sorted}
use Rattle.std.proofs.lemmas.Map.Made.{IsDistinct-from_count}
use Rattle.std.specs.Cmp.Lexicographic.{slice_cmp}
use Rattle.std.specs.Ordering.{nat_cmp}
use Rattle.std.specs.Set.{distinct_count}
use Rattle.serde_json.specs.Data.{Members, no_members, number, object, put, string}
use Rattle.serde_json.specs.Find.{of_integer}
use Rattle.serde_json.specs.Written.{compact_text}
use Rattle.roster_values.specs.declared.kind.Kind.{Kind}
use Rattle.roster_values.specs.declared.kind.Kind.TheVariants.{Orgs}
use Rattle.roster_values.specs.declared.value.Value.{Value}
use Rattle.roster_values.specs.declared.value.Value.TheVariants.{Number, Ref, Refs, Texts, UserIds, Word}
use Rattle.roster_values.specs.CellText.{cell_text}
use Rattle.roster_values.specs.Kinds.{single_of}
use Rattle.roster_values.specs.Table.{Form, Info, RefForm, RefsForm, WordForm, optional, statuses, table}
use Rattle.roster_values.specs.UserIds.{UserIdParts}
use Rattle.roster_types.specs.declared.metadata.Entry.{Entry}
use Rattle.roster_types.specs.declared.status.Status.{Status}
use Rattle.roster_types.specs.declared.status.Status.TheVariants.{Active, ToBeDeleted}
use Rattle.roster_types.specs.Hrefs.{href}
use Rattle.roster_types.specs.Lengths.{field_length, fields_length, metadata_length, object_length, reference_length}
use Rattle.roster_types.specs.Lengths.{row_length, text_length, user_id_length, value_length}
use Rattle.roster_types.specs.Records.{IsMetadata, Record, all_values, key_of, status_word}
use Rattle.roster_types.specs.Rows.{IsRow, longest}
use Rattle.roster_types.proofs.Fitting.{table-common}
use Rattle.row_json.specs.Json.{reference_data, row_data, row_members, row_text, user_id_data, value_data, with_entries}
use Rattle.row_json.specs.Json.{with_fields, with_metadata}
use Rattle.row_json.proofs.Puts.{AreNew, Lack, is_same, lack-none, new-put, new-skip, size-put, size-with_entries}
use Rattle.row_json.proofs.TextLengths.{array-length, object-length, quoted-length, size, size-none}

number-length : (z : ℤ) → length (compact_text (number (of_integer z))) ≡ length (cell_text (Number z))
unfolding cell_text
number-length (pos n) = refl
number-length (negsuc n) = refl

reference-length : (kind : Kind) (id : List ℕ) → length (compact_text (reference_data kind id)) ≡ reference_length kind id
unfolding size
reference-length kind id =
    object-length (put (codes "type") (string (single_of kind)) (put (codes "sourcedId") (string id) (put (codes "href") (string (href kind id)) no_members)))
    ∙ omega (arith, quoted-length (href kind id), quoted-length id, quoted-length (single_of kind))

user_id-length : (u : UserIdParts) → length (compact_text (user_id_data u)) ≡ user_id_length u
unfolding size
user_id-length u =
    object-length (put (codes "type") (string u.form) (put (codes "identifier") (string u.identifier) no_members))
    ∙ omega (arith, quoted-length u.identifier, quoted-length u.form)

value-length : (form : Form) (v : Value) → length (compact_text (value_data form v)) ≡ value_length form v
unfolding value_data value_length
value-length form (Number n) = number-length n
value-length form (Texts ts) = array-length string text_length quoted-length ts
value-length form (UserIds us) = array-length user_id_data user_id_length user_id-length us
value-length (RefForm kind) (Ref t) = reference-length kind t
value-length (RefsForm kind) (Refs ts) = array-length (reference_data kind) (reference_length kind) (reference-length kind) ts
value-length form v = quoted-length (cell_text v)

-- the names of fields, and that of the metadata
abbrev pub names : List Info → List (List ℕ)
names [] = codes "metadata" ∷ []
names (i ∷ is) = i.name ∷ names is

last_name : (is : List Info) (ms : Members) → Lack (names is) ms → Lack (codes "metadata" ∷ []) ms
last_name [] ms h = h
last_name (i ∷ is) ms h = last_name is ms h.1

size-with_metadata : (es : List Entry) (ms : Members) → IsMetadata es → Lack (codes "metadata" ∷ []) ms → size (with_metadata es ms) ≡ size ms + metadata_length es
unfolding with_metadata metadata_length
size-with_metadata [] ms m h = omega arith
size-with_metadata (e ∷ es) ms m h =
    let new : AreNew (map key_of (e ∷ es)) no_members = record { apart = IsDistinct-from_sorted (slice_cmp nat_cmp) _ m.rise; lacking = lack-none (map key_of (e ∷ es)) } in
    let inner = size-with_entries (e ∷ es) no_members new in
    let outer = object-length (with_entries (e ∷ es) no_members) in
    size-put (codes "metadata") (object (with_entries (e ∷ es) no_members)) ms h.0 ∙ omega (arith, inner, outer, size-none)

-- the fields and the metadata
size-with_fields : (es : List Entry) (is : List Info) (vs : List (Option Value)) (ms : Members) → IsMetadata es → AreNew (names is) ms
    → size (with_metadata es (with_fields is vs ms)) ≡ size ms + (fields_length is vs + metadata_length es)
unfolding with_fields fields_length field_length
size-with_fields es [] vs ms m h = size-with_metadata es ms m h.lacking ∙ omega arith
size-with_fields es (i ∷ is) [] ms m h = size-with_metadata es ms m (last_name (i ∷ is) ms h.lacking) ∙ omega arith
size-with_fields es (i ∷ is) (None ∷ vs) ms m h = size-with_fields es is vs ms m (new-skip i.name (names is) ms h) ∙ omega arith
size-with_fields es (i ∷ is) (Some v ∷ vs) ms m h =
    let put_here = size-put i.name (value_data i.form v) ms h.lacking.0 in
    let here = value-length i.form v in
    size-with_fields es is vs (put i.name (value_data i.form v) ms) m (new-put i.name (names is) (value_data i.form v) ms h) ∙ omega (arith, put_here, here)

many_names : (kind : Kind) → distinct_count is_same (names (table kind)) ≡ length (names (table kind))
many_names Orgs = refl
many_names _ = refl

-- which are all different
pub new_names : (kind : Kind) → AreNew (names (table kind)) no_members
new_names kind = record { apart = IsDistinct-from_count (eq_by_cmp_equiv nat_list_cmp_total) (names (table kind)) (many_names kind); lacking = lack-none (names (table kind)) }

row_text-length : (r : Record) → IsMetadata r.metadata → length (row_text None r) ≡ object_length r
unfolding row_text row_data row_members object_length
row_text-length r m =
    let inner = size-with_fields r.metadata (table r.kind) (all_values r) no_members m (new_names r.kind) in
    object-length (with_metadata r.metadata (with_fields (table r.kind) (all_values r) no_members)) ∙ omega (arith, inner, size-none)

-- the word of the status is longest where the row is to be deleted
status_shorter : (status : Status) → text_length (status_word status) ≤ text_length (status_word ToBeDeleted)
unfolding text_length
status_shorter Active = omega arith
status_shorter ToBeDeleted = omega arith

status_field : (i : Info) (status : Status) → field_length i (Some (Word (status_word status))) ≤ field_length i (Some (Word (status_word ToBeDeleted)))
unfolding field_length value_length cell_text
status_field i status = omega (arith, status_shorter status)

object_length-le : (r : Record) → object_length r ≤ row_length r
unfolding object_length fields_length
object_length-le r = rw (table-common r.kind) (omega (arith, status_field (optional (codes "status") (codes "status") (WordForm statuses)) r.status))

-- what is a row's text has the length that the row is said to have, within the bound
pub length_of_text : (r : Record) (s : List ℕ) → IsRow r → s ≡ row_text None r → (length s ≡ object_length r) × (length s ≤ longest)
length_of_text r s h is =
    let n : length s ≡ object_length r = ap length is ∙ row_text-length r h.fitting.metadata in
    (n, omega (arith, n, object_length-le r, h.short))
