-- A row is read from its own object, and its texts are read as the row.
use Rattle.std.proofs.Common.{◌≡◌, ◌≤◌, ◌+◌, ◌||◌, ℕ, Bool, true, false, List, [], ◌∷◌, Option, None, Some, Ok}
use Rattle.std.proofs.Common.{Ordering, Less, Equal, Greater, nat_cmp, codes, map, nat_lt, not, option_map, refl, sym}
use Rattle.std.proofs.Common.{ap, ◌∙◌, subst, arith, is_eq, true≢false}
use Rattle.std.proofs.lemmas.Bool.{and_parts, or_parts}
use Rattle.std.proofs.lemmas.Bool.Decides.{nat_tests}
use Rattle.std.proofs.lemmas.Cmp.{eq_by_cmp_equiv, nat_list_cmp_total, tied_itself}
use Rattle.std.proofs.lemmas.List.Elements.{All-head, All-tail}
use Rattle.std.specs.Cmp.Lexicographic.{slice_cmp}
use Rattle.std.specs.List.{All, AllByRecursion, IsDistinct, list_all}
use Rattle.std.specs.List.Sorted.{IsStrictlySortedBy}
use Rattle.std.specs.Ordering.{match_ordering}
use Rattle.std.specs.Prelude.{⊤}
use Rattle.std.specs.Str.{is_utf8}
use Rattle.serde_json.specs.Data.{Members, array, member, no_members, object, put, string}
use Rattle.serde_json.specs.Find.{get_member}
use Rattle.serde_json.specs.View.{items_of}
use Rattle.serde_json.proofs.Views.{get_member-put, get_member-put_other}
use Rattle.roster_base.specs.Order.{RiseBy}
use Rattle.roster_texts.specs.Texts.{has_plain_ends, is_id}
use Rattle.roster_values.specs.declared.kind.Kind.{Kind}
use Rattle.roster_values.specs.declared.mode.Mode.TheVariants.{Delta}
use Rattle.roster_values.specs.declared.value.Value.{Value}
use Rattle.roster_values.specs.declared.value.Value.TheVariants as value
use Rattle.roster_values.proofs.CellLaws.{not_blank}
use Rattle.roster_values.proofs.TrimLaws.{trimmed_same}
use Rattle.roster_values.specs.Fit.{fits, fits_form}
use Rattle.roster_values.specs.Kinds.{plural_of, single_of}
use Rattle.roster_values.specs.Lists.{is_filled}
use Rattle.roster_values.specs.Table.{Form, Info, NumberForm, RefForm, RefsForm, common, common_fields, info_in, table}
use Rattle.roster_values.specs.UserIds.{UserIdParts}
use Rattle.roster_types.specs.declared.metadata.Entry.{Entry}
use Rattle.roster_types.specs.declared.status.Status.{Status}
use Rattle.roster_types.specs.declared.status.Status.TheVariants.{Active, ToBeDeleted}
use Rattle.roster_types.specs.Hrefs.{href}
use Rattle.roster_types.specs.Lengths.{row_length}
use Rattle.roster_types.specs.Records.{IsMetadata, Record, all_values, has_plain_text, key_of, record_from, status_in}
use Rattle.roster_types.specs.Records.{status_word}
use Rattle.roster_types.specs.Rows.{IsRow, longest, row_from}
use Rattle.roster_types.specs.Shapes.{fits_all, own_fields}
use Rattle.roster_types.proofs.Fitting.{table-common}
use Rattle.row_json.specs.CellTexts.{each}
use Rattle.row_json.specs.Json.{collection_text, reference_data, row_data, row_members, single_text, user_id_data}
use Rattle.row_json.specs.Json.{value_data, with_entries, with_fields, with_metadata}
use Rattle.row_json.specs.Reading.{IsHeld, are_objects, collection_in, data_of, entries_in, entry_in, has_good_keys}
use Rattle.row_json.specs.Reading.{metadata_in, row_in, row_of, rows_of, single_in, values_in}
use Rattle.row_json.proofs.CellBack.{field-back}
use Rattle.row_json.proofs.Puts.{AreNew, Lack, has_name, is_same, new-put, new-skip}
use Rattle.row_json.proofs.ReadBack.{ItemsKept, Kept, MembersKept, Rising, array-kept, array-of, Below, behind}
use Rattle.row_json.proofs.ReadBack.{behind-none, behind-one, deeper, none-kept, number-kept, object-kept, put-kept}
use Rattle.row_json.proofs.ReadBack.{put-last, read-kept, string-kept}
use Rattle.row_json.proofs.RowLengths.{names, new_names}

-- ---- what is written is kept

text-put : (k t : List ℕ) (ms : Members) → MembersKept 0 ms → MembersKept 0 (put k (string t) ms)
text-put k t ms h = put-kept 0 k (string t) ms (string-kept 0 t) h

reference-kept : (kind : Kind) (id : List ℕ) → Kept 1 (reference_data kind id)
reference-kept kind id =
    object-kept 0 (put (codes "type") (string (single_of kind)) (put (codes "sourcedId") (string id) (put (codes "href") (string (href kind id)) no_members)))
    (text-put (codes "type") (single_of kind) _ (text-put (codes "sourcedId") id _ (text-put (codes "href") (href kind id) no_members (none-kept 0))))

user_id-kept : (u : UserIdParts) → Kept 1 (user_id_data u)
user_id-kept u =
    object-kept 0 (put (codes "type") (string u.form) (put (codes "identifier") (string u.identifier) no_members))
    (text-put (codes "type") u.form _ (text-put (codes "identifier") u.identifier no_members (none-kept 0)))

value-kept : (form : Form) (v : Value) → fits_form form v ≡ true → Kept 2 (value_data form v)
unfolding value_data
value-kept NumberForm (value.Number n) h = number-kept 2 n h
value-kept form (value.Number n) h = absurd (cc h)
value-kept form (value.Texts ts) h = array-kept 1 string (string-kept 1) ts
value-kept form (value.UserIds us) h = array-kept 1 user_id_data user_id-kept us
value-kept (RefForm kind) (value.Ref t) h = deeper 1 2 _ (omega arith) (reference-kept kind t)
value-kept (RefsForm kind) (value.Refs ts) h = array-kept 1 (reference_data kind) (reference-kept kind) ts
value-kept form v h = string-kept 2 _

fields-kept : (is : List Info) (vs : List (Option Value)) (ms : Members) → fits_all is vs ≡ true → MembersKept 2 ms → MembersKept 2 (with_fields is vs ms)
unfolding with_fields
fields-kept [] vs ms h k = k
fields-kept (i ∷ is) [] ms h k = k
fields-kept (i ∷ is) (None ∷ vs) ms h k = fields-kept is vs ms (and_parts _ _ h).1 k
fields-kept (i ∷ is) (Some v ∷ vs) ms h k =
    let p = and_parts (fits_form i.form v) (fits_all is vs) h in
    fields-kept is vs (put i.name (value_data i.form v) ms) p.1 (put-kept 2 i.name _ ms (value-kept i.form v p.0) k)

entries-kept : (es : List Entry) (ms : Members) → MembersKept 0 ms → MembersKept 0 (with_entries es ms)
unfolding with_entries
entries-kept [] ms k = k
entries-kept (e ∷ es) ms k = entries-kept es (put e.key (string e.text) ms) (text-put e.key e.text ms k)

metadata-kept : (es : List Entry) (ms : Members) → MembersKept 2 ms → MembersKept 2 (with_metadata es ms)
unfolding with_metadata
metadata-kept [] ms k = k
metadata-kept (e ∷ es) ms k = put-kept 2 (codes "metadata") _ ms (deeper 1 2 _ (omega arith) (object-kept 0 _ (entries-kept (e ∷ es) no_members (none-kept 0)))) k

row-kept : (r : Record) → IsRow r → Kept 3 (row_data None r)
unfolding row_data row_members
row-kept r h = object-kept 2 _ (metadata-kept r.metadata _ (fields-kept (table r.kind) (all_values r) no_members h.fitting.values (none-kept 2)))

-- ---- each member is found under its name

pub apart : (k q : List ℕ) → is_same k q ≡ false → q ≡ k → ⊥
apart k q differs e = true≢false (sym (ap is_eq (tied_itself nat_list_cmp_total k)) ∙ ap (is_same k) (sym e) ∙ differs)

lacks : (q : List ℕ) (ms : Members) → has_name q ms ≡ false → get_member q ms ≡ None
lacks q no_members h = refl
lacks q (member l d ms) h =
    let p = or_parts (is_same l q) (has_name q ms) h in
    by (slice_cmp nat_cmp q l) (sym ((eq_by_cmp_equiv nat_list_cmp_total).symm l q) ∙ p.0) (lacks q ms p.1)
  where
    by : (o : Ordering) → is_eq o ≡ false → get_member q ms ≡ None → match_ordering o (get_member q ms) (Some d) (get_member q ms) ≡ None
    by Less e rest = rest
    by Equal e rest = cc e
    by Greater e rest = rest

-- the members of other names change nothing of a name
metadata-other : (q : List ℕ) (es : List Entry) (ms : Members) → is_same q (codes "metadata") ≡ false → get_member q (with_metadata es ms) ≡ get_member q ms
unfolding with_metadata
metadata-other q [] ms h = refl
metadata-other q (e ∷ es) ms h = get_member-put_other q (codes "metadata") _ ms (λ same. apart q (codes "metadata") h (sym same))

rest-other : (q : List ℕ) (es : List Entry) (is : List Info) (vs : List (Option Value)) (ms : Members) → AllByRecursion (λ n. is_same q n ≡ false) (names is) → get_member q (with_metadata es (with_fields is vs ms)) ≡ get_member q ms
unfolding with_fields
rest-other q es [] vs ms h = metadata-other q es ms h.0
rest-other q es (i ∷ is) [] ms h = metadata-other q es ms (last is h.1)
  where
    last : (is : List Info) → AllByRecursion (λ n. is_same q n ≡ false) (names is) → is_same q (codes "metadata") ≡ false
    last [] h = h.0
    last (i ∷ is) h = last is h.1
rest-other q es (i ∷ is) (None ∷ vs) ms h = rest-other q es is vs ms h.1
rest-other q es (i ∷ is) (Some v ∷ vs) ms h = rest-other q es is vs (put i.name (value_data i.form v) ms) h.1 ∙ get_member-put_other q i.name _ ms (λ same. apart q i.name h.0 (sym same))

-- the members are those of the fields
abbrev Holds : List Info → List (Option Value) → Members → Type 0
Holds [] vs ms = ⊤
Holds (i ∷ is) [] ms = ⊤
Holds (i ∷ is) (v ∷ vs) ms = (get_member i.name ms ≡ option_map (value_data i.form) v) × Holds is vs ms

holds : (es : List Entry) (is : List Info) (vs : List (Option Value)) (ms : Members) → AreNew (names is) ms → Holds is vs (with_metadata es (with_fields is vs ms))
unfolding with_fields IsDistinct
holds es [] vs ms n = tt
holds es (i ∷ is) [] ms n = tt
holds es (i ∷ is) (None ∷ vs) ms n = (rest-other i.name es is vs ms n.apart.0 ∙ lacks i.name ms n.lacking.0, holds es is vs ms (new-skip i.name (names is) ms n))
holds es (i ∷ is) (Some v ∷ vs) ms n = (
  rest-other i.name es is vs (put i.name (value_data i.form v) ms) n.apart.0 ∙ get_member-put i.name (value_data i.form v) ms,
  holds es is vs (put i.name (value_data i.form v) ms) (new-put i.name (names is) (value_data i.form v) ms n),
)

no-metadata : (is : List Info) (vs : List (Option Value)) (ms : Members) → AreNew (names is) ms → get_member (codes "metadata") (with_fields is vs ms) ≡ None
unfolding with_fields
no-metadata [] vs ms n = lacks (codes "metadata") ms n.lacking.0
no-metadata (i ∷ is) [] ms n = lacks (codes "metadata") ms (last is n.lacking.1)
  where
    last : (is : List Info) → Lack (names is) ms → has_name (codes "metadata") ms ≡ false
    last [] h = h.0
    last (i ∷ is) h = last is h.1
no-metadata (i ∷ is) (None ∷ vs) ms n = no-metadata is vs ms (new-skip i.name (names is) ms n)
no-metadata (i ∷ is) (Some v ∷ vs) ms n = no-metadata is vs (put i.name (value_data i.form v) ms) (new-put i.name (names is) (value_data i.form v) ms n)

-- ---- the fields are read back

-- the values fit what a text must say
abbrev FitIn : ℕ → List Info → List (Option Value) → Type 0
FitIn place [] [] = ⊤
FitIn place [] (v ∷ vs) = ⊥
FitIn place (i ∷ is) [] = ⊥
FitIn place (i ∷ is) (v ∷ vs) = (fits (info_in Delta place i) v ≡ true) × FitIn (place + 1) is vs

own-fits : (place : ℕ) (i : Info) (v : Option Value) → nat_lt place common_fields ≡ false → fits i v ≡ true → fits (info_in Delta place i) v ≡ true
own-fits place i None past h = by i.required h
  where
    by : (b : Bool) → not b ≡ true → not (b || nat_lt place common_fields) ≡ true
    by false h = rw past refl
    by true h = cc h
own-fits place i (Some v) past h = h

own-fit : (place : ℕ) (is : List Info) (vs : List (Option Value)) → common_fields ≤ place → fits_all is vs ≡ true → FitIn place is vs
own-fit place [] [] past h = tt
own-fit place [] (v ∷ vs) past h = cc h
own-fit place (i ∷ is) [] past h = cc h
own-fit place (i ∷ is) (v ∷ vs) past h =
    let p = and_parts (fits i v) (fits_all is vs) h in
    (own-fits place i v (grind (arith, nat_tests)) p.0, own-fit (place + 1) is vs (omega (arith, past)) p.1)

common-fit : (own : List Info) (r : Record) → fits_all (common own) (all_values r) ≡ true → FitIn 0 (common own) (all_values r)
common-fit own r h =
    let a = and_parts _ _ h in
    let b = and_parts _ _ a.1 in
    let c = and_parts _ _ b.1 in
    (a.0, (b.0, (c.0, own-fit common_fields own r.values (omega arith) c.1)))

values-back : (place : ℕ) (is : List Info) (vs : List (Option Value)) (ms : Members) → Holds is vs ms → FitIn place is vs → values_in Delta place is (object ms) ≡ Ok vs
unfolding values_in
values-back place [] [] ms h f = refl
values-back place [] (v ∷ vs) ms h f = absurd f
values-back place (i ∷ is) [] ms h f = absurd f
values-back place (i ∷ is) (v ∷ vs) ms h f = rw (h.0, field-back (info_in Delta place i) v f.0, values-back (place + 1) is vs ms h.1 f.1) refl

-- ---- the metadata is read back

-- entries as members, in their order
unfoldable pub members_of : List Entry → Members
members_of [] = no_members
members_of (e ∷ es) = member e.key (string e.text) (members_of es)

in-turn : (es : List Entry) (front : Members) → Rising (behind front (members_of es)) → with_entries es front ≡ behind front (members_of es)
unfolding with_entries members_of
in-turn [] front h = sym (behind-none front)
in-turn (e ∷ es) front h =
    ap (with_entries es) (put-last front e.key (string e.text) (members_of es) h)
    ∙ in-turn es (behind front (member e.key (string e.text) no_members)) (subst Rising (sym (behind-one front e.key (string e.text) (members_of es))) h)
    ∙ behind-one front e.key (string e.text) (members_of es)

below-all : (k : List ℕ) (es : List Entry) → AllByRecursion (λ q. slice_cmp nat_cmp k q ≡ Less) (map key_of es) → Below k (members_of es)
unfolding members_of
below-all k [] h = tt
below-all k (e ∷ es) h = (h.0, below-all k es h.1)

entries-rise : (es : List Entry) → RiseBy key_of es → Rising (members_of es)
unfolding IsStrictlySortedBy members_of
entries-rise [] h = tt
entries-rise (e ∷ es) h = (below-all e.key es h.0, entries-rise es h.1)

-- metadata's members stand in the order of its entries
pub entries-in-turn : (es : List Entry) → RiseBy key_of es → with_entries es no_members ≡ members_of es
entries-in-turn es h = in-turn es no_members (entries-rise es h)

entries-back : (es : List Entry) → has_good_keys es ≡ true → list_all has_plain_text es ≡ true → entries_in (members_of es) ≡ Ok es
unfolding members_of entries_in entry_in
entries-back [] g p = refl
entries-back (e ∷ es) g p =
    let key = and_parts (is_id e.key) (has_good_keys es) g in
    let text = and_parts (has_plain_text e) (list_all has_plain_text es) p in
    let plain = and_parts (is_filled e.text) (has_plain_ends e.text) text.0 in
    rw (key.0, trimmed_same e.text plain.0 plain.1, not_blank e.text plain.0, entries-back es key.1 text.1) refl

metadata-back : (kind : Kind) (es : List Entry) (vs : List (Option Value)) → IsMetadata es → has_good_keys es ≡ true → metadata_in (get_member (codes "metadata") (with_metadata es (with_fields (table kind) vs no_members))) ≡ Ok es
unfolding metadata_in with_metadata
metadata-back kind [] vs m g = rw (no-metadata (table kind) vs no_members (new_names kind)) refl
metadata-back kind (e ∷ es) vs m g =
    rw (get_member-put (codes "metadata") (object (with_entries (e ∷ es) no_members)) (with_fields (table kind) vs no_members), in-turn (e ∷ es) no_members (entries-rise (e ∷ es) m.rise))
    (entries-back (e ∷ es) g m.plain)

-- ---- the row is read back

status-back : (status : Status) → status_in (Some (value.Word (status_word status))) ≡ status
status-back Active = refl
status-back ToBeDeleted = refl

record-back : (r : Record) → record_from r.kind (all_values r) r.metadata ≡ r
record-back r = rw (status-back r.status) refl

is-short : (r : Record) → row_length r ≤ longest → nat_lt longest (row_length r) ≡ false
is-short r h = grind (arith, nat_tests)

row-from-back : (r : Record) → row_length r ≤ longest → row_from r.kind (all_values r) r.metadata ≡ Some r
row-from-back r h = rw (record-back r, is-short r h) refl

pub row-back : (r : Record) → IsHeld r → row_in Delta r.kind (row_data None r) ≡ Ok r
unfolding row_in row_data row_members
row-back r h =
    let ms = with_metadata r.metadata (with_fields (table r.kind) (all_values r) no_members) in
    let fit : FitIn 0 (table r.kind) (all_values r) = rw (table-common r.kind) (common-fit (own_fields r.kind) r (rw (table-common r.kind) at h.row.fitting.values)) in
    rw (
      values-back 0 (table r.kind) (all_values r) ms (holds r.metadata (table r.kind) (all_values r) no_members (new_names r.kind)) fit,
      metadata-back r.kind r.metadata (all_values r) h.row.fitting.metadata h.keys,
      row-from-back r h.row.short,
    ) refl

-- ---- the texts are read back

pub single-back : (r : Record) (text : List ℕ) → IsHeld r → text ≡ single_text None r → is_utf8 text ≡ true → row_of r.kind text ≡ Ok r
unfolding row_of data_of single_in single_text row_data
single-back r text h e u =
    let kept = object-kept 3 _ (put-kept 3 (single_of r.kind) _ no_members (row-kept r h.row) (none-kept 3)) in
    rw (u, e, read-kept _ (deeper 4 127 _ (omega arith) kept), get_member-put (single_of r.kind) (row_data None r) no_members) (row-back r h)

pub rows-back : (kind : Kind) (rs : List Record) → All IsHeld rs → All (λ (r : Record). r.kind ≡ kind) rs → each (row_in Delta kind) (items_of (map (row_data None) rs)) ≡ Ok rs
unfolding each
rows-back kind [] h k = refl
rows-back kind (r ∷ rs) h k =
    let rest = rows-back kind rs (All-tail IsHeld r rs h) (All-tail (λ (r : Record). r.kind ≡ kind) r rs k) in
    rw (subst (λ l. row_in Delta l (row_data None r) ≡ Ok r) (All-head (λ (r : Record). r.kind ≡ kind) r rs k) (row-back r (All-head IsHeld r rs h)), rest) refl

pub rows-kept : (rs : List Record) → All IsHeld rs → ItemsKept 3 (items_of (map (row_data None) rs))
rows-kept [] h = tt
rows-kept (r ∷ rs) h = (row-kept r (All-head IsHeld r rs h).row, rows-kept rs (All-tail IsHeld r rs h))

pub all-objects : (rs : List Record) → are_objects (items_of (map (row_data None) rs)) ≡ true
unfolding row_data
all-objects [] = refl
all-objects (r ∷ rs) = all-objects rs

pub collection-back : (kind : Kind) (rs : List Record) (text : List ℕ) → All IsHeld rs → All (λ (r : Record). r.kind ≡ kind) rs → text ≡ collection_text None kind rs → is_utf8 text ≡ true → rows_of kind text ≡ Ok rs
unfolding rows_of data_of collection_in collection_text
collection-back kind rs text h k e u =
    let rows = array (items_of (map (row_data None) rs)) in
    let kept = object-kept 4 _ (put-kept 4 (plural_of kind) rows no_members (array-of 3 (items_of (map (row_data None) rs)) (rows-kept rs h)) (none-kept 4)) in
    rw (u, e, read-kept _ (deeper 5 127 _ (omega arith) kept), get_member-put (plural_of kind) rows no_members, all-objects rs) (rows-back kind rs h k)
