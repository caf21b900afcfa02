-- Members put one after another into places that stand in the order of their names.
use Rattle.std.proofs.Common.{◌≡◌, ◌++◌, ℕ, zero, suc, Bool, true, false, List, [], ◌∷◌, Option, Some, None, Ordering}
use Rattle.std.proofs.Common.{Less, Equal, Greater, codes, flat_map, if◌then◌else◌, map, nat_cmp, option_map, get_or}
use Rattle.std.proofs.Common.{slice_get, refl, sym, ap, ◌∙◌, append_assoc}
use Rattle.std.proofs.lemmas.Bool.{and_parts}
use Rattle.std.specs.Cmp.Lexicographic.{slice_cmp}
use Rattle.std.specs.List.{list_all}
use Rattle.std.specs.Ordering.{match_ordering}
use Rattle.json.specs.Token.{Token, begin_object, end_object, key}
use Rattle.json.specs.Tree.{members_tokens}
use Rattle.roster_base.proofs.Sorting.{tied}
use Rattle.serde_json.specs.Data.{Data, Members, member, no_members, put}
use Rattle.serde_json.specs.Written.{members_outline}
use Rattle.roster_values.specs.declared.kind.Kind.{Kind}
use Rattle.roster_values.specs.declared.kind.Kind.TheVariants.{Orgs}
use Rattle.roster_values.specs.declared.value.Value.{Value}
use Rattle.roster_values.specs.Table.{Info, table}
use Rattle.roster_types.specs.declared.metadata.Entry.{Entry}
use Rattle.roster_types.specs.Records.{Record, all_values}
use Rattle.row_json.specs.Json.{chosen, is_named, named, row_data, row_members, value_data, with_field, with_fields}
use Rattle.row_json.specs.Json.{with_metadata}
use Rattle.row_json.specs.Tokens.{data_tokens, member_tokens, metadata_data, order_of, slot_at, slot_of, slot_tokens}

-- a name, and the value of its member where it is there
abbrev pub Slot : Type 0
Slot = List ℕ × Option Data

abbrev with_slot : List ℕ → Option Data → Members → Members
with_slot k None ms = ms
with_slot k (Some d) ms = member k d ms

-- the members that are there, in the order of the slots
unfoldable pub members_in : List Slot → Members
members_in [] = no_members
members_in (s ∷ ss) = with_slot s.0 s.1 (members_in ss)

names_in : List Slot → List (List ℕ)
names_in [] = []
names_in (s ∷ ss) = s.0 ∷ names_in ss

-- a name stands before all of these
is_before : List ℕ → List (List ℕ) → Bool
is_before k [] = true
is_before k (l ∷ ls) = match_ordering (slice_cmp nat_cmp k l) (is_before k ls) false false

-- a name is one of these, behind lower ones and before higher ones
has_place : List ℕ → List (List ℕ) → Bool
has_place k [] = false
has_place k (l ∷ ls) = match_ordering (slice_cmp nat_cmp k l) false (is_before k ls) (has_place k ls)

abbrev taken : Option Data → Option Data → Option Data
taken None new = new
taken (Some old) None = Some old
taken (Some old) (Some new) = Some new

-- the slots with a value in that of a name
fill : List ℕ → Option Data → List Slot → List Slot
fill k o [] = []
fill k o (s ∷ ss) = match_ordering (slice_cmp nat_cmp k s.0) (s ∷ ss) ((s.0, taken s.1 o) ∷ ss) (s ∷ fill k o ss)

put_before : (k : List ℕ) (d : Data) (ss : List Slot) → is_before k (names_in ss) ≡ true → put k d (members_in ss) ≡ member k d (members_in ss)
unfolding members_in names_in is_before
put_before k d [] h = refl
put_before k d (s ∷ ss) h = by (slice_cmp nat_cmp k s.0) s.1 refl (put_before k d ss) h
  where
    by : (c : Ordering) (o : Option Data) → slice_cmp nat_cmp k s.0 ≡ c → (is_before k (names_in ss) ≡ true → put k d (members_in ss) ≡ member k d (members_in ss))
        → match_ordering c (is_before k (names_in ss)) false false ≡ true → put k d (with_slot s.0 o (members_in ss)) ≡ member k d (with_slot s.0 o (members_in ss))
    by Less None e rest h = rest h
    by Less (Some f) e rest h = rw e refl
    by Equal o e rest h = cc h
    by Greater o e rest h = cc h

put_fills : (k : List ℕ) (d : Data) (ss : List Slot) → has_place k (names_in ss) ≡ true → put k d (members_in ss) ≡ members_in (fill k (Some d) ss)
unfolding members_in names_in has_place fill
put_fills k d [] h = cc h
put_fills k d (s ∷ ss) h = by (slice_cmp nat_cmp k s.0) s.1 refl (put_fills k d ss) h
  where
    by : (c : Ordering) (o : Option Data) → slice_cmp nat_cmp k s.0 ≡ c → (has_place k (names_in ss) ≡ true → put k d (members_in ss) ≡ members_in (fill k (Some d) ss))
        → match_ordering c false (is_before k (names_in ss)) (has_place k (names_in ss)) ≡ true
        → put k d (with_slot s.0 o (members_in ss)) ≡ members_in (match_ordering c ((s.0, o) ∷ ss) ((s.0, taken o (Some d)) ∷ ss) ((s.0, o) ∷ fill k (Some d) ss))
    by Less o e rest h = cc h
    by Equal None e rest h = put_before k d ss h ∙ ap (λ (q : List ℕ). member q d (members_in ss)) (tied k s.0 e)
    by Equal (Some f) e rest h = rw e refl
    by Greater None e rest h = rest h
    by Greater (Some f) e rest h = rw e (ap (member s.0 f) (rest h))

taken-none : (o : Option Data) → taken o None ≡ o
taken-none None = refl
taken-none (Some d) = refl

fill-none : (k : List ℕ) (ss : List Slot) → fill k None ss ≡ ss
unfolding fill
fill-none k [] = refl
fill-none k (s ∷ ss) = by (slice_cmp nat_cmp k s.0) (fill-none k ss)
  where
    by : (c : Ordering) → fill k None ss ≡ ss → match_ordering c (s ∷ ss) ((s.0, taken s.1 None) ∷ ss) (s ∷ fill k None ss) ≡ s ∷ ss
    by Less rest = refl
    by Equal rest = ap (λ (o : Option Data). (s.0, o) ∷ ss) (taken-none s.1)
    by Greater rest = ap (λ (l : List Slot). s ∷ l) rest

names-fill : (k : List ℕ) (o : Option Data) (ss : List Slot) → names_in (fill k o ss) ≡ names_in ss
unfolding names_in fill
names-fill k o [] = refl
names-fill k o (s ∷ ss) = by (slice_cmp nat_cmp k s.0) (names-fill k o ss)
  where
    by : (c : Ordering) → names_in (fill k o ss) ≡ names_in ss → names_in (match_ordering c (s ∷ ss) ((s.0, taken s.1 o) ∷ ss) (s ∷ fill k o ss)) ≡ s.0 ∷ names_in ss
    by Less rest = refl
    by Equal rest = refl
    by Greater rest = ap (λ (l : List (List ℕ)). s.0 ∷ l) rest

-- the members with one more, where it is there
abbrev put_some : List ℕ → Option Data → Members → Members
put_some k None ms = ms
put_some k (Some d) ms = put k d ms

fills : (k : List ℕ) (o : Option Data) (ss : List Slot) → has_place k (names_in ss) ≡ true → put_some k o (members_in ss) ≡ members_in (fill k o ss)
fills k None ss h = ap members_in (sym (fill-none k ss))
fills k (Some d) ss h = put_fills k d ss h

-- the slots with the values of fields
fill_fields : (ℕ → Option Value) → List Info → List Slot → List Slot
fill_fields f [] ss = ss
fill_fields f (i ∷ is) ss = fill_fields (λ n. f (suc n)) is (fill i.name (option_map (value_data i.form) (f zero)) ss)

have_places : List Info → List (List ℕ) → Bool
have_places is names = list_all (λ (i : Info). has_place i.name names) is

no_fields : (is : List Info) (ss : List Slot) → fill_fields (λ n. None) is ss ≡ ss
unfolding fill_fields
no_fields [] ss = refl
no_fields (i ∷ is) ss = ap (fill_fields (λ n. None) is) (fill-none i.name ss) ∙ no_fields is ss

field-some : (i : Info) (v : Option Value) (ms : Members) → with_field i v ms ≡ put_some i.name (option_map (value_data i.form) v) ms
field-some i None ms = refl
field-some i (Some v) ms = refl

fields-fill : (is : List Info) (vs : List (Option Value)) (ss : List Slot) → have_places is (names_in ss) ≡ true → with_fields is vs (members_in ss) ≡ members_in (fill_fields (λ n. get_or vs n None) is ss)
unfolding with_fields fill_fields have_places
fields-fill [] vs ss h = refl
fields-fill (i ∷ is) [] ss h = ap members_in (sym (no_fields (i ∷ is) ss))
fields-fill (i ∷ is) (v ∷ vs) ss h =
    let p = and_parts (has_place i.name (names_in ss)) (have_places is (names_in ss)) h in
    let o = option_map (value_data i.form) v in
    ap (with_fields is vs) (field-some i v (members_in ss) ∙ fills i.name o ss p.0)
    ∙ fields-fill is vs (fill i.name o ss) (ap (have_places is) (names-fill i.name o ss) ∙ p.1)

names-fields : (f : ℕ → Option Value) (is : List Info) (ss : List Slot) → names_in (fill_fields f is ss) ≡ names_in ss
unfolding fill_fields
names-fields f [] ss = refl
names-fields f (i ∷ is) ss = names-fields (λ n. f (suc n)) is (fill i.name (option_map (value_data i.form) (f zero)) ss) ∙ names-fill i.name (option_map (value_data i.form) (f zero)) ss

metadata-some : (es : List Entry) (ms : Members) → with_metadata es ms ≡ put_some (codes "metadata") (metadata_data es) ms
unfolding with_metadata
metadata-some [] ms = refl
metadata-some (e ∷ es) ms = refl

-- the slots of a kind, with no value
blank : Kind → List Slot
blank kind = map (λ place. ((slot_of [] None (slice_get (table kind) place)).0, None)) (order_of kind)

blank-none : (kind : Kind) → members_in (blank kind) ≡ no_members
unfolding members_in blank
blank-none Orgs = refl
blank-none _ = refl

blank-fields : (kind : Kind) → have_places (table kind) (names_in (blank kind)) ≡ true
unfolding have_places has_place is_before names_in blank
blank-fields Orgs = refl
blank-fields _ = refl

blank-metadata : (kind : Kind) → has_place (codes "metadata") (names_in (blank kind)) ≡ true
unfolding has_place is_before names_in blank
blank-metadata Orgs = refl
blank-metadata _ = refl

-- filled in the order of the fields, they have the values by the order of the names
filled : (kind : Kind) (vs : List (Option Value)) (es : List Entry) → fill (codes "metadata") (metadata_data es) (fill_fields (λ n. get_or vs n None) (table kind) (blank kind))
    ≡ map (λ place. slot_of es (get_or vs place None) (slice_get (table kind) place)) (order_of kind)
unfolding fill fill_fields blank
filled Orgs vs es = refl
filled _ vs es = refl

-- a row's members stand in the order of the names
members-row : (r : Record) → row_members r ≡ members_in (map (slot_at r) (order_of r.kind))
unfolding row_members
members-row r =
    let filled_fields = fill_fields (λ n. get_or (all_values r) n None) (table r.kind) (blank r.kind) in
    ap (λ (ms : Members). with_metadata r.metadata (with_fields (table r.kind) (all_values r) ms)) (sym (blank-none r.kind))
    ∙ ap (with_metadata r.metadata) (fields-fill (table r.kind) (all_values r) (blank r.kind) (blank-fields r.kind))
    ∙ metadata-some r.metadata (members_in filled_fields)
    ∙ fills (codes "metadata") (metadata_data r.metadata) filled_fields
    (ap (has_place (codes "metadata")) (names-fields (λ n. get_or (all_values r) n None) (table r.kind) (blank r.kind)) ∙ blank-metadata r.kind)
    ∙ ap members_in (filled r.kind (all_values r) r.metadata)

-- ---- their tokens

all-tokens : (ss : List Slot) → members_tokens (members_outline (members_in ss)) ≡ flat_map (slot_tokens None) ss ++ end_object ∷ []
unfolding members_in slot_tokens
all-tokens [] = refl
all-tokens (s ∷ ss) = by s.1 (all-tokens ss)
  where
    by : (o : Option Data) → members_tokens (members_outline (members_in ss)) ≡ flat_map (slot_tokens None) ss ++ end_object ∷ []
        → members_tokens (members_outline (with_slot s.0 o (members_in ss))) ≡ (member_tokens s.0 o ++ flat_map (slot_tokens None) ss) ++ end_object ∷ []
    by None rest = rest
    by (Some d) rest =
        ap (λ (ts : List Token). key s.0 ∷ (data_tokens d ++ ts)) rest
        ∙ ap (λ (ts : List Token). key s.0 ∷ ts) (sym (append_assoc (data_tokens d) (flat_map (slot_tokens None) ss) (end_object ∷ [])))

named-tokens : (names : List (List ℕ)) (ss : List Slot) → members_tokens (members_outline (named names (members_in ss))) ≡ flat_map (slot_tokens (Some names)) ss ++ end_object ∷ []
unfolding members_in slot_tokens
named-tokens names [] = refl
named-tokens names (s ∷ ss) = by s.1 (is_named names s.0) refl (named-tokens names ss)
  where
    by : (o : Option Data) (b : Bool) → is_named names s.0 ≡ b → members_tokens (members_outline (named names (members_in ss))) ≡ flat_map (slot_tokens (Some names)) ss ++ end_object ∷ []
        → members_tokens (members_outline (named names (with_slot s.0 o (members_in ss)))) ≡ ((if b then member_tokens s.0 o else []) ++ flat_map (slot_tokens (Some names)) ss) ++ end_object ∷ []
    by None true e rest = rest
    by None false e rest = rest
    by (Some d) false e rest = rw e rest
    by (Some d) true e rest = rw e (
        ap (λ (ts : List Token). key s.0 ∷ (data_tokens d ++ ts)) rest
        ∙ ap (λ (ts : List Token). key s.0 ∷ ts) (sym (append_assoc (data_tokens d) (flat_map (slot_tokens (Some names)) ss) (end_object ∷ [])))
        )

chosen-tokens : (only : Option (List (List ℕ))) (ss : List Slot) → members_tokens (members_outline (chosen only (members_in ss))) ≡ flat_map (slot_tokens only) ss ++ end_object ∷ []
chosen-tokens None ss = all-tokens ss
chosen-tokens (Some names) ss = named-tokens names ss

through : {A B C : Type 0} (f : B → List C) (g : A → B) (xs : List A) → flat_map f (map g xs) ≡ flat_map (λ x. f (g x)) xs
through f g [] = refl
through f g (x ∷ xs) = ap (λ (l : List _). f (g x) ++ l) (through f g xs)

-- a row's object is written member by member in the order of the names
pub row_tokens : (only : Option (List (List ℕ))) (r : Record) → data_tokens (row_data only r) ≡ begin_object ∷ (flat_map (λ place. slot_tokens only (slot_at r place)) (order_of r.kind) ++ end_object ∷ [])
unfolding row_data
row_tokens only r = ap (λ (ts : List Token). begin_object ∷ ts) (
    ap (λ (ms : Members). members_tokens (members_outline (chosen only ms))) (members-row r)
    ∙ chosen-tokens only (map (slot_at r) (order_of r.kind))
    ∙ ap (λ (ts : List Token). ts ++ end_object ∷ []) (through (slot_tokens only) (slot_at r) (order_of r.kind))
    )
