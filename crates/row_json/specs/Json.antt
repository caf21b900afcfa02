-- Rows as JSON.
use Rattle.std.specs.Prelude.{ℕ, Bool, List, [], ◌∷◌, Option, None, Some, bytes_eq, codes, map, if◌then◌else◌}
use Rattle.std.specs.List.{list_any}
use Rattle.serde_json.specs.Data.{Data, Members, array, member, no_members, number, object, put, string}
use Rattle.serde_json.specs.Find.{of_integer}
use Rattle.serde_json.specs.View.{items_of}
use Rattle.serde_json.specs.Written.{compact_text}
use Rattle.roster_values.specs.declared.kind.Kind.{Kind}
use Rattle.roster_values.specs.declared.value.Value.{Value}
use Rattle.roster_values.specs.declared.value.Value.TheVariants.{Number, Ref, Refs, Texts, UserIds}
use Rattle.roster_values.specs.CellText.{cell_text}
use Rattle.roster_values.specs.Kinds.{plural_of, single_of}
use Rattle.roster_values.specs.Table.{Form, Info, RefForm, RefsForm, table}
use Rattle.roster_values.specs.UserIds.{UserIdParts}
use Rattle.roster_types.specs.declared.metadata.Entry.{Entry}
use Rattle.roster_types.specs.Hrefs.{href}
use Rattle.roster_types.specs.Records.{Record, all_values}

-- a reference: where the row is found, its id and what it is
abbrev pub reference_data : Kind → List ℕ → Data
reference_data kind id = object (
    put (codes "type") (string (single_of kind))
    (put (codes "sourcedId") (string id)
    (put (codes "href") (string (href kind id)) no_members)))

abbrev pub user_id_data : UserIdParts → Data
user_id_data u = object (put (codes "type") (string u.form) (put (codes "identifier") (string u.identifier) no_members))

-- a value: a number as it is, lists as arrays, references and user ids as objects, and all else as a string of its
-- cell's text
unfoldable pub value_data : Form → Value → Data
value_data form (Number n) = number (of_integer n)
value_data form (Texts ts) = array (items_of (map string ts))
value_data form (UserIds us) = array (items_of (map user_id_data us))
value_data (RefForm kind) (Ref t) = reference_data kind t
value_data (RefsForm kind) (Refs ts) = array (items_of (map (reference_data kind) ts))
value_data form v = string (cell_text v)

-- the members with that of a field, where it is there
abbrev pub with_field : Info → Option Value → Members → Members
with_field info None ms = ms
with_field info (Some v) ms = put info.name (value_data info.form v) ms

-- the members with those of the fields, one after another
unfoldable pub with_fields : List Info → List (Option Value) → Members → Members
with_fields [] vs ms = ms
with_fields (i ∷ is) [] ms = ms
with_fields (i ∷ is) (v ∷ vs) ms = with_fields is vs (with_field i v ms)

-- the members with those of entries, one after another
unfoldable pub with_entries : List Entry → Members → Members
with_entries [] ms = ms
with_entries (e ∷ es) ms = with_entries es (put e.key (string e.text) ms)

-- the members with that of the metadata, where there is any
unfoldable pub with_metadata : List Entry → Members → Members
with_metadata [] ms = ms
with_metadata (e ∷ es) ms = put (codes "metadata") (object (with_entries (e ∷ es) no_members)) ms

-- the members of a row's object; they stand in ascending order of their names, as `put` keeps them
unfoldable pub row_members : Record → Members
row_members r = with_metadata r.metadata (with_fields (table r.kind) (all_values r) no_members)

abbrev pub is_named : List (List ℕ) → List ℕ → Bool
is_named names name = list_any (λ n. bytes_eq n name) names

-- the members whose names are among these
abbrev pub named : List (List ℕ) → Members → Members
named names no_members = no_members
named names (member k d ms) = if is_named names k then member k d (named names ms) else named names ms

-- the members that a choice of names leaves: all without one
abbrev pub chosen : Option (List (List ℕ)) → Members → Members
chosen None ms = ms
chosen (Some names) ms = named names ms

-- a row's object, of the chosen members
unfoldable pub row_data : Option (List (List ℕ)) → Record → Data
row_data only r = object (chosen only (row_members r))

-- its text, with no space
unfoldable pub row_text : Option (List (List ℕ)) → Record → List ℕ
row_text only r = compact_text (row_data only r)

-- a row under its kind's single word
unfoldable pub single_text : Option (List (List ℕ)) → Record → List ℕ
single_text only r = compact_text (object (put (single_of r.kind) (row_data only r) no_members))

-- rows of a kind under the kind's plural word
unfoldable pub collection_text : Option (List (List ℕ)) → Kind → List Record → List ℕ
collection_text only kind rs = compact_text (object (put (plural_of kind) (array (items_of (map (row_data only) rs))) no_members))
