-- What JSON texts say of rows.
use Rattle.std.specs.Prelude.{◌≡◌, ◌+◌, ◌==◌, ◌&&◌, ℕ, Bool, true, List, [], ◌∷◌, Option, None, Some, Result, Ok, Err}
use Rattle.std.specs.Prelude.{codes, is_some, length, option_and_then, if◌then◌else◌}
use Rattle.std.specs.List.{list_all}
use Rattle.std.specs.Str.{is_utf8}
use Rattle.serde_json.specs.Data.{Data, Items, Members, item, member, no_items, no_members}
use Rattle.serde_json.specs.Find.{as_array, as_object, as_str, get}
use Rattle.serde_json.specs.Read.{read}
use Rattle.roster_base.specs.Reading.{◌>>=◌}
use Rattle.roster_texts.specs.declared.fault.ValueFault.{ValueFault}
use Rattle.roster_texts.specs.declared.fault.ValueFault.TheVariants.{BadList, TooLong}
use Rattle.roster_texts.specs.Results.{found_or}
use Rattle.roster_texts.specs.Texts.{is_id}
use Rattle.roster_texts.specs.Trim.{trimmed}
use Rattle.roster_values.specs.declared.kind.Kind.{Kind}
use Rattle.roster_values.specs.declared.mode.Mode.{Mode}
use Rattle.roster_values.specs.declared.mode.Mode.TheVariants.{Delta}
use Rattle.roster_values.specs.declared.value.Value.{Value}
use Rattle.roster_values.specs.Kinds.{plural_of, single_of}
use Rattle.roster_values.specs.Table.{Info, info_in, table}
use Rattle.roster_values.specs.Values.{value_of}
use Rattle.roster_types.specs.declared.metadata.Entry.{Entry}
use Rattle.roster_types.specs.Records.{Record}
use Rattle.roster_types.specs.Rows.{IsRow, row_from}
use Rattle.row_json.specs.declared.fault.JsonFault.{JsonFault}
use Rattle.row_json.specs.declared.fault.JsonFault.TheVariants.{Field, NotJson, Shape}
use Rattle.row_json.specs.CellTexts.{each, text_of}

-- the value of a field from that of its member: one that isn't there is blank
unfoldable pub field_in : Info → Option Data → Result (Option Value) ValueFault
field_in info None = value_of info []
field_in info (Some d) = do
  text ← text_of info.form d
  value_of info text

-- the fault of a member, under its name
abbrev pub in_member : {A : Type 0} → List ℕ → Result A ValueFault → Result A JsonFault
in_member name (Ok x) = Ok x
in_member name (Err fault) = Err (Field name fault)

-- the values of the fields in their order, or the first bad one
unfoldable pub values_in : Mode → ℕ → List Info → Data → Result (List (Option Value)) JsonFault
values_in mode place [] d = Ok []
values_in mode place (i ∷ is) d = do
  value ← in_member i.name (field_in (info_in mode place i) (get i.name d))
  values ← values_in mode (place + 1) is d
  Ok (value ∷ values)

-- the entry of a string, none where it is blank
abbrev pub entry_from : List ℕ → List ℕ → Option Entry
entry_from key text = if length text == 0 then None else Some (record { key = key; text = text })

-- the entry that a member of the metadata says: a string under a good key
unfoldable pub entry_in : List ℕ → Option (List ℕ) → Result (Option Entry) ValueFault
entry_in key None = Err BadList
entry_in key (Some text) = if is_id key then Ok (entry_from key (trimmed text)) else Err BadList

abbrev pub with_entry : Option Entry → List Entry → List Entry
with_entry None es = es
with_entry (Some e) es = e ∷ es

unfoldable pub entries_in : Members → Result (List Entry) ValueFault
entries_in no_members = Ok []
entries_in (member k d ms) = do
  entry ← entry_in k (as_str d)
  entries ← entries_in ms
  Ok (with_entry entry entries)

-- the metadata from the value of its member: an object, where it is there
unfoldable pub metadata_in : Option Data → Result (List Entry) ValueFault
metadata_in None = Ok []
metadata_in (Some d) = found_or BadList (as_object d) >>= entries_in

-- a row that isn't too long
abbrev pub unless_long : Option Record → Result Record JsonFault
unless_long row = found_or (Field (codes "*") TooLong) row

-- the row that an object says: its fields, its metadata and its length, or the first fault of these
unfoldable pub row_in : Mode → Kind → Data → Result Record JsonFault
row_in mode kind d = do
  values ← values_in mode 0 (table kind) d
  metadata ← in_member (codes "metadata") (metadata_in (get (codes "metadata") d))
  unless_long (row_from kind values metadata)

abbrev pub is_object : Data → Bool
is_object d = is_some (as_object d)

abbrev pub are_objects : Items → Bool
are_objects no_items = true
are_objects (item d ds) = is_object d && are_objects ds

-- the value under a key, where it is an object
abbrev pub object_under : Option Data → Result Data JsonFault
object_under None = Err Shape
object_under (Some d) = if is_object d then Ok d else Err Shape

-- the values under a key, where they are objects
abbrev pub objects_under : Option Items → Result Items JsonFault
objects_under None = Err Shape
objects_under (Some ds) = if are_objects ds then Ok ds else Err Shape

-- the row under the single word of its kind
unfoldable pub single_in : Mode → Kind → Data → Result Record JsonFault
single_in mode kind d = object_under (get (single_of kind) d) >>= row_in mode kind

-- the rows under the plural word of their kind
unfoldable pub collection_in : Mode → Kind → Data → Result (List Record) JsonFault
collection_in mode kind d = objects_under (option_and_then as_array (get (plural_of kind) d)) >>= each (row_in mode kind)

-- the keys of metadata are good, as those that a row holds are
abbrev pub has_good_keys : List Entry → Bool
has_good_keys es = list_all (λ e. is_id e.key) es

-- a record that stands for a row: its metadata has good keys too
pub record IsHeld (r : Record) : Type 0 where
  pub row : IsRow r
  pub keys : has_good_keys r.metadata ≡ true

-- the value of a text, as far as `serde_json` reads it
unfoldable pub data_of : List ℕ → Result Data JsonFault
data_of bytes = if is_utf8 bytes then found_or NotJson (read bytes) else Err NotJson

-- the row of a single text. It says its status and its date
unfoldable pub row_of : Kind → List ℕ → Result Record JsonFault
row_of kind bytes = data_of bytes >>= single_in Delta kind

-- the rows of a collection's text
unfoldable pub rows_of : Kind → List ℕ → Result (List Record) JsonFault
rows_of kind bytes = data_of bytes >>= collection_in Delta kind
