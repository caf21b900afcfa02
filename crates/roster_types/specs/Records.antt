-- A row as contracts see it: its kind, the fields that every kind has, the values of its own fields by their places,
-- and its metadata.
use Rattle.std.specs.Prelude.{◌≡◌, ℕ, ℤ, pos, Bool, true, List, [], ◌∷◌, Option, None, Some, codes, bytes_eq, drop}
use Rattle.std.specs.Prelude.{is_some, option_and_then, position, slice_index_or, if◌then◌else◌}
use Rattle.std.specs.List.{list_all}
use Rattle.roster_base.specs.Order.{RiseBy}
use Rattle.roster_types.specs.declared.metadata.Entry.{Entry}
use Rattle.roster_types.specs.declared.status.Status.{Status}
use Rattle.roster_types.specs.declared.status.Status.TheVariants.{Active, ToBeDeleted}
use Rattle.roster_values.specs.declared.kind.Kind.{Kind}
use Rattle.roster_values.specs.declared.value.Value.{Value}
use Rattle.roster_values.specs.declared.value.Value.TheVariants.{Id, Moment, Word}
use Rattle.roster_texts.specs.Texts.{is_id}
use Rattle.roster_values.specs.Fit.{is_plain_text}
use Rattle.roster_values.specs.Table.{Info, common_fields, table}
use Rattle.roster_types.specs.Shapes.{fits_all}

-- a row
pub record Record : Type 0 where
  pub kind : Kind
  pub id : List ℕ
  pub status : Status
  pub modified : ℤ
  pub values : List (Option Value)
  pub metadata : List Entry

-- the standard's word for a status
abbrev pub status_word : Status → List ℕ
status_word Active = codes "active"
status_word ToBeDeleted = codes "tobedeleted"

-- the values of all fields of the row, in the order of the field table
abbrev pub all_values : Record → List (Option Value)
all_values r = Some (Id r.id) ∷ Some (Word (status_word r.status)) ∷ Some (Moment r.modified) ∷ r.values

-- the place of the field with that JSON name
abbrev pub place_in : List Info → List ℕ → Option ℕ
place_in infos name = position (λ i. bytes_eq i.name name) infos

-- the value of the field with that JSON name
abbrev pub field_of : Record → List ℕ → Option Value
field_of r name = option_and_then (λ i. slice_index_or (all_values r) i None) (place_in (table r.kind) name)

-- the key of an entry of metadata
abbrev pub key_of : Entry → List ℕ
key_of e = e.key

-- the text of an entry is not blank, and has no space at its ends
abbrev pub has_plain_text : Entry → Bool
has_plain_text e = is_plain_text e.text

-- the key of an entry follows the rule of ids
abbrev pub has_id_key : Entry → Bool
has_id_key e = is_id e.key

-- metadata stands in ascending order of its keys, each once; a key follows the rule of ids, and no text is blank
pub record IsMetadata (es : List Entry) : Type 0 where
  pub rise : RiseBy key_of es
  pub plain : list_all has_plain_text es ≡ true
  pub keys : list_all has_id_key es ≡ true

-- each value may stand in its field, and the metadata is in order
pub record IsFitting (r : Record) : Type 0 where
  pub values : fits_all (table r.kind) (all_values r) ≡ true
  pub metadata : IsMetadata r.metadata

-- what values say of the common fields: no status means active, and no date the moment 0
abbrev pub id_in : Option Value → List ℕ
id_in (Some (Id t)) = t
id_in _ = []

abbrev pub status_in : Option Value → Status
status_in (Some (Word w)) = if bytes_eq w (codes "tobedeleted") then ToBeDeleted else Active
status_in _ = Active

abbrev pub moment_in : Option Value → ℤ
moment_in (Some (Moment m)) = m
moment_in _ = pos 0

-- the row that the values of all its fields give
abbrev pub record_from : Kind → List (Option Value) → List Entry → Record
record_from kind values metadata = record {
  kind = kind;
  id = id_in (slice_index_or values 0 None);
  status = status_in (slice_index_or values 1 None);
  modified = moment_in (slice_index_or values 2 None);
  values = drop common_fields values;
  metadata = metadata;
}

-- a date is among the values of all fields
abbrev pub is_dated : List (Option Value) → Bool
is_dated values = is_some (slice_index_or values 2 None)

-- the rows are equal in all but the date
abbrev pub SameButDate : Record → Record → Type 0
SameButDate r s = record r { modified = s.modified } ≡ s
