-- A row's object as JSON tokens, its members in the order of their names.
use Rattle.std.specs.Prelude.{ℕ, Bool, true, List, [], ◌∷◌, Option, None, Some, codes, option_map, slice_get}
use Rattle.std.specs.Prelude.{slice_index_or, if◌then◌else◌}
use Rattle.json.specs.Token.{Token, key, string}
use Rattle.json.specs.Tree.{json_tokens}
use Rattle.serde_json.specs.Data.{Data, no_members, object}
use Rattle.serde_json.specs.Written.{outline}
use Rattle.roster_values.specs.declared.kind.Kind.{Kind}
use Rattle.roster_values.specs.declared.kind.Kind.TheVariants.{Orgs, AcademicSessions, Courses, Classes, Users}
use Rattle.roster_values.specs.declared.kind.Kind.TheVariants.{Enrollments, Demographics, Categories, LineItems}
use Rattle.roster_values.specs.declared.kind.Kind.TheVariants.{Results, Resources, ClassResources, CourseResources}
use Rattle.roster_values.specs.declared.value.Value.{Value}
use Rattle.roster_values.specs.Table.{Info, table}
use Rattle.roster_types.specs.declared.metadata.Entry.{Entry}
use Rattle.roster_types.specs.Records.{Record, all_values}
use Rattle.row_json.specs.Json.{is_named, value_data, with_entries}

-- the tokens of a value
abbrev pub data_tokens : Data → List Token
data_tokens d = json_tokens (outline d)

-- the places of a kind's fields in the order of their JSON names, among them that of the metadata, which is past the
-- fields
abbrev pub order_of : Kind → List ℕ
order_of Orgs = 2 ∷ 5 ∷ 7 ∷ 3 ∷ 6 ∷ 0 ∷ 1 ∷ 4 ∷ []
order_of AcademicSessions = 2 ∷ 6 ∷ 9 ∷ 7 ∷ 8 ∷ 0 ∷ 5 ∷ 1 ∷ 3 ∷ 4 ∷ []
order_of Courses = 5 ∷ 2 ∷ 6 ∷ 10 ∷ 7 ∷ 3 ∷ 0 ∷ 1 ∷ 9 ∷ 8 ∷ 4 ∷ []
order_of Classes = 6 ∷ 7 ∷ 5 ∷ 2 ∷ 4 ∷ 8 ∷ 14 ∷ 13 ∷ 9 ∷ 0 ∷ 1 ∷ 12 ∷ 11 ∷ 10 ∷ 3 ∷ []
order_of Users = 15 ∷ 2 ∷ 12 ∷ 3 ∷ 9 ∷ 8 ∷ 16 ∷ 11 ∷ 17 ∷ 10 ∷ 4 ∷ 14 ∷ 5 ∷ 13 ∷ 0 ∷ 1 ∷ 7 ∷ 6 ∷ []
order_of Enrollments = 8 ∷ 3 ∷ 2 ∷ 9 ∷ 10 ∷ 7 ∷ 6 ∷ 4 ∷ 0 ∷ 1 ∷ 5 ∷ []
order_of Demographics = 5 ∷ 6 ∷ 3 ∷ 7 ∷ 14 ∷ 12 ∷ 2 ∷ 10 ∷ 11 ∷ 16 ∷ 8 ∷ 15 ∷ 4 ∷ 0 ∷ 13 ∷ 1 ∷ 9 ∷ []
order_of Categories = 2 ∷ 4 ∷ 0 ∷ 1 ∷ 3 ∷ []
order_of LineItems = 5 ∷ 8 ∷ 7 ∷ 2 ∷ 4 ∷ 6 ∷ 9 ∷ 12 ∷ 11 ∷ 10 ∷ 0 ∷ 1 ∷ 3 ∷ []
order_of Results = 8 ∷ 2 ∷ 3 ∷ 9 ∷ 6 ∷ 7 ∷ 5 ∷ 0 ∷ 1 ∷ 4 ∷ []
order_of Resources = 8 ∷ 2 ∷ 6 ∷ 9 ∷ 5 ∷ 0 ∷ 1 ∷ 4 ∷ 7 ∷ 3 ∷ []
order_of ClassResources = 4 ∷ 2 ∷ 6 ∷ 5 ∷ 0 ∷ 1 ∷ 3 ∷ []
order_of CourseResources = 4 ∷ 2 ∷ 6 ∷ 5 ∷ 0 ∷ 1 ∷ 3 ∷ []

-- metadata as a value, where there is any
abbrev pub metadata_data : List Entry → Option Data
metadata_data [] = None
metadata_data (e ∷ es) = Some (object (with_entries (e ∷ es) no_members))

-- a member's name and its value, where it is there: of a field, or without one of the metadata
abbrev pub slot_of : List Entry → Option Value → Option Info → List ℕ × Option Data
slot_of es v (Some i) = (i.name, option_map (value_data i.form) v)
slot_of es v None = (codes "metadata", metadata_data es)

-- the member at a place of a row's fields
abbrev pub slot_at : Record → ℕ → List ℕ × Option Data
slot_at r place = slot_of r.metadata (slice_index_or (all_values r) place None) (slice_get (table r.kind) place)

-- whether a choice of names leaves a name
abbrev pub is_chosen : Option (List (List ℕ)) → List ℕ → Bool
is_chosen None name = true
is_chosen (Some names) name = is_named names name

-- a member's tokens, where it is there
abbrev pub member_tokens : List ℕ → Option Data → List Token
member_tokens name None = []
member_tokens name (Some d) = key name ∷ data_tokens d

-- those of an entry of the metadata
abbrev pub entry_tokens : Entry → List Token
entry_tokens e = key e.key ∷ string e.text ∷ []

-- those of a member that a choice leaves
unfoldable pub slot_tokens : Option (List (List ℕ)) → List ℕ × Option Data → List Token
slot_tokens only slot = if is_chosen only slot.0 then member_tokens slot.0 slot.1 else []
