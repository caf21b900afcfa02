-- What is found on the way from a version to what a set makes of it.
use Rattle.std.specs.Prelude.{◌≡◌, ℕ, ℤ, bytes_eq, ◌&&◌, if◌then◌else◌, is_some, map, not, count_by, option_and_then}
use Rattle.std.specs.Prelude.{option_to_list, Bool, true, false, List, [], Option, Some, None}
use Rattle.std.specs.List.{flat_map}
use Rattle.std.specs.Option.{option_map_or, option_or}
use Rattle.reference_rules.specs.Faults.{faults_of, type_in}
use Rattle.roster_base.specs.Order.{in_order}
use Rattle.roster_types.specs.Keys.{Key, is_of_kind, look_up, row_key}
use Rattle.roster_types.specs.Records.{Record, SameButDate}
use Rattle.roster_types.specs.Sets.{SetRecord}
use Rattle.roster_types.specs.declared.set.SetPart.{SetPart}
use Rattle.roster_types.specs.declared.set_row.SetRow.{SetRow}
use Rattle.roster_values.specs.declared.kind.Kind.{Kind}
use Rattle.roster_values.specs.Kinds.{all_kinds}
use Rattle.version_changes.specs.sets.Applying.{Becomes, dated, is_left_out, marked, owned_by, set_key, too_many}
use Rattle.version_changes.specs.sets.Applying.{unsound}
use Rattle.version_changes.specs.declared.sets.publish_fault.PublishFault.{PublishFault}
use Rattle.version_core.specs.Changes.{change_key, rows_of}
use Rattle.version_core.specs.Order.{put}
use Rattle.version_core.specs.Version.{after}
use Rattle.version_core.specs.declared.change.BaseVersion.{BaseVersion}
use Rattle.version_core.specs.declared.change.Change.{Change}
use Rattle.version_core.specs.declared.row_change.RowChange.{RowChange}

-- a part without its rows
abbrev pub bare : SetPart → SetPart
bare part = record part { rows = [] }

-- a set without its rows
abbrev pub bare_set : SetRecord → SetRecord
bare_set set = record set { parts = map bare set.parts }

-- the rows of a part in the order of ids
abbrev pub part_indexed : SetPart → List SetRow
part_indexed part = in_order (λ (listed : SetRow). listed.row.id) part.rows

-- the rows of all parts, each part in the order of ids
abbrev pub indexed : List SetPart → List SetRow
indexed parts = flat_map part_indexed parts

-- a listed row leaves what stands
abbrev pub Leaves : List ℕ → Bool → Record → RowChange → Type 0
Leaves feed true row stored = owned_by feed row ≡ stored
Leaves feed false row stored = SameButDate row stored.row

-- a listed row as it is stored where it doesn't leave what stands
abbrev pub stored_as : List ℕ → ℤ → SetRow → RowChange
stored_as feed at listed = owned_by feed (if listed.dated then listed.row else dated at listed.row)

-- the change that a listed row is
abbrev pub IsListedChange : List ℕ → ℤ → SetRow → Option RowChange → Option RowChange → Type 0
IsListedChange feed at listed None change = change ≡ Some (stored_as feed at listed)
IsListedChange feed at listed (Some stored) None = Leaves feed listed.dated listed.row stored
IsListedChange feed at listed (Some stored) (Some change) =
    (Leaves feed listed.dated listed.row stored → ⊥) × (change ≡ stored_as feed at listed)

-- the change under a kind and id that a row which may be listed there is
abbrev pub ListedChangeAt : List ℕ → ℤ → Option SetRow → Option RowChange → Option RowChange → Type 0
ListedChangeAt feed at None stored change = change ≡ None
ListedChangeAt feed at (Some listed) stored change = IsListedChange feed at listed stored change

-- the changes with one more in its place, where there is one
abbrev pub with_change : Option RowChange → List RowChange → List RowChange
with_change None changes = changes
with_change (Some change) changes = put change_key change changes

-- the mark of a stored row that isn't listed, where it is left out
abbrev pub mark_of : SetRecord → ℤ → Option SetRow → RowChange → Option RowChange
mark_of set at (Some listed) stored = None
mark_of set at None stored = if is_left_out set stored then Some (marked at stored) else None

-- the mark under a kind and id
abbrev pub mark_at : SetRecord → ℤ → List SetRow → List RowChange → Key → Option RowChange
mark_at set at index rows k = option_and_then (mark_of set at (look_up set_key k index)) (look_up change_key k rows)

-- the marks of these rows, in their order
abbrev pub marks_of : SetRecord → ℤ → List SetRow → List RowChange → List Record → List RowChange
marks_of set at index rows those = flat_map (λ row. option_to_list (mark_at set at index rows (row_key row))) those

-- the change of what stands under a kind and id, where it changes
abbrev pub ChangesAt : SetRecord → ℤ → Option SetRow → Option RowChange → Option RowChange → Type 0
ChangesAt set at listed stored None = Becomes set at listed stored stored
ChangesAt set at listed stored (Some change) = Becomes set at listed stored (Some change) × (stored ≡ Some change → ⊥)

-- a change of the kind that is of no row which stands
abbrev pub is_added : Kind → List RowChange → RowChange → Bool
is_added kind rows change = is_of_kind kind change.row && not (is_some (look_up change_key (change_key change) rows))

-- how many changes of the kind are of no row that stands
abbrev pub added : Kind → List RowChange → List RowChange → ℕ
added kind rows changes = count_by (is_added kind rows) changes

-- two types are one, or neither is there
abbrev pub is_one_type : Option (List ℕ) → Option (List ℕ) → Bool
is_one_type None None = true
is_one_type (Some word) (Some other) = bytes_eq word other
is_one_type _ _ = false

-- a change has the type of the row that stands under its key, where one does
abbrev pub keeps_type : List RowChange → RowChange → Bool
keeps_type rows change =
    option_map_or (λ (stored : RowChange). is_one_type (type_in change.row) (type_in stored.row)) (look_up change_key (change_key change) rows) true

-- the refusal of new rows, whoever publishes them
abbrev pub rows_refusal : List Record → Option PublishFault
rows_refusal rows = option_or (too_many rows all_kinds) (unsound (faults_of rows))

-- the version that comes of a change, where there is one
abbrev pub led_to : BaseVersion → Option Change → BaseVersion
led_to version None = version
led_to version (Some change) = after version change

-- a version has no broken references
abbrev pub IsSound : BaseVersion → Type 0
IsSound version = faults_of (rows_of version.rows) ≡ []
