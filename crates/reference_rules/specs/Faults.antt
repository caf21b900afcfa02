-- The broken references of rows, by OneRoster 1.1: a field of the forms of references names rows of its kind.
use Rattle.std.specs.Prelude.{◌≡◌, ℕ, ℤ, Bool, false, true, ◌&&◌, ◌++◌, not, int_lt, if◌then◌else◌, List, [], ◌∷◌}
use Rattle.std.specs.Prelude.{Option, Some, None, codes, bytes_eq, filter}
use Rattle.std.specs.List.{All, flat_map}
use Rattle.std.specs.Option.{option_map_or}
use Rattle.roster_types.specs.Keys.{is_of_kind, look_up, row_key}
use Rattle.roster_types.specs.Records.{Record, all_values, field_of}
use Rattle.roster_values.specs.declared.kind.Kind.{Kind}
use Rattle.roster_values.specs.declared.kind.Kind.TheVariants.{AcademicSessions, Classes, Demographics, LineItems}
use Rattle.roster_values.specs.declared.kind.Kind.TheVariants.{Users}
use Rattle.roster_values.specs.declared.value.Value.{Value}
use Rattle.roster_values.specs.declared.value.Value.TheVariants.{Day, Id, Ref, Refs, Word}
use Rattle.roster_values.specs.Kinds.{place_of_kind}
use Rattle.roster_values.specs.Table.{Form, IdForm, Info, RefForm, RefsForm, table}
use Rattle.reference_rules.specs.declared.ref_fault.Fault.{Fault}
use Rattle.reference_rules.specs.declared.ref_fault.Fault.TheVariants.{Cycle, DayOrder, Missing, WrongType}
use Rattle.reference_rules.specs.declared.ref_fault.RefFault.{RefFault}
use Rattle.reference_rules.specs.Parents.{is_in_cycle}

-- demographics have the id of their user
abbrev pub kind_with_id : Kind → Option Kind
kind_with_id Demographics = Some Users
kind_with_id _ = None

-- the kind of the rows that a field names, where it names any
abbrev pub target_kind : Kind → Form → Option Kind
target_kind kind (RefForm target) = Some target
target_kind kind (RefsForm target) = Some target
target_kind kind IdForm = kind_with_id kind
target_kind kind _ = None

-- a word, where the field has this name
abbrev pub if_named : List ℕ → List ℕ → List ℕ → Option (List ℕ)
if_named name field word = if bytes_eq field name then Some word else None

-- the type that a named row must have, where one is asked: a class is in a school, and a line item's grading period is
-- one
abbrev pub type_asked : Kind → List ℕ → Option (List ℕ)
type_asked Classes field = if_named (codes "school") field (codes "school")
type_asked LineItems field = if_named (codes "gradingPeriod") field (codes "gradingPeriod")
type_asked _ field = None

-- the value is this word
abbrev pub is_word : Option Value → List ℕ → Bool
is_word (Some (Word w)) word = bytes_eq w word
is_word _ word = false

-- a row has this type
abbrev pub has_type : Record → List ℕ → Bool
has_type row word = is_word (field_of row (codes "type")) word

-- the row that a field names has another type than the field asks for
abbrev pub has_wrong_type : Kind → List ℕ → Record → Bool
has_wrong_type kind field target = option_map_or (λ word. not (has_type target word)) (type_asked kind field) false

-- an org or a session is broken by its field `parent` where it is in a cycle
abbrev pub is_cyclic : List Record → Record → List ℕ → Bool
is_cyclic rows row field = bytes_eq field (codes "parent") && is_in_cycle rows row.kind row.id

-- what is wrong with a row's field that names this row, if there is one
abbrev pub fault_at : List Record → Record → List ℕ → Option Record → Option Fault
fault_at rows row field None = Some Missing
fault_at rows row field (Some target) =
    if has_wrong_type row.kind field target then Some WrongType
    else (if is_cyclic rows row field then Some Cycle else None)

-- the broken reference with a fault, where there is one
abbrev pub listed : Record → List ℕ → Option (List ℕ) → Option Fault → List RefFault
listed row field target None = []
listed row field target (Some fault) = record { kind = row.kind; id = row.id; field = field; target = target; fault = fault } ∷ []

-- what is wrong with one id that a field names
abbrev pub target_faults : List Record → Record → Info → List ℕ → List RefFault
target_faults rows row info id =
    option_map_or (λ kind. listed row info.name (Some id) (fault_at rows row info.name (look_up row_key (place_of_kind kind, id) rows))) (target_kind row.kind info.form) []

-- the name of the field with the first of the days of which `endDate` is the last
abbrev pub first_day_name : Kind → List ℕ
first_day_name AcademicSessions = codes "startDate"
first_day_name _ = codes "beginDate"

-- the value is a day after the last one
abbrev pub is_day_after : Option Value → ℤ → Bool
is_day_after (Some (Day first)) last = int_lt last first
is_day_after _ last = false

-- what is wrong with the day of a field
abbrev pub day_fault : Record → List ℕ → ℤ → Option Fault
day_fault row field last =
    if bytes_eq field (codes "endDate") && is_day_after (field_of row (first_day_name row.kind)) last then Some DayOrder else None

-- what is wrong with the value of a field
abbrev pub value_faults : List Record → Record → Info → Value → List RefFault
value_faults rows row info (Id id) = target_faults rows row info id
value_faults rows row info (Ref id) = target_faults rows row info id
value_faults rows row info (Refs ids) = flat_map (target_faults rows row info) ids
value_faults rows row info (Day day) = listed row info.name None (day_fault row info.name day)
value_faults rows row info _ = []

-- what is wrong with a field, where it has a value
abbrev pub field_faults : List Record → Record → Info → Option Value → List RefFault
field_faults rows row info None = []
field_faults rows row info (Some value) = value_faults rows row info value

-- what is wrong with fields, one after another
abbrev pub faults_in : List Record → Record → List Info → List (Option Value) → List RefFault
faults_in rows row (i ∷ is) (v ∷ vs) = field_faults rows row i v ++ faults_in rows row is vs
faults_in rows row _ _ = []

-- a row's broken references
abbrev pub row_faults : List Record → Record → List RefFault
row_faults rows row = faults_in rows row (table row.kind) (all_values row)

-- a fault is a cycle of parents
abbrev pub is_cycle_fault : Fault → Bool
is_cycle_fault Cycle = true
is_cycle_fault _ = false

-- a broken reference tells of a cycle of parents
abbrev pub is_cycle : RefFault → Bool
is_cycle broken = is_cycle_fault broken.fault

-- every broken reference, in the order of the rows
abbrev pub faults_of : List Record → List RefFault
faults_of rows = flat_map (row_faults rows) rows

-- each of some rows stands among all under its kind and id
abbrev pub AreAmong : List Record → List Record → Type 0
AreAmong rows among = All (λ (row : Record). look_up row_key (row_key row) rows ≡ Some row) among

-- the broken references that the rows of one kind have
abbrev pub kind_faults : List Record → Kind → List RefFault
kind_faults rows kind = flat_map (row_faults rows) (filter (is_of_kind kind) rows)

-- the word in a row's field `type`
abbrev pub word_in : Option Value → Option (List ℕ)
word_in (Some (Word word)) = Some word
word_in _ = None

-- the type of a row
abbrev pub type_in : Record → Option (List ℕ)
type_in row = word_in (field_of row (codes "type"))
