-- The checks of a gradebook write: owner, grant, references, limit.
use Rattle.std.specs.Prelude.{ℕ, ◌&&◌, Bool, true, false, not, List, [], ◌∷◌, Option, Some, None, bytes_eq, codes}
use Rattle.std.specs.Prelude.{nat_le}
use Rattle.std.specs.List.{list_all}
use Rattle.std.specs.Option.{option_map_or, option_or}
use Rattle.grant_scopes.specs.declared.schools.Schools.{Schools}
use Rattle.hub_spec.specs.views.References.{stands_where}
use Rattle.hub_spec.specs.views.Seen.{sees}
use Rattle.reference_rules.specs.Faults.{has_type}
use Rattle.roster_types.specs.Keys.{count_of, look_up}
use Rattle.roster_types.specs.Records.{Record, all_values}
use Rattle.roster_types.specs.declared.owner.Owner.{Owner}
use Rattle.roster_types.specs.declared.owner.Owner.TheVariants.{Caller, Feed}
use Rattle.roster_values.specs.declared.kind.Kind.{Kind}
use Rattle.roster_values.specs.declared.kind.Kind.TheVariants.{AcademicSessions}
use Rattle.roster_values.specs.declared.value.Value.{Value}
use Rattle.roster_values.specs.Kinds.{place_of_kind}
use Rattle.roster_values.specs.Table.{Form, Info, RefForm, RefsForm, table}
use Rattle.version_core.specs.Changes.{change_key, rows_of}
use Rattle.version_core.specs.Outcomes.{no_such_object_outcome, outside_grant_outcome, owned_by_another_outcome}
use Rattle.version_core.specs.Outcomes.{too_many_rows_outcome, wrong_type_outcome}
use Rattle.version_core.specs.References.{named_in, refs_in}
use Rattle.version_core.specs.Version.{row_limit}
use Rattle.version_core.specs.declared.change.BaseVersion.{BaseVersion}
use Rattle.version_core.specs.declared.grant_row.GrantRow.{GrantRow}
use Rattle.version_core.specs.declared.mark.Write.{Write}
use Rattle.version_core.specs.declared.row_change.RowChange.{RowChange}

-- the number of a refusal, where its check fails
abbrev pub refused_if : Bool → ℕ → Option ℕ
refused_if true number = Some number
refused_if false number = None

-- the first refusal of checks in order, where one of them fails
abbrev pub first_of : List (Option ℕ) → Option ℕ
first_of [] = None
first_of (check ∷ checks) = option_or check (first_of checks)

-- the caller owns the row
abbrev pub is_of : List ℕ → Owner → Bool
is_of caller (Caller name) = bytes_eq name caller
is_of caller (Feed name) = false

-- the row that stands where the write goes
abbrev pub stored_at : BaseVersion → Write → Option RowChange
stored_at newest write = look_up change_key (place_of_kind write.kind, write.id) newest.rows

-- a row stands there, and belongs to another than the caller
abbrev pub is_of_other : List ℕ → Option RowChange → Bool
is_of_other caller stored = option_map_or (λ change. not (is_of caller change.owner)) stored false

-- the kind of the rows that a field of this form names
abbrev pub kind_named : Form → Option Kind
kind_named (RefForm kind) = Some kind
kind_named (RefsForm kind) = Some kind
kind_named _ = None

-- the value of one field names seen rows alone
abbrev pub names_seen : Schools → List Record → Info → Option Value → Bool
names_seen schools rows info value = option_map_or (λ kind. list_all (sees schools rows kind) (refs_in value)) (kind_named info.form) true

-- each field names seen rows alone
abbrev pub all_name_seen : Schools → List Record → List Info → List (Option Value) → Bool
all_name_seen schools rows [] values = true
all_name_seen schools rows (info ∷ infos) [] = true
all_name_seen schools rows (info ∷ infos) (value ∷ values) = names_seen schools rows info value && all_name_seen schools rows infos values

-- each field of the row names seen rows alone
abbrev pub is_within : Schools → List Record → Record → Bool
is_within schools rows row = all_name_seen schools rows (table row.kind) (all_values row)

-- the session has the type of a grading period
abbrev pub is_grading_period : Record → Bool
is_grading_period session = has_type session (codes "gradingPeriod")

-- what it names as its grading period is one
abbrev pub has_grading_period : List Record → Record → Bool
has_grading_period rows row = list_all (stands_where is_grading_period rows AcademicSessions) (named_in (codes "gradingPeriod") row)

-- the kind has as many rows as it may have, and this would be one more
abbrev pub is_one_too_many : List Record → Kind → Option RowChange → Bool
is_one_too_many rows kind (Some stored) = false
is_one_too_many rows kind None = nat_le row_limit (count_of kind rows)

-- the first check that a put row fails: another owns the row, a reference isn't seen or is of the wrong type, too many
-- rows
abbrev pub put_refusal : BaseVersion → GrantRow → Write → Record → Option ℕ
put_refusal newest by write row = first_of (
    refused_if (is_of_other by.caller (stored_at newest write)) owned_by_another_outcome
    ∷ refused_if (not (is_within by.grant.schools (rows_of newest.rows) row)) outside_grant_outcome
    ∷ refused_if (not (has_grading_period (rows_of newest.rows) row)) wrong_type_outcome
    ∷ refused_if (is_one_too_many (rows_of newest.rows) write.kind (stored_at newest write)) too_many_rows_outcome
    ∷ [])

-- the first check that a DELETE fails: no such object is seen, another owns the row
abbrev pub delete_refusal : BaseVersion → GrantRow → Write → Option ℕ
delete_refusal newest by write = first_of (
    refused_if (not (sees by.grant.schools (rows_of newest.rows) write.kind write.id)) no_such_object_outcome
    ∷ refused_if (is_of_other by.caller (stored_at newest write)) owned_by_another_outcome
    ∷ [])
