-- When two rows are one.
use Rattle.std.specs.Prelude.{◌==◌, ◌&&◌, Bool, true, false, Option, Some, None, bytes_eq}
use Rattle.std.specs.Cmp.Lexicographic.{pointwise}
use Rattle.std.specs.Ordering.{int_eq}
use Rattle.roster_types.specs.Records.{Record}
use Rattle.roster_types.specs.declared.metadata.Entry.{Entry}
use Rattle.roster_types.specs.declared.status.Status.{Status}
use Rattle.roster_types.specs.declared.status.Status.TheVariants.{Active, ToBeDeleted}
use Rattle.roster_values.specs.Kinds.{place_of_kind}
use Rattle.roster_values.specs.UserIds.{UserIdParts}
use Rattle.roster_values.specs.declared.value.Value.{Value}
use Rattle.roster_values.specs.declared.value.Value.TheVariants.{Text, Id, Day, Moment, Number, Year, Flag, Word, Texts}
use Rattle.roster_values.specs.declared.value.Value.TheVariants.{UserIds, Ref, Refs}

-- the flags are one
abbrev pub same_flag : Bool → Bool → Bool
same_flag true other = other
same_flag false true = false
same_flag false false = true

-- the user ids are one
abbrev pub same_user_id : UserIdParts → UserIdParts → Bool
same_user_id one other = bytes_eq one.form other.form && bytes_eq one.identifier other.identifier

-- the values are of one form, and are one
unfoldable pub same_value : Value → Value → Bool
same_value (Text one) (Text other) = bytes_eq one other
same_value (Id one) (Id other) = bytes_eq one other
same_value (Day one) (Day other) = int_eq one other
same_value (Moment one) (Moment other) = int_eq one other
same_value (Number one) (Number other) = int_eq one other
same_value (Year one) (Year other) = one == other
same_value (Flag one) (Flag other) = same_flag one other
same_value (Word one) (Word other) = bytes_eq one other
same_value (Texts one) (Texts other) = pointwise bytes_eq one other
same_value (UserIds one) (UserIds other) = pointwise same_user_id one other
same_value (Ref one) (Ref other) = bytes_eq one other
same_value (Refs one) (Refs other) = pointwise bytes_eq one other
same_value _ _ = false

-- both fields have one value, or neither has one
abbrev pub same_field : Option Value → Option Value → Bool
same_field None None = true
same_field None (Some other) = false
same_field (Some one) None = false
same_field (Some one) (Some other) = same_value one other

-- the entries of metadata are one
abbrev pub same_entry : Entry → Entry → Bool
same_entry one other = bytes_eq one.key other.key && bytes_eq one.text other.text

-- the statuses are one
abbrev pub same_status : Status → Status → Bool
same_status Active Active = true
same_status Active ToBeDeleted = false
same_status ToBeDeleted Active = false
same_status ToBeDeleted ToBeDeleted = true

-- the rows have one kind, id, status and date, the same values and the same metadata
unfoldable pub same_row : Record → Record → Bool
same_row one other =
    place_of_kind one.kind == place_of_kind other.kind
    && (bytes_eq one.id other.id
    && (same_status one.status other.status
    && (int_eq one.modified other.modified
    && (pointwise same_field one.values other.values
    && pointwise same_entry one.metadata other.metadata))))
