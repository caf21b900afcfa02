-- The test of rows tells whether they are one.
use Rattle.std.proofs.Common.{◌≡◌, ◌==◌, ◌&&◌, Bool, true, false, List, Option, Some, None, bytes_eq, refl, ap}
use Rattle.std.specs.Bool.{Decides}
use Rattle.std.specs.Cmp.Lexicographic.{pointwise}
use Rattle.std.specs.Ordering.{int_eq}
use Rattle.std.proofs.lemmas.Bool.Decides.{Decides-and, Decides-eqb, Decides-int_eq}
use Rattle.std.proofs.lemmas.Slice.Eq.{bytes_eq-Decides, slice_eq-Decides}
use Rattle.roster_values.proofs.KindLaws.{kind_from_place}
use Rattle.roster_types.specs.Records.{Record}
use Rattle.roster_types.specs.declared.metadata.Entry.{Entry}
use Rattle.roster_types.specs.declared.status.Status.{Status}
use Rattle.roster_types.specs.declared.status.Status.TheVariants.{Active, ToBeDeleted}
use Rattle.roster_values.specs.Kinds.{place_of_kind}
use Rattle.roster_values.specs.UserIds.{UserIdParts}
use Rattle.roster_values.specs.declared.value.Value.{Value}
use Rattle.roster_values.specs.declared.value.Value.TheVariants.{Text, Id, Day, Moment, Number, Year, Flag, Word, Texts}
use Rattle.roster_values.specs.declared.value.Value.TheVariants.{UserIds, Ref, Refs}
use Rattle.row_deltas.specs.Sameness.{same_entry, same_field, same_flag, same_row, same_status, same_user_id}
use Rattle.row_deltas.specs.Sameness.{same_value}

flag_decides : (one other : Bool) → Decides (same_flag one other) (one ≡ other)
flag_decides true true = (λ _. refl, λ _. refl)
flag_decides true false = (λ e. cc, λ e. cc)
flag_decides false true = (λ e. cc, λ e. cc)
flag_decides false false = (λ _. refl, λ _. refl)

status_decides : (one other : Status) → Decides (same_status one other) (one ≡ other)
status_decides Active Active = (λ _. refl, λ _. refl)
status_decides Active ToBeDeleted = (λ e. cc, λ e. cc)
status_decides ToBeDeleted Active = (λ e. cc, λ e. cc)
status_decides ToBeDeleted ToBeDeleted = (λ _. refl, λ _. refl)

list_decides : {A : Type 0} (same : A → A → Bool) → ((one other : A) → Decides (same one other) (one ≡ other)) → (one other : List A) → Decides (pointwise same one other) (one ≡ other)
list_decides same decides one other = slice_eq-Decides decides one other (pointwise same one other) refl

user_id_decides : (one other : UserIdParts) → Decides (same_user_id one other) (one ≡ other)
user_id_decides one other =
    let parts = Decides-and (bytes_eq one.form other.form) (bytes_eq one.identifier other.identifier) (bytes_eq-Decides one.form other.form) (bytes_eq-Decides one.identifier other.identifier) in
    (λ e. let is = parts.0 e in λ i. record { form = is.0 i; identifier = is.1 i }, λ e. parts.1 (ap (λ (u : UserIdParts). u.form) e, ap (λ (u : UserIdParts). u.identifier) e))

value_decides : (one other : Value) → Decides (same_value one other) (one ≡ other)
unfolding same_value
value_decides (Text one) (Text other) = (λ e. ap Text ((bytes_eq-Decides one other).0 e), λ e. (bytes_eq-Decides one other).1 cc)
value_decides (Id one) (Id other) = (λ e. ap Id ((bytes_eq-Decides one other).0 e), λ e. (bytes_eq-Decides one other).1 cc)
value_decides (Day one) (Day other) = (λ e. ap Day ((Decides-int_eq one other).0 e), λ e. (Decides-int_eq one other).1 cc)
value_decides (Moment one) (Moment other) = (λ e. ap Moment ((Decides-int_eq one other).0 e), λ e. (Decides-int_eq one other).1 cc)
value_decides (Number one) (Number other) = (λ e. ap Number ((Decides-int_eq one other).0 e), λ e. (Decides-int_eq one other).1 cc)
value_decides (Year one) (Year other) = (λ e. ap Year ((Decides-eqb one other).0 e), λ e. (Decides-eqb one other).1 cc)
value_decides (Flag one) (Flag other) = (λ e. ap Flag ((flag_decides one other).0 e), λ e. (flag_decides one other).1 cc)
value_decides (Word one) (Word other) = (λ e. ap Word ((bytes_eq-Decides one other).0 e), λ e. (bytes_eq-Decides one other).1 cc)
value_decides (Texts one) (Texts other) = (λ e. ap Texts ((list_decides bytes_eq bytes_eq-Decides one other).0 e), λ e. (list_decides bytes_eq bytes_eq-Decides one other).1 cc)
value_decides (UserIds one) (UserIds other) = (λ e. ap UserIds ((list_decides same_user_id user_id_decides one other).0 e), λ e. (list_decides same_user_id user_id_decides one other).1 cc)
value_decides (Ref one) (Ref other) = (λ e. ap Ref ((bytes_eq-Decides one other).0 e), λ e. (bytes_eq-Decides one other).1 cc)
value_decides (Refs one) (Refs other) = (λ e. ap Refs ((list_decides bytes_eq bytes_eq-Decides one other).0 e), λ e. (list_decides bytes_eq bytes_eq-Decides one other).1 cc)
value_decides other _ = (λ e. cc, λ e. cc)

field_decides : (one other : Option Value) → Decides (same_field one other) (one ≡ other)
field_decides None None = (λ _. refl, λ _. refl)
field_decides None (Some other) = (λ e. cc, λ e. cc)
field_decides (Some one) None = (λ e. cc, λ e. cc)
field_decides (Some one) (Some other) = (λ e. ap (λ v. Some v) ((value_decides one other).0 e), λ e. (value_decides one other).1 cc)

entry_decides : (one other : Entry) → Decides (same_entry one other) (one ≡ other)
entry_decides one other =
    let parts = Decides-and (bytes_eq one.key other.key) (bytes_eq one.text other.text) (bytes_eq-Decides one.key other.key) (bytes_eq-Decides one.text other.text) in
    (λ e. let is = parts.0 e in λ i. record { key = is.0 i; text = is.1 i }, λ e. parts.1 (ap (λ (u : Entry). u.key) e, ap (λ (u : Entry). u.text) e))

pub row_decides : (one other : Record) → Decides (same_row one other) (one ≡ other)
unfolding same_row
row_decides one other =
    let kind = place_of_kind one.kind == place_of_kind other.kind in
    let id = bytes_eq one.id other.id in
    let status = same_status one.status other.status in
    let modified = int_eq one.modified other.modified in
    let values = pointwise same_field one.values other.values in
    let metadata = pointwise same_entry one.metadata other.metadata in
    let last = Decides-and values metadata (list_decides same_field field_decides one.values other.values) (list_decides same_entry entry_decides one.metadata other.metadata) in
    let dated = Decides-and modified (values && metadata) (Decides-int_eq one.modified other.modified) last in
    let stated = Decides-and status (modified && (values && metadata)) (status_decides one.status other.status) dated in
    let named = Decides-and id (status && (modified && (values && metadata))) (bytes_eq-Decides one.id other.id) stated in
    let parts = Decides-and kind (id && (status && (modified && (values && metadata)))) (Decides-eqb (place_of_kind one.kind) (place_of_kind other.kind)) named in (
      λ e.
          let is = parts.0 e in
          λ i. record {
            kind = kind_from_place one.kind other.kind is.0 i;
            id = is.1.0 i;
            status = is.1.1.0 i;
            modified = is.1.1.1.0 i;
            values = is.1.1.1.1.0 i;
            metadata = is.1.1.1.1.1 i;
          },
      λ e. parts.1 (ap (λ (r : Record). place_of_kind r.kind) e, (ap (λ (r : Record). r.id) e, (ap (λ (r : Record). r.status) e, (ap (λ (r : Record). r.modified) e, (ap (λ (r : Record). r.values) e, ap (λ (r : Record). r.metadata) e))))),
    )

pub row_same : (row : Record) → same_row row row ≡ true
row_same row = (row_decides row row).1 refl
