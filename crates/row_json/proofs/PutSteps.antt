-- The fields that the row of a write has beside its kind's own.
use Rattle.std.proofs.Common.{◌≡◌, ℕ, ℤ, true, false, List, [], ◌∷◌, Option, Some, Result, Ok, Err, IfOk, ap, codes}
use Rattle.std.proofs.Common.{◌∙◌, get_or, map, refl}
use Rattle.serde_json.specs.Data.{Data}
use Rattle.serde_json.specs.Find.{get}
use Rattle.roster_base.specs.Moments.{IsMoment}
use Rattle.roster_base.specs.Reading.{Gives}
use Rattle.roster_base.specs.declared.refusal.Refusal.{Refusal}
use Rattle.roster_texts.specs.Texts.{is_id}
use Rattle.roster_types.proofs.Fitting.{in_moments, table-common}
use Rattle.roster_types.specs.Shapes.{fits_all, own_fields}
use Rattle.roster_values.specs.declared.fields.FieldInfo.{FieldInfo}
use Rattle.roster_values.specs.declared.kind.Kind.{Kind}
use Rattle.roster_values.specs.declared.value.Value.{Value}
use Rattle.roster_values.specs.declared.value.Value.TheVariants.{Id, Moment}
use Rattle.roster_values.specs.Fit.{fits}
use Rattle.roster_values.specs.Table.{Info, IdForm, common, info_of, needed, table}
use Rattle.row_json.specs.declared.fault.JsonFault.{JsonFault}
use Rattle.row_json.specs.Puts.{id_field, member_value, status_field}
use Rattle.row_json.specs.Reading.{field_in}
use Rattle.row_json.proofs.FieldSteps.{field_fits, read_in}
use Rattle.std.proofs.lemmas.Result.{IfOk-at_ok}

joined : (own : List Info) (id : List ℕ) (status : Option Value) (at : ℤ) (vs : List (Option Value)) → is_id id ≡ true → IsMoment at → fits status_field status ≡ true → fits_all own vs ≡ true
    → fits_all (common own) (Some (Id id) ∷ status ∷ Some (Moment at) ∷ vs) ≡ true
joined own id status at vs i m s h = rw (i, s, in_moments at m, h) refl

-- the id, a status, the date and the kind's own values fit the kind's fields
pub put_fits : (kind : Kind) (id : List ℕ) (status : Option Value) (at : ℤ) (vs : List (Option Value)) → is_id id ≡ true → IsMoment at → fits status_field status ≡ true → fits_all (own_fields kind) vs ≡ true
    → fits_all (table kind) (Some (Id id) ∷ status ∷ Some (Moment at) ∷ vs) ≡ true
put_fits kind id status at vs i m s h = rw (table-common kind) (joined (own_fields kind) id status at vs i m s h)

-- of a table of fields the first two
pub first_field : (kind : Kind) (infos : List FieldInfo) (d : FieldInfo) → map info_of infos ≡ table kind → record (info_of (get_or infos 0 d)) { required = false } ≡ id_field
first_field kind infos d e = by infos (e ∙ table-common kind)
  where
    by : (is : List FieldInfo) → map info_of is ≡ common (own_fields kind) → record (info_of (get_or is 0 d)) { required = false } ≡ id_field
    by [] h = cc
    by (i ∷ is) h = let same : info_of i ≡ needed (codes "sourcedId") (codes "sourcedId") IdForm = cc h in ap (λ (info : Info). record info { required = false }) same

pub second_field : (kind : Kind) (infos : List FieldInfo) (d : FieldInfo) → map info_of infos ≡ table kind → info_of (get_or infos 1 d) ≡ status_field
second_field kind infos d e = by infos (e ∙ table-common kind)
  where
    by : (is : List FieldInfo) → map info_of is ≡ common (own_fields kind) → info_of (get_or is 1 d) ≡ status_field
    by [] h = cc
    by (i ∷ []) h = cc
    by (i ∷ j ∷ is) h = cc

-- a value that is read in a member fits its field
pub member_fits : (info : Info) (d : Data) (result : Result (Option Value) (Refusal JsonFault)) → Gives (λ v. v) result (member_value info d) → IfOk result (λ v. fits info v ≡ true)
member_fits info d (Ok v) g = IfOk-at_ok (λ o. fits info o ≡ true) (read_in info.name (field_in info (get info.name d)) v g) (field_fits info (get info.name d))
member_fits info d (Err e) g = tt
