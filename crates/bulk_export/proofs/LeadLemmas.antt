-- What changes make of the rows of the earlier set.
use Rattle.std.proofs.Common.{◌≡◌, ℤ, List, [], ◌∷◌, map, Bool, true, false, cond, Option, Some, None, refl, sym, ap}
use Rattle.std.proofs.Common.{subst, ◌∙◌}
use Rattle.std.specs.Prelude.{option_map}
use Rattle.std.specs.Option.{option_or}
use Rattle.std.proofs.lemmas.Bool.{and_parts}
use Rattle.roster_types.specs.Keys.{Key, look_up, row_key}
use Rattle.roster_types.specs.Records.{Record}
use Rattle.roster_types.specs.declared.set_row.SetRow.{SetRow}
use Rattle.roster_types.specs.declared.status.Status.{Status}
use Rattle.roster_types.specs.declared.status.Status.TheVariants.{Active, ToBeDeleted}
use Rattle.version_core.proofs.LookUps.{KeepKeys, look_up-map}
use Rattle.row_deltas.proofs.SameLemmas.{row_decides}
use Rattle.row_deltas.specs.Sameness.{same_row}
use Rattle.version_changes.specs.sets.Applying.{is_active, set_key}
use Rattle.version_core.proofs.OrderLemmas.{look_up-overlaid}
use Rattle.bulk_export.specs.Changes.{AreChanges, LeadsTo, is_as_before, marked, put_over, told}

abbrev row_of : SetRow → Record
row_of listed = listed.row

keep : (earlier : List SetRow) → KeepKeys set_key row_key row_of earlier
keep [] = tt
keep (listed ∷ earlier) = (refl, keep earlier)

-- a held row that the earlier set tells stands there
told_stands : (listed : SetRow) (held : Record) (b : Bool) → is_as_before (Some listed) held ≡ b → option_or (cond b None (Some held)) (Some listed.row) ≡ Some held
told_stands listed held true e = ap (λ r. Some r) ((row_decides listed.row held).0 (and_parts listed.dated (same_row listed.row held) e).1)
told_stands listed held false e = refl

left : (at : ℤ) (listed : SetRow) (status : Status) → listed.row.status ≡ status → LeadsTo (Some listed) None (option_or (cond (is_active status) (Some (marked at listed.row)) None) (Some listed.row))
left at listed Active e = (refl, refl)
left at listed ToBeDeleted e = (e, refl)

stands : (at : ℤ) (earlier : Option SetRow) (held : Option Record) → LeadsTo earlier held (option_or (told at earlier held) (option_map row_of earlier))
stands at None None = tt
stands at (Some listed) None = left at listed listed.row.status refl
stands at None (Some held) = refl
stands at (Some listed) (Some held) = told_stands listed held (is_as_before (Some listed) held) refl

pub leads : (at : ℤ) (earlier : List SetRow) (held changes : List Record) → AreChanges at earlier held changes → (k : Key) → LeadsTo (look_up set_key k earlier) (look_up row_key k held) (look_up row_key k (put_over earlier changes))
leads at earlier held changes are k =
    let is = look_up-overlaid row_key k (map row_of earlier) changes ∙ (λ i. option_or (are.entries k i) (look_up-map set_key row_key row_of k earlier (keep earlier) i)) in
    subst (λ o. LeadsTo (look_up set_key k earlier) (look_up row_key k held) o) (sym is) (stands at (look_up set_key k earlier) (look_up row_key k held))
