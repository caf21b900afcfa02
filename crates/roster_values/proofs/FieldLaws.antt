-- The fields of a kind one after another, and what may stand in one.
use Rattle.std.proofs.Common.{◌≡◌, ◌<◌, ◌+◌, ◌||◌, ℕ, Bool, true, false, List, ◌∷◌, Option, Some, None, drop, get_or}
use Rattle.std.proofs.Common.{length, map, not, refl}
use Rattle.std.proofs.lemmas.List.{drop-map}
use Rattle.roster_base.proofs.ListSteps.{next_item}
use Rattle.roster_values.specs.declared.fields.FieldInfo.{FieldInfo}
use Rattle.roster_values.specs.declared.kind.Kind.{Kind}
use Rattle.roster_values.specs.declared.mode.Mode.{Mode}
use Rattle.roster_values.specs.declared.mode.Mode.TheVariants.{Bulk, Delta}
use Rattle.roster_values.specs.declared.value.Value.{Value}
use Rattle.roster_values.specs.Fit.{fits}
use Rattle.roster_values.specs.Table.{Info, info_in, info_of, table}

-- the field at a place of the table, and those behind it
pub next_field : (kind : Kind) (infos : List FieldInfo) (place : ℕ) (d info : FieldInfo) → map info_of infos ≡ table kind → place < length infos → info ≡ get_or infos place d
    → drop place (table kind) ≡ info_of info ∷ drop (place + 1) (table kind)
next_field kind infos place d info e h is = rw (← e, drop-map info_of place infos, drop-map info_of (place + 1) infos, next_item infos place info d h is) refl

needs_less : (required more : Bool) → not (required || more) ≡ true → not required ≡ true
needs_less true more h = h
needs_less false more h = refl

-- what may stand in a field of a file of some mode may stand in the field
pub fits_always : (mode : Mode) (place : ℕ) (info : Info) (o : Option Value) → fits (info_in mode place info) o ≡ true → fits info o ≡ true
fits_always Bulk place info o h = h
fits_always Delta place info None h = needs_less info.required _ h
fits_always Delta place info (Some v) h = h
