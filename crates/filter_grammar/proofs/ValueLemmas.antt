-- The years among a row's values.
use Rattle.std.proofs.Common.{◌≡◌, ℕ, true, [], List, Option, None, Some, get_or, sym}
use Rattle.std.specs.Prelude.{IfSome, option_and_then, option_map}
use Rattle.roster_types.specs.Records.{IsFitting, Record, all_values, field_of, place_in}
use Rattle.roster_types.proofs.Fitting.{fits_all-at}
use Rattle.roster_values.proofs.FitLaws.{short_year}
use Rattle.roster_values.specs.CellText.{has_short_year}
use Rattle.roster_values.specs.Table.{TextForm, needed, table}
use Rattle.roster_values.specs.declared.value.Value.{Value}
use Rattle.roster_values.specs.Value.{shown}
use Rattle.roster_values.specs.declared.value.ValueRef.{ValueRef}

pub short_year_at : (r : Record) (place : ℕ) (v : Value) → IsFitting r → get_or (all_values r) place None ≡ Some v → has_short_year v ≡ true
short_year_at r place v fitting e = short_year _ v (fits_all-at (table r.kind) (all_values r) place (needed [] [] TextForm) v fitting.values e)

-- the same of what is lent of a row
pub lent_year : (r : Record) (place : ℕ) (lent : Option ValueRef) → IsFitting r → option_map shown lent ≡ get_or (all_values r) place None → IfSome lent (λ v. has_short_year (shown v) ≡ true)
lent_year r place None fitting e = tt
lent_year r place (Some v) fitting e = short_year_at r place (shown v) fitting (sym e)

-- the same of what is lent of a row by a field's name
pub named_year : (r : Record) (name : List ℕ) (lent : Option ValueRef) → IsFitting r → option_map shown lent ≡ field_of r name → IfSome lent (λ v. has_short_year (shown v) ≡ true)
named_year r name lent fitting e = year_at (place_in (table r.kind) name) lent e where
  year_at : (place : Option ℕ) (lent : Option ValueRef) → option_map shown lent ≡ option_and_then (λ i. get_or (all_values r) i None) place
      → IfSome lent (λ v. has_short_year (shown v) ≡ true)
  year_at None None e = tt
  year_at None (Some v) e = cc
  year_at (Some place) lent e = lent_year r place lent fitting e
