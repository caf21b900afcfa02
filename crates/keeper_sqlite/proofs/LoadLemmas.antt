-- Grants that a change has of its own, or hasn't.
use Rattle.std.proofs.Common.{◌≡◌, ℕ, List, Option, None, Some, refl, sym, ◌∙◌}
use Rattle.std.specs.List.{AllByRecursion}
use Rattle.std.specs.Option.{ForSome}
use Rattle.version_core.specs.declared.grant_row.GrantRow.{GrantRow}
use Rattle.hub_format.specs.Format.{FitsGrant}
use Rattle.hub_format.specs.Pieces.{has_grants}

pub own_none : (flag : ℕ) (grants : Option (List GrantRow)) → flag ≡ has_grants grants → flag ≡ 0 → None ≡ grants
own_none flag None flags none = refl
own_none flag (Some grants) flags none = absurd (let same = sym none ∙ flags in cc)

pub own_some : (flag : ℕ) (grants : Option (List GrantRow)) → flag ≡ has_grants grants → (flag ≡ 0 → ⊥) → (own : List GrantRow) × (grants ≡ Some own)
own_some flag None flags some = absurd (some flags)
own_some flag (Some grants) flags some = (grants, refl)

pub some_fit : (grants : Option (List GrantRow)) (own : List GrantRow) → grants ≡ Some own → ForSome grants (AllByRecursion FitsGrant) → AllByRecursion FitsGrant own
some_fit grants own same fits = fits own same
