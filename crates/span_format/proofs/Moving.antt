-- The edits made of a change's parts are those by which it goes into the base.
use Rattle.std.proofs.Common.{◌≡◌, ◌+◌, ℕ, List, [], ◌∷◌, ◌++◌, length, map, Option, None, Some, refl, sym, ap, ◌∙◌}
use Rattle.version_core.specs.declared.change.BaseVersion.{BaseVersion}
use Rattle.version_core.specs.declared.change.Change.{Change}
use Rattle.version_core.specs.declared.grant_row.GrantRow.{GrantRow}
use Rattle.version_core.specs.declared.row_change.RowChange.{RowChange}
use Rattle.hub_format.specs.Areas.{grants_area, names_area, state_area, versions_area}
use Rattle.hub_format.specs.Edits.{clear_version, moved, put_at, puts}
use Rattle.hub_format.specs.Format.{Entry, grant_entry, grants_under}
use Rattle.hub_format.specs.Moves.{all_moved, grants_moved}
use Rattle.hub_format.specs.Pieces.{change_body, has_grants, moment, number, number_size}
use Rattle.hub_format.proofs.Decoding.{same_ends}
use Rattle.span_format.specs.Edits.{folded, hidden_by, hidden_names}
use Rattle.span_format.specs.Format.{name_entry, own_names}

-- names are hidden as their rows are
names_alone : (version other : ℕ) (rows : List RowChange) → hidden_names version (map (name_entry other) rows) ≡ map (hidden_by version) rows
names_alone version other [] = refl
names_alone version other (row ∷ rows) = ap (λ es. hidden_by version row ∷ es) (names_alone version other rows)

grants_on : (from to : ℕ) (grants : List GrantRow) → all_moved (number to) (grants_under from grants) ≡ grants_under to grants
grants_on from to [] = refl
grants_on from to (row ∷ grants) = ap (λ es. grant_entry to row ∷ es) (grants_on from to grants)

grants_are : (from to : ℕ) (grants : List GrantRow) (others : Option (List GrantRow)) → grants_moved (has_grants others) to (grants_under from grants) ≡ moved to grants others
grants_are from to grants None = ap (puts grants_area) (grants_on from to grants)
grants_are from to grants (Some others) = refl

-- of a change that isn't stored yet
pub new_parts_are : (keep base : ℕ) (was : BaseVersion) (change : Change) (at : List ℕ) (flag : ℕ) (rows : List RowChange) (grants : List Entry) → base ≡ was.number → change.version ≡ base + 1 → length at ≡ number_size → at ++ flag ∷ [] ≡ change_body change
    → rows ≡ change.rows → grants ≡ grants_under base was.grants
    → put_at state_area ([], number keep ++ number (base + 1) ++ at) ∷ map (hidden_by (base + 1)) rows ++ grants_moved flag (base + 1) grants ++ (clear_version versions_area (base + 1) ∷ clear_version names_area (base + 1) ∷ clear_version grants_area base ∷ []) ≡ folded keep was change
new_parts_are keep base was change at flag rows grants bases next eight body rows_is grants_is =
    let parts = same_ends at (moment change.moment) (flag ∷ []) (has_grants change.grants ∷ []) eight body in
    let flags : flag ≡ has_grants change.grants = let rest = parts.1 in cc in
    let versions : base + 1 ≡ change.version = sym next in
    let along : grants_moved flag (base + 1) grants ≡ moved change.version was.grants change.grants =
    (λ i. grants_moved (flags i) (versions i) (grants_is i)) ∙ grants_are base change.version was.grants change.grants in
    λ i. put_at state_area ([], number keep ++ number (versions i) ++ parts.0 i) ∷ map (hidden_by (versions i)) (rows_is i) ++ along i ++ (clear_version versions_area (versions i) ∷ clear_version names_area (versions i) ∷ clear_version grants_area (bases i) ∷ [])

-- and of one that is
pub parts_are : (keep base : ℕ) (was : BaseVersion) (oldest : Change) (at : List ℕ) (flag : ℕ) (names grants : List Entry) → base ≡ was.number → oldest.version ≡ base + 1 → length at ≡ number_size → at ++ flag ∷ [] ≡ change_body oldest
    → names ≡ own_names oldest → grants ≡ grants_under base was.grants
    → put_at state_area ([], number keep ++ number (base + 1) ++ at) ∷ hidden_names (base + 1) names ++ grants_moved flag (base + 1) grants ++ (clear_version versions_area (base + 1) ∷ clear_version names_area (base + 1) ∷ clear_version grants_area base ∷ []) ≡ folded keep was oldest
parts_are keep base was oldest at flag names grants bases next eight body names_is grants_is =
    ap (λ es. put_at state_area ([], number keep ++ number (base + 1) ++ at) ∷ es ++ grants_moved flag (base + 1) grants ++ (clear_version versions_area (base + 1) ∷ clear_version names_area (base + 1) ∷ clear_version grants_area base ∷ [])) (ap (hidden_names (base + 1)) names_is ∙ names_alone (base + 1) oldest.version oldest.rows)
    ∙ new_parts_are keep base was oldest at flag oldest.rows grants bases next eight body refl grants_is
