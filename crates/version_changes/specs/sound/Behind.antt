-- What is asked of the versions that changes lead to, one change after another.
use Rattle.std.specs.Prelude.{◌≤◌, ℕ, ⊤, List, [], ◌∷◌, length, take, unwrap_or}
use Rattle.std.specs.List.{AllByRecursion}
use Rattle.roster_types.specs.Keys.{count_of}
use Rattle.roster_values.specs.declared.kind.Kind.{Kind}
use Rattle.version_core.specs.Changes.{change_key, rows_of}
use Rattle.version_core.specs.Grants.{HasGrant}
use Rattle.version_core.specs.Order.{overlaid}
use Rattle.version_core.specs.Version.{row_limit}
use Rattle.version_core.specs.declared.change.Change.{Change}
use Rattle.version_core.specs.declared.grant_row.GrantRow.{GrantRow}
use Rattle.version_core.specs.declared.row_change.RowChange.{RowChange}

-- the grants after a change
abbrev pub grants_after : List GrantRow → Change → List GrantRow
grants_after grants change = unwrap_or change.grants grants

-- the grants after the last change
abbrev pub last_grants : List GrantRow → List Change → List GrantRow
last_grants grants [] = grants
last_grants grants (change ∷ changes) = last_grants (grants_after grants change) changes

-- these callers have their grants in the version of this number, from their `since` on
abbrev pub KeepAt : List GrantRow → ℕ → List GrantRow → Type 0
KeepAt newest number grants = AllByRecursion (λ row. row.grant.since ≤ number → HasGrant grants row) newest

-- these callers have their grants in each version that a change leads to, from their `since` on
abbrev pub KeepBehind : List GrantRow → List GrantRow → List Change → Type 0
KeepBehind newest grants [] = ⊤
KeepBehind newest grants (change ∷ changes) = KeepAt newest change.version (grants_after grants change) × KeepBehind newest (grants_after grants change) changes

-- the rows after changes
abbrev pub rows_behind : List RowChange → List Change → List RowChange
rows_behind rows [] = rows
rows_behind rows (change ∷ changes) = rows_behind (overlaid change_key rows change.rows) changes

-- no version has more rows of a kind than one may have
abbrev pub AreFew : Kind → List RowChange → List Change → Type 0
AreFew kind rows changes = (n : ℕ) → n ≤ length changes → count_of kind (rows_of (rows_behind rows (take n changes))) ≤ row_limit
