-- Versions that hold rows.
use Rattle.std.proofs.Common.{List, [], ◌∷◌, ◌++◌}
use Rattle.std.specs.List.{AllByRecursion, flat_map}
use Rattle.std.specs.declared.cmp.Ordering.TheVariants.{Less, Equal, Greater}
use Rattle.hub_spec.specs.rules.States.{HoldsRows}
use Rattle.roster_types.specs.Keys.{key_cmp}
use Rattle.version_core.specs.Changes.{change_key}
use Rattle.version_core.specs.Order.{by_order, overlaid, put}
use Rattle.version_core.specs.Version.{after, versions_from}
use Rattle.version_core.specs.declared.change.BaseVersion.{BaseVersion}
use Rattle.version_core.specs.declared.change.Change.{Change}
use Rattle.version_core.specs.declared.row_change.RowChange.{RowChange}
use Rattle.roster_types.specs.declared.set.SetPart.{SetPart}
use Rattle.roster_types.specs.declared.set_row.SetRow.{SetRow}
use Rattle.sync_world.specs.Rows.{AreListed, AreRows, BringRows}

rows_put : (x : RowChange) (ys : List RowChange) → AreRows ys → AreRows (x ∷ []) → AreRows (put change_key x ys)
rows_put x [] all here = here
rows_put x (y ∷ ys) all here =
    elim (key_cmp (change_key x) (change_key y)) as (λ o. AreRows (by_order o (x ∷ y ∷ ys) (x ∷ ys) (y ∷ put change_key x ys))) [
      | Less ↦ (here.0, all)
      | Equal ↦ (here.0, all.1)
      | Greater ↦ (all.0, rows_put x ys all.1 here)
    ]

rows_overlaid : (base changes : List RowChange) → AreRows base → AreRows changes → AreRows (overlaid change_key base changes)
rows_overlaid base [] are brings = are
rows_overlaid base (change ∷ changes) are brings = rows_put change (overlaid change_key base changes) (rows_overlaid base changes are brings.1) (brings.0, tt)

-- changes that bring rows lead from rows to rows
pub versions_hold : (base : BaseVersion) (changes : List Change) → AreRows base.rows → BringRows changes → AllByRecursion HoldsRows (versions_from base changes)
versions_hold base [] are brings = (are, tt)
versions_hold base (change ∷ changes) are brings = (are, versions_hold (after base change) changes (rows_overlaid base.rows change.rows are brings.0) brings.1)

listed_on : (xs ys : List SetRow) → AreListed xs → AreListed ys → AreListed (xs ++ ys)
listed_on [] ys one two = two
listed_on (x ∷ xs) ys one two = (one.0, listed_on xs ys one.1 two)

-- a set lists rows where its parts do
pub set_lists : (parts : List SetPart) → AllByRecursion (λ (part : SetPart). AreListed part.rows) parts → AreListed (flat_map (λ (part : SetPart). part.rows) parts)
set_lists [] all = tt
set_lists (part ∷ parts) all = listed_on part.rows (flat_map (λ (p : SetPart). p.rows) parts) all.0 (set_lists parts all.1)
