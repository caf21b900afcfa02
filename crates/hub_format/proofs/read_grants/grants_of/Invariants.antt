use Rattle.std.proofs.Common.{◌≡◌, ℕ, List, map, take}
use Rattle.std.specs.List.{AllByRecursion}
use Rattle.item_maps.specs.Edits.{entry_of}
use Rattle.version_core.specs.declared.grant_row.GrantRow.{GrantRow}
use Rattle.hub_format.specs.Format.{FitsGrant, grants_under}
use Rattle.hub_format.specs.Behind.{entry_behind, own_entry}
use Rattle.hub_format.proofs.read_grants.grants_of.Given as goal

abbrev pub invariant-loop-item : goal.invariant-loop-item
invariant-loop-item l =
    ((version : ℕ) (grants : List GrantRow) → AllByRecursion FitsGrant grants → map entry_of l.items ≡ grants_under version grants → l.found.items ≡ take l.item-index grants)
    × (map entry_behind (take l.item-index l.items) ≡ map own_entry l.found.items)
