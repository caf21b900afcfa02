use Rattle.std.proofs.Common.{◌≡◌, ℕ, List, drop, length, map, take}
use Rattle.std.specs.List.{AllByRecursion}
use Rattle.item_maps.specs.Edits.{entry_of}
use Rattle.item_maps.specs.declared.item.Item.{Item}
use Rattle.version_core.specs.Changes.{change_key}
use Rattle.version_core.specs.declared.row_change.RowChange.{RowChange}
use Rattle.hub_format.specs.Format.{rows_under}
use Rattle.hub_format.specs.Pieces.{IsReadBack, key_label}
use Rattle.hub_format.proofs.read_rows.rows_of.Given as goal

abbrev pub invariant-loop-item : goal.invariant-loop-item
invariant-loop-item l =
    ((prefix : List ℕ) (rows : List RowChange) → length prefix ≡ l.skip → AllByRecursion IsReadBack rows → map entry_of l.items ≡ rows_under prefix rows → l.found.items ≡ take l.item-index rows)
    × (map (λ (item : Item). drop l.skip item.label) (take l.item-index l.items) ≡ map (λ (row : RowChange). key_label (change_key row)) l.found.items)
