use Rattle.std.proofs.Common.{◌≡◌, ℕ, List, map, take}
use Rattle.item_store.specs.Items.{shown}
use Rattle.item_maps.specs.Edits.{entry_of}
use Rattle.item_store.proofs.items.items_of.Given as goal

abbrev pub invariant-loop-row : goal.invariant-loop-row
invariant-loop-row l = (items : List (List ℕ × List ℕ)) → l.fn.rows ≡ map shown items → map entry_of l.items.items ≡ take l.row-index items
