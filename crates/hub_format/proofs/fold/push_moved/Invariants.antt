use Rattle.std.proofs.Common.{◌≡◌, ◌++◌, map, take}
use Rattle.item_maps.specs.Edits.{entry_of}
use Rattle.hub_format.specs.Areas.{area_number}
use Rattle.hub_format.specs.Edits.{puts}
use Rattle.hub_format.specs.Moves.{all_moved}
use Rattle.hub_format.proofs.fold.push_moved.Given as goal

abbrev pub invariant-loop-item : goal.invariant-loop-item
invariant-loop-item l = l.edits.items ≡ l.fn.edits.items ++ puts (area_number l.area) (all_moved l.prefix (map entry_of (take l.item-index l.items)))
