use Rattle.std.proofs.Common.{drop}
use Rattle.serde_json.specs.View.{items_view}
use Rattle.row_json.specs.CellTexts.{each}
use Rattle.row_json.specs.Deltas.{gone_item}
use Rattle.row_json.proofs.ItemSteps.{Collects}
use Rattle.row_json.proofs.delta.read_items.Given as goal

abbrev pub invariant-loop-item : goal.invariant-loop-item
invariant-loop-item l = Collects gone_item (each gone_item (items_view l.items)) l.ids.items (drop l.item-index l.items)
