use Rattle.std.proofs.Common.{Some, drop, string_bytes}
use Rattle.serde_json.specs.View.{items_view}
use Rattle.roster_values.specs.Table.{form_of}
use Rattle.row_json.specs.CellTexts.{item_text, list_text}
use Rattle.row_json.proofs.ItemSteps.{Joins}
use Rattle.row_json.proofs.cell_texts.joined.Given as goal

abbrev pub invariant-loop-item : goal.invariant-loop-item
invariant-loop-item l =
    Joins (item_text (form_of l.form)) (list_text (form_of l.form) (Some (items_view l.items))) (string_bytes l.text) l.is_later (drop l.item-index l.items)
