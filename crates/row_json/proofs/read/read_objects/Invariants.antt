use Rattle.std.proofs.Common.{◌≡◌, drop}
use Rattle.std.specs.List.{All}
use Rattle.serde_json.specs.View.{items_view}
use Rattle.roster_types.specs.Records.{Record}
use Rattle.row_json.specs.CellTexts.{each}
use Rattle.row_json.specs.Reading.{row_in}
use Rattle.row_json.proofs.ItemSteps.{Collects}
use Rattle.row_json.proofs.read.read_objects.Given as goal

abbrev pub invariant-loop-object : goal.invariant-loop-object
invariant-loop-object l = record {
  rows : Collects (row_in l.mode l.kind) (each (row_in l.mode l.kind) (items_view l.objects)) l.rows.items (drop l.object-index l.objects);
  kinds : All (λ (r : Record). r.kind ≡ l.kind) l.rows.items;
}
