use Rattle.std.proofs.Common.{◌≡◌, drop}
use Rattle.serde_json.specs.View.{items_view}
use Rattle.row_json.specs.Reading.{are_objects}
use Rattle.row_json.proofs.read.are_objects.Given as goal

abbrev pub invariant-loop-value : goal.invariant-loop-value
invariant-loop-value l = record { same : are_objects (items_view (drop l.value-index l.values)) ≡ are_objects (items_view l.values) }
