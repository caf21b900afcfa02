use Rattle.std.specs.Prelude.{[], option_to_list}
use Rattle.reference_rules.proofs.ListSteps.{Collects}
use Rattle.bulk_export.specs.Steps.{new_row}
use Rattle.bulk_export.proofs.changes.new_rows.Given as goal

abbrev pub invariant-loop-row : goal.invariant-loop-row
invariant-loop-row l = Collects (λ row. option_to_list (new_row l.earlier row)) l.held l.row-index [] l.changes.items
