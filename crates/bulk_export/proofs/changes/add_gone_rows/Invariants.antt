use Rattle.std.specs.Prelude.{option_to_list}
use Rattle.reference_rules.proofs.ListSteps.{Collects}
use Rattle.bulk_export.specs.Steps.{gone_row, set_row}
use Rattle.bulk_export.proofs.changes.add_gone_rows.Given as goal

abbrev pub invariant-loop-listed : goal.invariant-loop-listed
invariant-loop-listed l = Collects (λ listed. option_to_list (gone_row l.at l.held (set_row listed))) l.earlier l.listed-index l.fn.changes.items l.changes.items
