use Rattle.std.proofs.Common.{◌<◌, [], length, arith}
use Rattle.std.specs.Prelude.{option_to_list}
use Rattle.reference_rules.proofs.ListSteps.{collects_end, collects_on}
use Rattle.bulk_export.specs.Steps.{new_row}
use Rattle.bulk_export.proofs.changes.new_rows.Goals as goal

pub loop-row-preserved : goal.loop-row-preserved
loop-row-preserved c =
    let within : c.loop-row.row-index < length c.args.held.now = omega arith in
    rw c.in_ok-add_new.ensures (collects_on (λ row. option_to_list (new_row c.args.earlier.now row)) c.args.held.now c.loop-row.row-index c.row-item.result _ [] c.loop-row.changes.items within c.row-item.is c.loop-row.invariant)

pub returns : goal.returns
returns c = collects_end (λ row. option_to_list (new_row c.args.earlier.now row)) c.args.held.now c.loop-row.row-index [] c.loop-row.changes.items (omega arith) c.loop-row.invariant
