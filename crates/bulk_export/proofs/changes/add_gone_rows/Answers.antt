use Rattle.std.proofs.Common.{◌<◌, length, arith}
use Rattle.std.specs.Prelude.{option_to_list}
use Rattle.reference_rules.proofs.ListSteps.{collects_end, collects_on}
use Rattle.bulk_export.specs.Steps.{gone_row, set_row}
use Rattle.bulk_export.proofs.changes.add_gone_rows.Goals as goal

pub loop-listed-preserved : goal.loop-listed-preserved
loop-listed-preserved c =
    let within : c.loop-listed.listed-index < length c.args.earlier.now = omega arith in
    rw c.in_ok-add_gone.ensures (collects_on (λ listed. option_to_list (gone_row c.args.at c.args.held.now (set_row listed))) c.args.earlier.now c.loop-listed.listed-index c.listed-item.result _ c.args.changes.now.items c.loop-listed.changes.items within c.listed-item.is c.loop-listed.invariant)

pub returns : goal.returns
returns c = collects_end (λ listed. option_to_list (gone_row c.args.at c.args.held.now (set_row listed))) c.args.earlier.now c.loop-listed.listed-index c.args.changes.now.items c.loop-listed.changes.items (omega arith) c.loop-listed.invariant
