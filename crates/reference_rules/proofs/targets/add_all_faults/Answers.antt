use Rattle.std.proofs.Common.{◌<◌, length, arith}
use Rattle.roster_values.specs.Table.{info_of}
use Rattle.reference_rules.proofs.ListSteps.{collects_end, collects_on}
use Rattle.reference_rules.specs.Faults.{target_faults}
use Rattle.reference_rules.proofs.targets.add_all_faults.Goals as goal

pub loop-id-preserved : goal.loop-id-preserved
loop-id-preserved g c =
    let within : c.loop-id.id-index < length c.args.ids.now = omega arith in
    rw c.in_ok-add_target_faults.ensures (collects_on (target_faults (g.R.Rows.rows c.args.rows.now) c.args.row.now (info_of c.args.info.now)) c.args.ids.now c.loop-id.id-index c.id-item.result _
    c.args.found.now.items c.loop-id.found.items within c.id-item.is c.loop-id.invariant)

pub returns : goal.returns
returns g c =
    collects_end (target_faults (g.R.Rows.rows c.args.rows.now) c.args.row.now (info_of c.args.info.now)) c.args.ids.now c.loop-id.id-index c.args.found.now.items c.loop-id.found.items (omega arith)
    c.loop-id.invariant
