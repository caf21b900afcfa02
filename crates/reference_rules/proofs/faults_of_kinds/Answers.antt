use Rattle.std.proofs.Common.{◌<◌, [], length, arith, refl}
use Rattle.reference_rules.proofs.ListSteps.{collects_end, collects_on}
use Rattle.reference_rules.specs.Faults.{kind_faults}
use Rattle.reference_rules.proofs.faults_of_kinds.Goals as goal

pub loop-kind-preserved : goal.loop-kind-preserved
loop-kind-preserved g c =
    let within : c.loop-kind.kind-index < length c.args.kinds.now = omega arith in
    rw c.in_ok-add_kind_faults.ensures (collects_on (kind_faults (g.R.Rows.rows c.args.rows.now)) c.args.kinds.now c.loop-kind.kind-index _ _ [] c.loop-kind.found.items within refl c.loop-kind.invariant)

pub returns : goal.returns
returns g c =
    collects_end (kind_faults (g.R.Rows.rows c.args.rows.now)) c.args.kinds.now c.loop-kind.kind-index [] c.loop-kind.found.items (omega arith) c.loop-kind.invariant
