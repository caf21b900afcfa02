use Rattle.std.proofs.Common.{◌<◌, get_or, length, arith, refl, sym}
use Rattle.roster_base.proofs.ListSteps.{next_item}
use Rattle.csv_sets.proofs.ManifestSteps.{lists_end, lists_on}
use Rattle.csv_sets.proofs.manifest.files_said.Goals as goal

pub loop-kind-preserved : goal.loop-kind-preserved
loop-kind-preserved c =
    let within : c.loop-kind.kind-index < length c.args.kinds.now = omega arith in
    rw c.in_ok-push_listed.ensures (lists_on (get_or c.args.kinds.now c.loop-kind.kind-index _) _ c.loop-kind.invariant (next_item _ _ _ _ within refl) (sym c.mode_of.ensures))

pub returns : goal.returns
returns c = lists_end c.loop-kind.invariant (omega arith)
