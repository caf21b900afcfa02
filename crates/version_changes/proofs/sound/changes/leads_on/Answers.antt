use Rattle.std.proofs.Common.{◌<◌, length, arith}
use Rattle.version_changes.proofs.ChangeLemmas.{leads_all, leads_more}
use Rattle.version_changes.proofs.sound.changes.leads_on.Goals as goal

pub loop-change-preserved : goal.loop-change-preserved
loop-change-preserved c = λ rest.
    let within : c.loop-change.change-index < length c.args.changes.now = omega arith in
    leads_more c.args.number c.loop-change.last c.args.changes.now c.loop-change.change-index c.change-item.result c.loop-change.invariant within c.change-item.is (c.is_next.ensures c.if-not-is_next.false).0 rest

pub returns : goal.returns
returns c = λ yes. leads_all c.args.number c.loop-change.last c.args.changes.now c.loop-change.change-index c.loop-change.invariant c.loop-change-test.false
