use Rattle.std.proofs.Common.{◌<◌, length, arith}
use Rattle.version_core.specs.Changes.{AreChanges}
use Rattle.version_changes.proofs.AdjacentLemmas.{all_left, all_more}
use Rattle.version_changes.proofs.sound.tables.see_order.Goals as goal

pub loop-change-preserved : goal.loop-change-preserved
loop-change-preserved c = λ rest.
    let within : c.loop-change.change-index < length c.args.changes.now = omega arith in
    all_more (λ change. AreChanges change.rows) c.args.changes.now c.loop-change.change-index c.change-item.result c.loop-change.invariant within c.change-item.is c.as_slice.ensures.sorted rest

pub returns : goal.returns
returns c = all_left (λ change. AreChanges change.rows) c.args.changes.now c.loop-change.change-index c.loop-change.invariant c.loop-change-test.false
