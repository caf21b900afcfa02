use Rattle.version_changes.specs.sound.Behind.{AreFew}
use Rattle.version_changes.proofs.AdjacentLemmas.{all_at, all_left}
use Rattle.version_changes.proofs.sound.counts.all_few.Goals as goal

pub loop-kind-preserved : goal.loop-kind-preserved
loop-kind-preserved c = λ rest.
    all_at (λ kind. AreFew kind c.args.base.now c.args.changes.now) c.args.kinds.now c.loop-kind.kind-index _ c.loop-kind.invariant c.loop-kind-test.true (c.few_of.ensures c.if-not-few_of.false) rest

pub returns : goal.returns
returns c = λ yes. all_left (λ kind. AreFew kind c.args.base.now c.args.changes.now) c.args.kinds.now c.loop-kind.kind-index c.loop-kind.invariant c.loop-kind-test.false
