use Rattle.std.proofs.Common.{◌<◌, length, arith}
use Rattle.std.specs.Option.{ForSome}
use Rattle.version_core.specs.Grants.{AreGrants}
use Rattle.version_changes.proofs.AdjacentLemmas.{all_left, all_more}
use Rattle.version_changes.proofs.sound.keeping.are_all_own.Goals as goal

pub loop-change-preserved : goal.loop-change-preserved
loop-change-preserved c = λ rest.
    let within : c.loop-change.change-index < length c.args.changes.now = omega arith in
    all_more (λ change. ForSome change.grants (AreGrants change.version)) c.args.changes.now c.loop-change.change-index c.change-item.result c.loop-change.invariant within c.change-item.is (c.are_own.ensures c.if-not-are_own.false) rest

pub returns : goal.returns
returns c = λ yes. all_left (λ change. ForSome change.grants (AreGrants change.version)) c.args.changes.now c.loop-change.change-index c.loop-change.invariant c.loop-change-test.false
