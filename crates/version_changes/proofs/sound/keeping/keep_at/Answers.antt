use Rattle.std.proofs.Common.{◌<◌, ◌≤◌, length, arith}
use Rattle.version_core.specs.Grants.{HasGrant}
use Rattle.version_changes.proofs.AdjacentLemmas.{all_left, all_more}
use Rattle.version_changes.proofs.sound.keeping.keep_at.Goals as goal

pub loop-row-preserved : goal.loop-row-preserved
loop-row-preserved c = λ rest.
    let within : c.loop-row.row-index < length c.args.newest.now = omega arith in
    all_more (λ row. row.grant.since ≤ c.args.number → HasGrant c.args.grants.now row) c.args.newest.now c.loop-row.row-index c.row-item.result c.loop-row.invariant within c.row-item.is (c.has_at.ensures c.if-not-has_at.false) rest

pub returns : goal.returns
returns c = λ yes. all_left (λ row. row.grant.since ≤ c.args.number → HasGrant c.args.grants.now row) c.args.newest.now c.loop-row.row-index c.loop-row.invariant c.loop-row-test.false

pub has_at-requires : goal.has_at-requires
has_at-requires c = c.rise.ensures c.if-not-rise.false
