use Rattle.std.proofs.Common.{◌<◌, ◌+◌, drop, length, subst, arith}
use Rattle.version_changes.specs.sound.Behind.{KeepAt, KeepBehind}
use Rattle.version_changes.proofs.KeepingLemmas.{keep_left, keep_more}
use Rattle.version_changes.proofs.sound.keeping.keep_behind.Goals as goal

pub loop-change-preserved : goal.loop-change-preserved
loop-change-preserved c = λ rest.
    let changes = c.args.changes.now in
    let i = c.loop-change.change-index in
    let newest = c.args.newest.now in
    let change = c.change-item.result in
    let within : i < length changes = omega arith in
    keep_more newest c.args.grants.now c.loop-change.current.now changes i change c.loop-change.invariant within c.change-item.is
    (subst (KeepAt newest change.version) c.grants_after-current.ensures (c.keep_at.ensures c.if-not-keep_at.false))
    (subst (λ grants. KeepBehind newest grants (drop (i + 1) changes)) c.grants_after-current.ensures rest)

pub returns : goal.returns
returns c = λ yes. keep_left c.args.newest.now c.args.grants.now c.loop-change.current.now c.args.changes.now c.loop-change.change-index c.loop-change.invariant c.loop-change-test.false
