use Rattle.std.proofs.Common.{◌<◌, ap, drop, length, ◌+◌, ◌∙◌, sym, arith}
use Rattle.version_changes.specs.sound.Behind.{last_grants}
use Rattle.version_changes.proofs.KeepingLemmas.{last_left, last_more}
use Rattle.version_changes.proofs.sound.keeping.last_grants.Goals as goal

pub loop-change-preserved : goal.loop-change-preserved
loop-change-preserved c =
    let changes = c.args.changes.now in
    let i = c.loop-change.change-index in
    let within : i < length changes = omega arith in
    last_more c.args.grants.now c.loop-change.current.now changes i c.change-item.result c.loop-change.invariant within c.change-item.is ∙ ap (λ grants. last_grants grants (drop (i + 1) changes)) (sym c.grants_after-current.ensures)

pub returns : goal.returns
returns c = last_left c.args.grants.now c.loop-change.current.now c.args.changes.now c.loop-change.change-index c.loop-change.invariant c.loop-change-test.false
