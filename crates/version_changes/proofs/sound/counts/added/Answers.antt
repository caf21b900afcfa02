use Rattle.std.proofs.Common.{◌+◌, ◌<◌, ap, drop, length, ◌∙◌, arith}
use Rattle.std.specs.Prelude.{count_by}
use Rattle.version_changes.specs.sets.Steps.{is_added}
use Rattle.version_changes.specs.sound.Behind.{rows_behind}
use Rattle.version_changes.proofs.SoundCounts.{count_left, count_more}
use Rattle.version_changes.proofs.sound.counts.added.Goals as goal

pub loop-change-preserved : goal.loop-change-preserved
loop-change-preserved c =
    let changes = c.args.changes.now in
    let i = c.loop-change.change-index in
    let count = c.loop-change.count in
    let test = is_added c.args.kind (rows_behind c.args.base.now c.args.earlier.now) in
    let within : i < length changes = omega arith in
    let one = c.new_count-count.ensures.one in
    let small = c.loop-change.invariant.small in
    record {
      sum = ap (λ n. (count + n) + count_by test (drop (i + 1) changes)) c.new_count-count.ensures.count ∙ count_more test changes i c.change-item.result count c.loop-change.invariant.sum within c.change-item.is;
      small = omega (arith, one, small);
    }

pub returns : goal.returns
returns c =
    count_left (is_added c.args.kind (rows_behind c.args.base.now c.args.earlier.now)) c.args.changes.now c.loop-change.change-index c.loop-change.count c.loop-change.invariant.sum c.loop-change-test.false
