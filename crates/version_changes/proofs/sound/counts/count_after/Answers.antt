use Rattle.std.proofs.Common.{◌≡◌, ◌+◌, take, sym, ◌∙◌}
use Rattle.roster_types.specs.Keys.{count_of}
use Rattle.version_changes.specs.sets.Steps.{added}
use Rattle.version_core.specs.Changes.{rows_of}
use Rattle.version_changes.specs.sound.Behind.{rows_behind}
use Rattle.version_changes.proofs.SoundCounts.{counted_more, if_some}
use Rattle.version_changes.proofs.sound.counts.count_after.Goals as goal

pub returns-clause-count : goal.returns-clause-count
returns-clause-count c =
    let kind = c.args.kind in
    let base = c.args.base.now in
    let changes = c.args.changes.now in
    let change = c.index-changes-place.result in
    let more : c.added-more.result ≡ added kind (rows_behind base (take c.args.place changes)) change.rows =
    c.added-more.ensures ∙ (λ i. added kind (rows_behind base (c.earlier.ensures i)) (c.as_slice.ensures.changes i)) in
    if_some c.sum_of.result (λ n. n ≡ c.args.count + c.added-more.result) (λ n. n ≡ count_of kind (rows_of (rows_behind base (take (c.args.place + 1) changes))))
    (λ n sum. sum ∙ (λ i. c.requires.count i + more i) ∙ sym (counted_more kind base changes c.args.place change c.requires.rows c.as_slice.ensures.sorted c.requires.place c.index-changes-place.is))
    c.sum_of.ensures.sum
