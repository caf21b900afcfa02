use Rattle.std.proofs.Common.{◌∙◌, ap, arith, filter, slice_range}
use Rattle.std.specs.Prelude.{◌==◌}
use Rattle.version_core.specs.History.{history_key}
use Rattle.version_core.specs.declared.history.History.{History}
use Rattle.version_core.proofs.HistoryLemmas.{Ascends-histories}
use Rattle.version_core.proofs.KindCounts.{count_between, kept_between}
use Rattle.version_core.proofs.view.histories_of_kind.Goals as goal

pub slice_bounds-result-count : goal.slice_bounds-result-count
slice_bounds-result-count c =
    let histories = c.args.histories.now in
    let count = count_between history_key c.place-place.result histories (Ascends-histories histories c.requires.ascend) in
    omega (arith, c.count_before.ensures.count, c.count_through.ensures.count, count)

pub slice_bounds-result-start : goal.slice_bounds-result-start
slice_bounds-result-start c =
    let histories = c.args.histories.now in
    let count = count_between history_key c.place-place.result histories (Ascends-histories histories c.requires.ascend) in
    omega (arith, c.count_before.ensures.count, c.count_through.ensures.count, count)

pub returns : goal.returns
returns c =
    let histories = c.args.histories.now in
    (λ i. slice_range histories (c.count_before.ensures.count i) (c.count_through.ensures.count i))
    ∙ kept_between history_key c.place-place.result histories (Ascends-histories histories c.requires.ascend)
    ∙ ap (λ n. filter (λ (history : History). (history_key history).0 == n) histories) c.place-place.ensures
