use Rattle.std.proofs.Common.{leb, rules, sym}
use Rattle.std.proofs.lemmas.List.Sorted.{IsPartitionPoint-from_clause}
use Rattle.version_core.specs.History.{history_key}
use Rattle.version_core.specs.declared.history.History.{History}
use Rattle.version_core.proofs.HistoryLemmas.{Ascends-histories}
use Rattle.version_core.proofs.KindCounts.{parted_through, prefix_is}
use Rattle.version_core.proofs.view.count_through.Goals as goal

pub returns-clause-count : goal.returns-clause-count
returns-clause-count c =
    let histories = c.args.histories.now in
    let test = λ (history : History). leb (history_key history).0 c.args.place in
    let parts = IsPartitionPoint-from_clause test histories c.partition_point.result c.partition_point.ensures.partitioned (parted_through history_key c.args.place histories (Ascends-histories histories c.requires.ascend)) (λ a r f called. (search rules, search rules)) in
    sym (prefix_is test histories c.partition_point.result c.partition_point.ensures.bound parts.0 parts.1)
