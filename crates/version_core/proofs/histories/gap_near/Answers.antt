use Rattle.roster_values.specs.Kinds.{place_of_kind}
use Rattle.std.proofs.Common.{get_or, not, option_copied, rules}
use Rattle.std.proofs.lemmas.Bool.{not-false, not-true}
use Rattle.std.proofs.lemmas.List.Sorted.{IsPartitionPoint-from_clause}
use Rattle.version_core.specs.History.{history_key, is_beyond_key}
use Rattle.version_core.specs.declared.history.History.{History}
use Rattle.version_core.proofs.HistoryNext.{parted}
use Rattle.version_core.proofs.histories.gap_near.Goals as goal

pub returns : goal.returns
returns c =
    let histories = c.args.histories.now in
    let after = option_copied c.args.after in
    let k = place_of_kind c.args.kind in
    let n = c.partition_point.result in
    let split = IsPartitionPoint-from_clause (λ (history : History). not (is_beyond_key k after (history_key history))) histories n c.partition_point.ensures.partitioned (parted k after histories c.requires) (λ a r f called. (search rules, search rules)) in
    record {
      bound = c.partition_point.ensures.bound;
      before = λ i d le lt. not-true (is_beyond_key k after (history_key (get_or histories i d))) (split.0 i d le lt);
      beyond = λ i d le lt. not-false (is_beyond_key k after (history_key (get_or histories i d))) (split.1 i d le lt);
    }
