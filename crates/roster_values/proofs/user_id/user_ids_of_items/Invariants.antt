use Rattle.std.proofs.Common.{◌≡◌, drop}
use Rattle.roster_values.specs.Lists.{user_id_of, read_all}
use Rattle.roster_values.proofs.ListSteps.{onto}
use Rattle.roster_values.proofs.user_id.user_ids_of_items.Given as goal

abbrev pub invariant-loop-item : goal.invariant-loop-item
invariant-loop-item l = record {
  same : read_all user_id_of l.items ≡ onto l.user_ids (read_all user_id_of (drop l.item-index l.items));
}
