use Rattle.std.proofs.Common.{◌≡◌, ◌++◌, None, length}
use Rattle.std.specs.Vec.Iter.{into_iter_items, into_iter_len}
use Rattle.roster_base.proofs.Kept.{kept}
use Rattle.roster_base.specs.Order.{last_key}
use Rattle.roster_base.proofs.order.firsts.Given as goal

-- the items kept so far, and those of the rest that will be, are those of all
abbrev pub invariant-loop-item : goal.invariant-loop-item
invariant-loop-item g l = record {
  kept : l.kept.items ++ kept g.T.Keyed.key_of (last_key g.T.Keyed.key_of l.kept.items) (into_iter_items l.item-iterator) ≡ kept g.T.Keyed.key_of None l.fn.items.items;
  left : into_iter_len l.item-iterator ≡ length (into_iter_items l.item-iterator);
}
