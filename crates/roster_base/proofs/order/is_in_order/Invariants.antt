use Rattle.std.proofs.Common.{◌≡◌, drop, option_copied, None}
use Rattle.roster_base.proofs.Rising.{rises}
use Rattle.roster_base.proofs.order.is_in_order.Given as goal

abbrev pub invariant-loop-item : goal.invariant-loop-item
invariant-loop-item g l = rises g.T.Keyed.key_of (option_copied l.below) (drop l.item-index l.items) ≡ rises g.T.Keyed.key_of None l.items
