use Rattle.std.proofs.Common.{◌∙◌, None, option_copied, sym}
use Rattle.std.proofs.lemmas.List.{at_drop_all}
use Rattle.roster_base.proofs.Rising.{rises, stays_in_order}
use Rattle.roster_base.proofs.order.is_in_order.Goals as goal

pub returns : goal.returns
returns g c = λ _.
    stays_in_order g.T.Keyed.key_of None c.args.items.now
    (sym c.loop-item.invariant ∙ at_drop_all (rises g.T.Keyed.key_of (option_copied c.loop-item.below)) c.args.items.now c.loop-item.item-index c.loop-item-test.false)
