use Rattle.std.proofs.Common.{Some, option_map, sym, ap, ◌∙◌}
use Rattle.roster_base.proofs.Kept.{last_key-get}
use Rattle.roster_base.specs.Order.{is_below}
use Rattle.roster_base.proofs.order.is_above_last.Goals as goal

pub returns-in-Some : goal.returns-in-Some
returns-in-Some g c =
    let key = g.T.Keyed.key_of in
    c.is_below.ensures ∙ (λ i. is_below (Some (c.key.ensures i)) (c.key-in-Some.ensures i))
    ∙ ap (λ last. is_below last (key c.args.item.now)) (ap (option_map key) c.in-Some.ensures.value ∙ sym (last_key-get key c.args.kept.now))
