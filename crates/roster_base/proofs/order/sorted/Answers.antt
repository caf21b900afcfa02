use Rattle.std.proofs.Common.{rules, ◌≡◌, ◌∙◌, subst, sym}
use Rattle.std.proofs.lemmas.Result.{IfOk-weaker}
use Rattle.roster_base.proofs.Firsts.{stable-in_order}
use Rattle.roster_base.proofs.Sorting.{IsPermutation-in_order, RiseBy-in_order, moved-in_order, rise-in_order}
use Rattle.std.specs.List.Sorted.{IsPermutation}
use Rattle.roster_base.specs.Order.{RiseBy, in_order}
use Rattle.roster_base.proofs.order.sorted.Goals as goal

pub returns-then-is_in_order-clause-rise : goal.returns-then-is_in_order-clause-rise
returns-then-is_in_order-clause-rise g c =
    let stays : c.args.items.items ≡ in_order g.T.Keyed.key_of c.args.items.items = search rules in
    subst (RiseBy g.T.Keyed.key_of) (sym stays) (rise-in_order g.T.Keyed.key_of c.args.items.items)

pub returns-then-is_in_order-clause-all : goal.returns-then-is_in_order-clause-all
returns-then-is_in_order-clause-all g c = λ d.
    let stays : c.args.items.items ≡ in_order g.T.Keyed.key_of c.args.items.items = search rules in
    subst (IsPermutation c.args.items.items) (sym stays) (moved-in_order g.T.Keyed.key_of c.args.items.items d)

pub returns-then-is_in_order-2-clause-value : goal.returns-then-is_in_order-2-clause-value
returns-then-is_in_order-2-clause-value g c =
    let stays : in_order g.T.Keyed.key_of c.sort.new.items.items ≡ c.sort.new.items.items = rw c.deref-2.ensures.value at (c.is_in_order-2.ensures c.if-is_in_order-2.true) in
    sym stays ∙ stable-in_order g.T.Keyed.key_of c.args.items.items c.sort.new.items.items c.in_ok-sort.ensures.stable

pub returns-then-is_in_order-2-clause-rise : goal.returns-then-is_in_order-2-clause-rise
returns-then-is_in_order-2-clause-rise g c =
    let stays : in_order g.T.Keyed.key_of c.sort.new.items.items ≡ c.sort.new.items.items = rw c.deref-2.ensures.value at (c.is_in_order-2.ensures c.if-is_in_order-2.true) in
    subst (RiseBy g.T.Keyed.key_of) stays (rise-in_order g.T.Keyed.key_of c.sort.new.items.items)

pub returns-clause-value : goal.returns-clause-value
returns-clause-value g c =
    let stays = stable-in_order g.T.Keyed.key_of c.args.items.items c.sort.new.items.items c.in_ok-sort.ensures.stable in
    IfOk-weaker c.firsts.result _ _ (λ v is. is ∙ stays) c.firsts.ensures

pub returns-clause-rise : goal.returns-clause-rise
returns-clause-rise g c = RiseBy-in_order g.T.Keyed.key_of c.sort.new.items.items c.firsts.result c.firsts.ensures

pub returns-clause-all : goal.returns-clause-all
returns-clause-all g c = λ d.
    let stays = stable-in_order g.T.Keyed.key_of c.args.items.items c.sort.new.items.items c.in_ok-sort.ensures.stable in
    IsPermutation-in_order g.T.Keyed.key_of c.args.items.items c.firsts.result (IfOk-weaker c.firsts.result _ _ (λ v is. is ∙ stays) c.firsts.ensures) d
