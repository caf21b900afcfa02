use Rattle.std.proofs.Common.{◌≡◌, List, subst}
use Rattle.sync_world.specs.Happenings.{Passed}
use Rattle.sync_world.specs.Planned.{events_at}
use Rattle.sync_world.specs.declared.past.Past.{Past}
use Rattle.sync_world.proofs.DeliveryLemmas.{is_carried}
use Rattle.sync_world.proofs.ExchangeLemmas.{if_ok_each, own_from}
use Rattle.sync_world.specs.Walks.{walks_on}
use Rattle.sync_world.proofs.world_link.carry.Goals as goal

pub returns-in-Ok-clause-own : goal.returns-in-Ok-clause-own
returns-in-Ok-clause-own c e q is xs ys =
    if_ok_each _ _ c.deliver.result (λ reply own. own_from xs ys c.args.world.now c.come_to_pass.new.world c.deliver.new.world q reply.items c.come_to_pass.ensures.walks own) (c.deliver.ensures.own e q is xs ys)

pub returns-in-Ok-clause-carried : goal.returns-in-Ok-clause-carried
returns-in-Ok-clause-carried c q is =
    let same : c.as_slice.result.now ≡ c.args.past.now.items = cc in
    is_carried (λ v. v.items) c.deliver.result c.args.exchange.now q
    (record { past = c.args.past.now.items; events = c.args.events.now.items; world = c.args.world.now; said = c.args.said.now.items })
    (record { past = c.deliver.new.past.items; events = c.come_to_pass.new.events.items; world = c.deliver.new.world; said = c.come_to_pass.new.said.items })
    c.come_to_pass.new.world
    (subst (λ (p : List Past). Passed p c.args.exchange.now.at (events_at c.args.exchange.now.number c.args.events.now.items) c.args.world.now c.come_to_pass.new.world c.args.said.now.items c.come_to_pass.new.said.items) same c.in-Ok.ensures.passed)
    c.in-Ok.ensures.aside (c.deliver.ensures.delivered q is)

pub returns-in-Ok-clause-walks : goal.returns-in-Ok-clause-walks
returns-in-Ok-clause-walks c = walks_on _ _ _ c.come_to_pass.ensures.walks c.deliver.ensures.walks
