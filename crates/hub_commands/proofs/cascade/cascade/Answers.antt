use Rattle.exchange_link.specs.Between.{copy_between}
use Rattle.hub_core.specs.declared.hub.Hub.{Hub}
use Rattle.hub_commands.proofs.Cascading.{cascade_not_opened, cascade_opened}
use Rattle.hub_commands.proofs.cascade.cascade.Goals as goal

pub returns-in-Ok : goal.returns-in-Ok
returns-in-Ok g c =
    let moment = g.K.Clock.moment c.args.clock.now in
    let count = g.H.HubKeeper.fault_count in
    let stands = g.H.HubKeeper.stands_for in
    let copies = copy_between g.C.CopyKeeper.stands_for g.C.CopyKeeper.fault_count c.args.copy.now c.cascade_into.new.copy in
    cascade_opened c.args.feed.now moment (count c.args.keeper.now) (count c.cascade_into.new.keeper) copies
    (stands c.args.keeper.now) (stands c.cascade_into.new.keeper) (count c.open.new.keeper) (stands c.open.new.keeper) c.cascade_into.result
    c.in-Ok.ensures.told c.in-Ok.ensures.cause c.cascade_into.ensures

pub returns-in-Err : goal.returns-in-Err
returns-in-Err g c =
    let moment = g.K.Clock.moment c.args.clock.now in
    let count = g.H.HubKeeper.fault_count in
    let stands = g.H.HubKeeper.stands_for in
    let copies = copy_between g.C.CopyKeeper.stands_for g.C.CopyKeeper.fault_count c.args.copy.now c.args.copy.now in
    rw (c.nothing_done.ensures, c.end_of_error.ensures)
    (cascade_not_opened c.args.feed.now moment (count c.args.keeper.now) (count c.open.new.keeper) copies
    (stands c.args.keeper.now) (stands c.open.new.keeper) Hub c.in-Err.error (λ copy stands. stands) c.in-Err.ensures.refused c.in-Err.ensures.cause c.in-Err.ensures.told)
