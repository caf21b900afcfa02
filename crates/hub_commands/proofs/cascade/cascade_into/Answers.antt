use Rattle.exchange_link.specs.Between.{copy_between}
use Rattle.hub_commands.proofs.Cascading.{cascaded}
use Rattle.hub_commands.specs.Outside.{faults_between}
use Rattle.hub_commands.proofs.cascade.cascade_into.Goals as goal

pub returns : goal.returns
returns g c =
    cascaded c.args.feed.now (g.K.Clock.moment c.args.clock.now) (faults_between g.H.HubKeeper.fault_count c.args.keeper.now c.cascade-made.new.keeper) (copy_between g.C.CopyKeeper.stands_for g.C.CopyKeeper.fault_count c.args.copy.now c.cascade-made.new.copy)
    c.moment_of.result c.moment_of.ensures c.cascade-made.ensures.same
    (g.H.HubKeeper.stands_for c.args.keeper.now) (g.H.HubKeeper.stands_for c.cascade-made.new.keeper) c.args.hub c.cascade-made.new.hub c.cascade-made.result c.told.result
    c.requires.kept c.requires.settled c.cascade-made.ensures.fits c.cascade-made.ensures.told c.cascade-made.ensures.held c.cascade-made.ensures.hub_cause c.cascade-made.ensures.copy_cause
    (rw (c.as_str.ensures.text, c.or_ended.ensures) at c.told.ensures)
