use Rattle.hub_commands.proofs.Granting.{granted}
use Rattle.hub_commands.specs.Outside.{faults_between, outside_between}
use Rattle.hub_commands.proofs.grant.grant_into.Goals as goal

pub returns : goal.returns
returns g c =
    granted (outside_between g.F.Folder.files g.F.Folder.faults c.args.folder.now c.set_grants-answer.new.folder (g.K.Clock.moment c.args.clock.now) (faults_between g.H.HubKeeper.fault_count c.args.keeper.now c.set_grants-answer.new.keeper)) c.args.file.now
    (g.H.HubKeeper.stands_for c.args.keeper.now) (g.H.HubKeeper.stands_for c.set_grants-answer.new.keeper) c.args.hub c.set_grants-answer.new.hub c.set_grants-answer.result c.told.result
    c.requires.kept c.requires.settled c.set_grants-answer.ensures.fits c.set_grants-answer.ensures.told c.told.ensures
