use Rattle.hub_core.specs.declared.hub.Hub.{Hub}
use Rattle.hub_commands.proofs.Granting.{grant_not_opened, grant_opened}
use Rattle.hub_commands.specs.Outside.{faults_between}
use Rattle.hub_commands.proofs.grant.grant.Goals as goal

pub returns-in-Ok : goal.returns-in-Ok
returns-in-Ok g c =
    let files = g.F.Folder.files c.args.folder.now in
    let moment = g.K.Clock.moment c.args.clock.now in
    let folder = faults_between g.F.Folder.faults c.args.folder.now c.grant_into.new.folder in
    let count = g.H.HubKeeper.fault_count in
    let stands = g.H.HubKeeper.stands_for in
    grant_opened files moment folder (count c.args.keeper.now) (count c.grant_into.new.keeper)
    (stands c.args.keeper.now) (stands c.grant_into.new.keeper) c.args.file.now (count c.open.new.keeper) (stands c.open.new.keeper) c.grant_into.result
    c.in-Ok.ensures.told c.in-Ok.ensures.cause c.grant_into.ensures

pub returns-in-Err : goal.returns-in-Err
returns-in-Err g c =
    let files = g.F.Folder.files c.args.folder.now in
    let moment = g.K.Clock.moment c.args.clock.now in
    let folder = faults_between g.F.Folder.faults c.args.folder.now c.args.folder.now in
    let count = g.H.HubKeeper.fault_count in
    let stands = g.H.HubKeeper.stands_for in
    rw (c.nothing_done.ensures, c.end_of_error.ensures)
    (grant_not_opened files moment folder (count c.args.keeper.now) (count c.open.new.keeper)
    (stands c.args.keeper.now) (stands c.open.new.keeper) c.args.file.now Hub c.in-Err.error c.in-Err.ensures.refused c.in-Err.ensures.cause c.in-Err.ensures.told)
