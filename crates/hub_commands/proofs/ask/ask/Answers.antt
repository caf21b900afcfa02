use Rattle.hub_core.specs.declared.hub.Hub.{Hub}
use Rattle.hub_commands.proofs.Asking.{asks_closed, asks_file, asks_not, asks_opened}
use Rattle.hub_commands.proofs.Telling.{writes_as}
use Rattle.hub_commands.specs.Outside.{faults_between}
use Rattle.hub_commands.proofs.ask.ask.Goals as goal

pub returns-in-Ok-bytes_of : goal.returns-in-Ok-bytes_of
returns-in-Ok-bytes_of g c =
    let files = g.F.Folder.files c.args.folder.now in
    let moment = g.K.Clock.moment c.args.clock.now in
    let folder = faults_between g.F.Folder.faults c.args.folder.now c.bytes_of.new.folder in
    let count = g.H.HubKeeper.fault_count in
    let stands = g.H.HubKeeper.stands_for in
    writes_as _ _
    (asks_opened files moment folder c.args.file.now
    (count c.args.keeper.now) (count c.ask_opened.new.keeper) (stands c.args.keeper.now) (stands c.ask_opened.new.keeper)
    (count c.open.new.keeper) (stands c.open.new.keeper) c.in-Ok.ensures.told c.in-Ok.ensures.cause)
    (writes_as _ _
    (asks_file files moment folder c.args.file.now
    (count c.open.new.keeper) (count c.ask_opened.new.keeper) (stands c.open.new.keeper) (stands c.ask_opened.new.keeper) c.in-Ok-bytes_of.bytes c.in-Ok-bytes_of.ensures.bytes)
    c.ask_opened.ensures)

pub returns-in-Err-bytes_of : goal.returns-in-Err-bytes_of
returns-in-Err-bytes_of g c =
    let files = g.F.Folder.files c.args.folder.now in
    let moment = g.K.Clock.moment c.args.clock.now in
    let folder = faults_between g.F.Folder.faults c.args.folder.now c.bytes_of.new.folder in
    let count = g.H.HubKeeper.fault_count in
    let stands = g.H.HubKeeper.stands_for in
    writes_as _ _
    (asks_opened files moment folder c.args.file.now
    (count c.args.keeper.now) (count c.open.new.keeper) (stands c.args.keeper.now) (stands c.open.new.keeper)
    (count c.open.new.keeper) (stands c.open.new.keeper) c.in-Ok.ensures.told c.in-Ok.ensures.cause)
    (writes_as _ _
    (λ a printed. asks_not files moment folder c.args.file.now
    (stands c.open.new.keeper) (count c.open.new.keeper) c.in-Err-bytes_of.end c.in-Err-bytes_of.ensures.bytes a (rw c.nothing_done-in-Err-bytes_of.ensures at printed)) c.tell-in-Err-bytes_of.ensures)

pub returns-in-Err : goal.returns-in-Err
returns-in-Err g c =
    let files = g.F.Folder.files c.args.folder.now in
    let moment = g.K.Clock.moment c.args.clock.now in
    let folder = faults_between g.F.Folder.faults c.args.folder.now c.args.folder.now in
    let count = g.H.HubKeeper.fault_count in
    let stands = g.H.HubKeeper.stands_for in
    writes_as _ _
    (λ a printed. asks_closed files moment folder c.args.file.now
    (count c.args.keeper.now) (count c.open.new.keeper) (stands c.args.keeper.now) (stands c.open.new.keeper)
    Hub c.in-Err.error c.in-Err.ensures.refused c.in-Err.ensures.cause c.in-Err.ensures.told a (rw (c.nothing_done.ensures, c.end_of_error.ensures) at printed))
    c.tell.ensures
