use Rattle.hub_commands.proofs.Telling.{writes_as}
use Rattle.script_runs.proofs.Rehearsing.{of_file}
use Rattle.script_runs.proofs.rehearse.rehearse.Goals as goal

pub returns-in-Ok : goal.returns-in-Ok
returns-in-Ok g c =
    writes_as _ _
    (of_file (g.F.Folder.files c.args.folder.now) (g.F.Folder.files c.bytes_of.new.folder) (g.F.Folder.faults c.args.folder.now) (g.F.Folder.faults c.bytes_of.new.folder) (g.F.Folder.faults c.rehearse_bytes.new.folder)
    c.args.file.now c.in-Ok.bytes c.in-Ok.ensures.files c.in-Ok.ensures.bytes.1 c.in-Ok.ensures.bytes.0)
    c.rehearse_bytes.ensures
