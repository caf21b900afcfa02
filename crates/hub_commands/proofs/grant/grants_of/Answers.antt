use Rattle.hub_commands.proofs.Granting.{reads_grants}
use Rattle.hub_commands.proofs.grant.grants_of.Goals as goal

pub returns-in-Ok-clause-grants : goal.returns-in-Ok-clause-grants
returns-in-Ok-clause-grants g c = reads_grants (g.F.Folder.files c.args.folder.now) (g.F.Folder.faults c.args.folder.now) (g.F.Folder.faults c.read.new.self) c.args.file.now c.in-Ok.read (rw c.as_str.ensures at c.in-Ok.ensures.bytes) c.in-Ok.ensures.cause c.grants_in.result c.grants_in.ensures
