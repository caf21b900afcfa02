use Rattle.hub_commands.specs.Outside.{faults_between}
use Rattle.script_runs.proofs.Refusals.{grants_refused}
use Rattle.script_runs.proofs.sources.grant.Goals as goal

pub returns-in-Err-clause-reads : goal.returns-in-Err-clause-reads
returns-in-Err-clause-reads g c =
    grants_refused (g.F.Folder.files c.args.folder.now) (faults_between g.F.Folder.faults c.args.folder.now c.grants_of.new.folder) c.in-Err.end c.args.file.now c.in-Err.ensures.grants c.refused.result c.refused.ensures
