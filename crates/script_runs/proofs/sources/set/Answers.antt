use Rattle.hub_commands.specs.Outside.{faults_between}
use Rattle.script_runs.proofs.Refusals.{set_refused}
use Rattle.script_runs.proofs.sources.set.Goals as goal

pub returns-in-Err-clause-reads : goal.returns-in-Err-clause-reads
returns-in-Err-clause-reads g c =
    set_refused (g.F.Folder.files c.args.folder.now) (faults_between g.F.Folder.faults c.args.folder.now c.set_of.new.folder) c.in-Err.end c.args.feed.now c.in-Err.ensures.set c.refused.result c.refused.ensures
