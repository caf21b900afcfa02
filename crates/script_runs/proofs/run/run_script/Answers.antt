use Rattle.std.proofs.Common.{List, subst}
use Rattle.script_runs.specs.Runs.{Writes}
use Rattle.world_scripts.specs.declared.script.Line.{Line}
use Rattle.script_runs.proofs.Walking.{gone_nowhere}
use Rattle.script_runs.proofs.run.run_script.Goals as goal

pub returns-in-Err-clause-written : goal.returns-in-Err-clause-written
returns-in-Err-clause-written g c = gone_nowhere (g.F.Folder.files c.args.folder.now) c.args.script.now.lines (g.O.Sink.written c.args.out.now)

pub returns-in-Ok-clause-written : goal.returns-in-Ok-clause-written
returns-in-Ok-clause-written g c =
    subst (λ (lines : List Line). Writes (g.F.Folder.files c.args.folder.now) lines (g.O.Sink.written c.args.out.now) (g.O.Sink.written c.run_lines-end.new.out) c.run_lines-end.result) c.as_slice-lines.ensures c.run_lines-end.ensures.written
