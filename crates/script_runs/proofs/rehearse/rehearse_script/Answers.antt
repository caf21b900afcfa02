use Rattle.std.proofs.Common.{ap, ◌∙◌}
use Rattle.hub_commands.specs.Outside.{faults_between}
use Rattle.script_runs.proofs.Rehearsing.{run_told}
use Rattle.script_runs.proofs.rehearse.rehearse_script.Goals as goal

pub returns : goal.returns
returns g c =
    run_told (g.F.Folder.files c.args.folder.now) (faults_between g.F.Folder.faults c.args.folder.now c.run_script-end.new.folder) c.args.script.lines
    c.print_end.result (g.O.Sink.written c.args.out.now) (g.O.Sink.written c.run_script-end.new.out) (g.O.Sink.written c.print_end.new.out)
    (g.O.Sink.faults c.args.out.now) (g.O.Sink.faults c.run_script-end.new.out) (g.O.Sink.faults c.print_end.new.out)
    c.run_script-end.result c.run_script-end.ensures.written c.run_script-end.ensures.folder_failed c.run_script-end.ensures.folder_stood c.run_script-end.ensures.sink_failed c.run_script-end.ensures.sink_stood
    (λ ended is. c.print_end.ensures.done ended (c.end_in.ensures ∙ is))
    (λ is. let idle = c.print_end.ensures.none (c.end_in.ensures ∙ is) in (idle.0, ap g.O.Sink.written idle.1, ap g.O.Sink.faults idle.1))
