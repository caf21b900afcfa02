use Rattle.std.proofs.Common.{◌≡◌}
use Rattle.script_runs.proofs.Walking.{Gone}
use Rattle.script_runs.proofs.run.run_lines.Given as goal

abbrev pub invariant-loop-line : goal.invariant-loop-line
invariant-loop-line g l = record {
  gone : Gone (g.F.Folder.files l.fn.folder) l.lines l.line-index l.play (g.O.Sink.written l.fn.out) (g.O.Sink.written l.out);
  files : g.F.Folder.files l.folder ≡ g.F.Folder.files l.fn.folder;
  folder : g.F.Folder.faults l.folder ≡ g.F.Folder.faults l.fn.folder;
  sink : g.O.Sink.faults l.out ≡ g.O.Sink.faults l.fn.out;
}
