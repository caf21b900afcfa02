use Rattle.csv_sets.proofs.SetSteps.{Looks}
use Rattle.csv_sets.proofs.set.check_files.Given as goal

abbrev pub invariant-loop-kind : goal.invariant-loop-kind
invariant-loop-kind g l = Looks l.dir l.listed l.kinds (g.F.Folder.files l.fn.folder) (g.F.Folder.files l.folder) (g.F.Folder.faults l.fn.folder) (g.F.Folder.faults l.folder) l.kind-index
