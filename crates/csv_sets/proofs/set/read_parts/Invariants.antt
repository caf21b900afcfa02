use Rattle.csv_sets.proofs.SetSteps.{Parts}
use Rattle.csv_sets.proofs.set.read_parts.Given as goal

abbrev pub invariant-loop-file : goal.invariant-loop-file
invariant-loop-file g l = Parts l.dir l.listed l.parts.items (g.F.Folder.files l.fn.folder) (g.F.Folder.files l.folder) (g.F.Folder.faults l.fn.folder) (g.F.Folder.faults l.folder) l.file-index
