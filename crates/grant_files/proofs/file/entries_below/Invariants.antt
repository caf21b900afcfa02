use Rattle.std.proofs.Common.{length}
use Rattle.grant_files.proofs.GrantSteps.{Leads}
use Rattle.grant_files.proofs.file.entries_below.Given as goal

abbrev pub invariant-loop-cells : goal.invariant-loop-cells
invariant-loop-cells l = Leads l.known l.entries.items l.number l.reader l.fn.reader

abbrev pub decreases-loop-cells : goal.decreases-loop-cells
decreases-loop-cells l = length l.reader
