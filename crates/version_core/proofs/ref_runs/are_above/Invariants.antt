use Rattle.std.proofs.Common.{◌≡◌, ◌+◌, take}
use Rattle.version_core.specs.RefIndex.{size}
use Rattle.version_core.proofs.ref_runs.are_above.Given as goal

-- what room the runs so far leave
abbrev pub invariant-loop-run : goal.invariant-loop-run
invariant-loop-run l = l.room + size (take l.run-index l.runs) ≡ l.limit
