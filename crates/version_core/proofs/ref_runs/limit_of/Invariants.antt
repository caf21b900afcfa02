use Rattle.std.proofs.Common.{◌≤◌, ◌+◌, ◌*◌, take}
use Rattle.version_core.specs.RefIndex.{size}
use Rattle.version_core.proofs.ref_runs.limit_of.Given as goal

-- twice what the runs so far have, at most
abbrev pub invariant-loop-run : goal.invariant-loop-run
invariant-loop-run l = l.limit ≤ 2 * size (take l.run-index l.runs) + 16
