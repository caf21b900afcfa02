use Rattle.std.proofs.Common.{vec_len}
use Rattle.version_core.specs.RefIndex.{Keeps}
use Rattle.version_core.proofs.ref_runs.join_long.Given as goal

-- what the runs said is said still
abbrev pub invariant-loop-runs : goal.invariant-loop-runs
invariant-loop-runs l = Keeps l.fn.runs.items l.runs.items

abbrev pub decreases-loop-runs : goal.decreases-loop-runs
decreases-loop-runs l = vec_len l.runs
