use Rattle.version_core.proofs.ref_runs.join_long.Goals as goal

pub loop-runs-preserved : goal.loop-runs-preserved
loop-runs-preserved c = λ p any. c.join_last.ensures.keeps p (c.loop-runs.invariant p any)

pub returns-in_err-join_last : goal.returns-in_err-join_last
returns-in_err-join_last c = λ p any. c.join_last.ensures.keeps p (c.loop-runs.invariant p any)
