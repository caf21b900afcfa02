use Rattle.std.proofs.Common.{option_copied}
use Rattle.version_core.specs.Changes.{rows_of}
use Rattle.version_core.specs.History.{pasts_of, rows_at}
use Rattle.version_core.specs.RefIndex.{AllUpTo, FirstOf}
use Rattle.version_core.proofs.NamingRows.{named, refers_after}
use Rattle.version_core.proofs.ref_index.first_of_runs.Given as goal

-- the first of the runs so far
abbrev pub invariant-loop-run : goal.invariant-loop-run
invariant-loop-run l =
    let rows = rows_of (rows_at l.version (pasts_of l.histories)) in
    let after = option_copied l.after in
    FirstOf (refers_after l.asked.kind l.place l.asked.name.now l.asked.target.now after rows) rows (named l.asked.kind l.place l.asked.name.now l.asked.target.now after rows) (AllUpTo l.runs l.run-index) (option_copied l.first)
