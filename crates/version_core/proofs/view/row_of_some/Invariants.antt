use Rattle.std.proofs.Common.{◌≡◌, drop, slice_get}
use Rattle.version_core.specs.Changes.{rows_of}
use Rattle.version_core.specs.History.{pasts_of, rows_at}
use Rattle.version_core.proofs.view.row_of_some.Given as goal

-- of the rows from here on, those that are left to be passed
abbrev pub invariant-loop-history : goal.invariant-loop-history
invariant-loop-history l = slice_get (rows_of (rows_at l.version (pasts_of l.histories))) l.fn.place ≡ slice_get (rows_of (rows_at l.version (pasts_of (drop l.history-index l.histories)))) l.left
