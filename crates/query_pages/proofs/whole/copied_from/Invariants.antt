use Rattle.std.proofs.Common.{◌≡◌, ◌++◌, ◌-◌, length, option_copied, take}
use Rattle.query_pages.specs.Whole.{rows_from}
use Rattle.version_core.specs.Changes.{rows_of}
use Rattle.query_pages.proofs.whole.copied_from.Given as goal

-- what is found so far, with what is left to be found, is all
abbrev pub invariant-loop-next : goal.invariant-loop-next
invariant-loop-next l = l.found.items ++ take (l.limit - length l.found.items) (rows_from l.kind (option_copied l.next) (rows_of l.view.rows)) ≡ take l.limit (rows_from l.kind (option_copied l.fn.first) (rows_of l.view.rows))

abbrev pub decreases-loop-next : goal.decreases-loop-next
decreases-loop-next l = l.limit - length l.found.items
