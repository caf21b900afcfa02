use Rattle.std.proofs.Common.{◌≡◌, ◌+◌, ◌++◌, filter, length, option_copied}
use Rattle.query_pages.specs.Firsts.{first}
use Rattle.query_pages.specs.Placed.{AreKeyed, rows_placed}
use Rattle.query_pages.specs.Sortings.{sorting_shown}
use Rattle.row_walks.proofs.Walking.{walk_rest}
use Rattle.query_pages.proofs.in_order.first_rows.Given as goal

-- the first of the rows that were kept, and those that are left, are the first of the list
abbrev pub invariant-loop-row : goal.invariant-loop-row
invariant-loop-row g l =
    let listed = g.T.ListTest.passes l.test in
    let left = filter listed (walk_rest l.walk (option_copied l.after) (g.R.Rows.rows l.rows)) in
    let whole = filter listed (g.R.Rows.rows l.rows) in
    record {
      rows : first l.count (sorting_shown l.sorting) (rows_placed l.found.items ++ left) ≡ first l.count (sorting_shown l.sorting) whole;
      keys : AreKeyed (sorting_shown l.sorting) l.found.items;
      total : l.total + length left ≡ length whole;
    }

abbrev pub decreases-loop-row : goal.decreases-loop-row
decreases-loop-row g l = length (walk_rest l.walk (option_copied l.after) (g.R.Rows.rows l.rows))
