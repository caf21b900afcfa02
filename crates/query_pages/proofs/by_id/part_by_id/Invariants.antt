use Rattle.std.proofs.Common.{◌≡◌, ◌+◌, filter, length, option_copied}
use Rattle.hub_spec.specs.views.Pages.{slice}
use Rattle.row_walks.proofs.Parting.{Parts}
use Rattle.row_walks.proofs.Walking.{walk_rest}
use Rattle.query_pages.proofs.by_id.part_by_id.Given as goal

-- what is found so far, with what the rows that are left give, is the part
abbrev pub invariant-loop-row : goal.invariant-loop-row
invariant-loop-row g l =
    let listed = g.T.ListTest.passes l.test in
    let left = filter listed (walk_rest l.walk (option_copied l.after) (g.R.Rows.rows l.rows)) in
    record {
      part : Parts l.query.limit l.query.offset l.total l.found.items left (slice l.query.limit l.query.offset (filter listed (g.R.Rows.rows l.rows)));
      total : l.total + length left ≡ length (filter listed (g.R.Rows.rows l.rows));
    }

abbrev pub decreases-loop-row : goal.decreases-loop-row
decreases-loop-row g l = length (walk_rest l.walk (option_copied l.after) (g.R.Rows.rows l.rows))
