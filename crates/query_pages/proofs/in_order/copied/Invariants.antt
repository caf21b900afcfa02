use Rattle.std.proofs.Common.{◌≡◌, take}
use Rattle.hub_spec.specs.views.Pages.{slice}
use Rattle.query_pages.specs.Placed.{rows_placed}
use Rattle.query_pages.proofs.in_order.copied.Given as goal

abbrev pub invariant-loop-placed : goal.invariant-loop-placed
invariant-loop-placed l = l.found ≡ rows_placed (take l.placed-index (slice l.limit l.offset l.fn.rows))
