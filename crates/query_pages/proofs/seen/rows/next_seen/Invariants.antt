use Rattle.std.proofs.Common.{◌≡◌, find, length, option_copied}
use Rattle.hub_spec.specs.views.Seen.{seen, sees_row}
use Rattle.reference_rules.proofs.Rest.{rest_of}
use Rattle.roster_types.specs.Keys.{next_of}
use Rattle.query_pages.proofs.seen.rows.next_seen.Given as goal

-- the rows of the kind so far aren't seen
abbrev pub invariant-loop-row : goal.invariant-loop-row
invariant-loop-row g l =
    let rows = g.R.Rows.rows l.known.rows.now in
    next_of l.kind (option_copied l.fn.after) (seen l.known.schools.now rows) ≡ find (sees_row l.known.schools.now rows) (rest_of l.kind (option_copied l.after) rows)

abbrev pub decreases-loop-row : goal.decreases-loop-row
decreases-loop-row g l = length (rest_of l.kind (option_copied l.after) (g.R.Rows.rows l.known.rows.now))
