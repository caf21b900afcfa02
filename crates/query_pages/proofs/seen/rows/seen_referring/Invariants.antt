use Rattle.std.proofs.Common.{◌≡◌, find, length, option_copied}
use Rattle.hub_spec.specs.views.Seen.{seen, sees_row}
use Rattle.version_core.specs.References.{next_referring}
use Rattle.version_core.proofs.Referring.{referring_rest}
use Rattle.query_pages.proofs.seen.rows.seen_referring.Given as goal

-- the rows so far that name the target aren't seen
abbrev pub invariant-loop-row : goal.invariant-loop-row
invariant-loop-row g l =
    let rows = g.R.Rows.rows l.known.rows.now in
    next_referring l.kind l.name l.target (option_copied l.fn.after) (seen l.known.schools.now rows) ≡ find (sees_row l.known.schools.now rows) (referring_rest l.kind l.name l.target (option_copied l.after) rows)

abbrev pub decreases-loop-row : goal.decreases-loop-row
decreases-loop-row g l = length (referring_rest l.kind l.name l.target (option_copied l.after) (g.R.Rows.rows l.known.rows.now))
