use Rattle.std.proofs.Common.{◌≡◌, ◌+◌, length, option_copied}
use Rattle.hub_spec.specs.views.Seen.{seen}
use Rattle.reference_rules.proofs.Rest.{rest_of}
use Rattle.roster_types.specs.Keys.{count_of}
use Rattle.query_pages.proofs.seen.rows.count_seen.Given as goal

-- those counted and those left are all
abbrev pub invariant-loop-row : goal.invariant-loop-row
invariant-loop-row g l =
    let rows = seen l.known.schools.now (g.R.Rows.rows l.known.rows.now) in
    l.count + length (rest_of l.kind (option_copied l.after) rows) ≡ count_of l.kind rows

abbrev pub decreases-loop-row : goal.decreases-loop-row
decreases-loop-row g l = length (rest_of l.kind (option_copied l.after) (seen l.known.schools.now (g.R.Rows.rows l.known.rows.now)))
