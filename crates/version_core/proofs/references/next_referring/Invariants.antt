use Rattle.std.proofs.Common.{◌≡◌, find, length, option_copied}
use Rattle.reference_rules.proofs.Rest.{rest_of}
use Rattle.version_core.specs.References.{names, next_referring}
use Rattle.version_core.proofs.references.next_referring.Given as goal

-- the rows of the kind so far don't name it
abbrev pub invariant-loop-row : goal.invariant-loop-row
invariant-loop-row g l =
    let rows = g.R.Rows.rows l.rows in
    next_referring l.kind l.name l.target (option_copied l.fn.after) rows ≡ find (names l.name l.target) (rest_of l.kind (option_copied l.after) rows)

abbrev pub decreases-loop-row : goal.decreases-loop-row
decreases-loop-row g l = length (rest_of l.kind (option_copied l.after) (g.R.Rows.rows l.rows))
