use Rattle.std.proofs.Common.{◌≡◌, ◌++◌, filter, length, option_copied}
use Rattle.reference_rules.proofs.Rest.{rest_of}
use Rattle.roster_types.specs.Keys.{is_of_kind}
use Rattle.version_changes.specs.sets.Steps.{marks_of}
use Rattle.version_core.specs.Changes.{rows_of}
use Rattle.version_changes.proofs.sets.marks.add_marks.Given as goal

-- the marks so far and those of the rest are those to come at the start
abbrev pub invariant-loop-stored : goal.invariant-loop-stored
invariant-loop-stored l =
    let rows = l.view.rows in
    l.marks.items ++ marks_of l.set l.at l.listed rows (rest_of l.kind (option_copied l.after) (rows_of rows)) ≡ l.fn.marks.items ++ marks_of l.set l.at l.listed rows (filter (is_of_kind l.kind) (rows_of rows))

abbrev pub decreases-loop-stored : goal.decreases-loop-stored
decreases-loop-stored l = length (rest_of l.kind (option_copied l.after) (rows_of l.view.rows))
