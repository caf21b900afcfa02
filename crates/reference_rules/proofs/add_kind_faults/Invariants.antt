use Rattle.std.proofs.Common.{◌≡◌, ◌++◌, length, option_copied}
use Rattle.std.specs.List.{flat_map}
use Rattle.reference_rules.proofs.Rest.{rest_of}
use Rattle.reference_rules.specs.Faults.{kind_faults, row_faults}
use Rattle.reference_rules.specs.Notes.{AreNotes}
use Rattle.reference_rules.proofs.add_kind_faults.Given as goal

-- the faults so far and those of the rest are those to come at the start
abbrev pub invariant-loop-row : goal.invariant-loop-row
invariant-loop-row g l =
    let rows = g.R.Rows.rows l.rows in
    record {
      found : l.found.items ++ flat_map (row_faults rows) (rest_of l.kind (option_copied l.after) rows) ≡ l.fn.found.items ++ kind_faults rows l.kind;
      notes : AreNotes rows l.kind l.notes;
    }

abbrev pub decreases-loop-row : goal.decreases-loop-row
decreases-loop-row g l = length (rest_of l.kind (option_copied l.after) (g.R.Rows.rows l.rows))
