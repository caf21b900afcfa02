use Rattle.std.proofs.Common.{◌≡◌, drop}
use Rattle.version_changes.specs.sets.Applying.{owned_by_other}
use Rattle.version_changes.proofs.sets.refusals.part_owned_by_other.Given as goal

-- what is told of all is told of those that are left
abbrev pub invariant-loop-listed : goal.invariant-loop-listed
invariant-loop-listed l = owned_by_other l.feed l.view.rows l.rows ≡ owned_by_other l.feed l.view.rows (drop l.listed-index l.rows)
