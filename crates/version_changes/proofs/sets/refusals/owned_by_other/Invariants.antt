use Rattle.std.proofs.Common.{◌≡◌, drop}
use Rattle.std.specs.List.{flat_map}
use Rattle.version_changes.specs.sets.Applying.{owned_by_other}
use Rattle.version_changes.proofs.sets.refusals.owned_by_other.Given as goal

-- what is told of all parts is told of those that are left
abbrev pub invariant-loop-part : goal.invariant-loop-part
invariant-loop-part l =
    owned_by_other l.set.feed l.view.rows (flat_map (λ part. part.rows) l.part-items) ≡ owned_by_other l.set.feed l.view.rows (flat_map (λ part. part.rows) (drop l.part-index l.part-items))
