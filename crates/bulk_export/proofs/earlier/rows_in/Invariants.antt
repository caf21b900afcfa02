use Rattle.std.proofs.Common.{◌≡◌, drop}
use Rattle.bulk_export.specs.Changes.{rows_in}
use Rattle.bulk_export.proofs.earlier.rows_in.Given as goal

abbrev pub invariant-loop-part : goal.invariant-loop-part
invariant-loop-part l = rows_in l.kind (drop l.part-index l.set.parts) ≡ rows_in l.kind l.set.parts
