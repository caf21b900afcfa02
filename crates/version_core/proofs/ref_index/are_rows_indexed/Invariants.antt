use Rattle.std.specs.List.{AllWithin}
use Rattle.version_core.specs.RefIndex.{IsIndexed}
use Rattle.version_core.proofs.ref_index.are_rows_indexed.Given as goal

-- the rows so far are indexed
abbrev pub invariant-loop-change : goal.invariant-loop-change
invariant-loop-change l = AllWithin (λ change. IsIndexed l.runs change.row) l.changes 0 l.change-index
