use Rattle.std.specs.List.{AllWithin}
use Rattle.version_core.specs.RefIndex.{IsIndexed}
use Rattle.version_core.proofs.ref_index.is_past_indexed.Given as goal

-- the rows so far are indexed
abbrev pub invariant-loop-since : goal.invariant-loop-since
invariant-loop-since l = AllWithin (λ entry. IsIndexed l.runs entry.value.row) l.rows 0 l.since-index
