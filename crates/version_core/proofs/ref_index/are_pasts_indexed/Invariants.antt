use Rattle.std.specs.Prelude.{length}
use Rattle.std.specs.List.{AllWithin}
use Rattle.version_core.specs.History.{past_of}
use Rattle.version_core.specs.RefIndex.{IsIndexed}
use Rattle.version_core.proofs.ref_index.are_pasts_indexed.Given as goal

-- the rows of the histories so far are indexed
abbrev pub invariant-loop-history : goal.invariant-loop-history
invariant-loop-history l = AllWithin (λ history. AllWithin (λ entry. IsIndexed l.runs entry.value.row) (past_of history) 0 (length (past_of history))) l.histories 0 l.history-index
