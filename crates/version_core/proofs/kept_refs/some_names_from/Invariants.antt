use Rattle.std.proofs.Common.{◌≡◌, drop}
use Rattle.version_core.specs.References.{names_at}
use Rattle.version_core.specs.Since.{some_from}
use Rattle.version_core.specs.declared.row_change.RowChange.{RowChange}
use Rattle.version_core.proofs.kept_refs.some_names_from.Given as goal

-- none of the rows so far does
abbrev pub invariant-loop-at : goal.invariant-loop-at
invariant-loop-at l =
    some_from l.version (λ (change : RowChange). names_at l.place l.target change.row) (drop l.at l.rows) ≡ some_from l.version (λ (change : RowChange). names_at l.place l.target change.row) l.rows
