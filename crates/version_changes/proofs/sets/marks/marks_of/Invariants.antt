use Rattle.std.proofs.Common.{◌≡◌, filter, take}
use Rattle.std.specs.List.{flat_map}
use Rattle.roster_types.specs.Keys.{is_of_kind}
use Rattle.roster_values.specs.Kinds.{all_kinds}
use Rattle.roster_values.specs.declared.kind.Kind.{Kind}
use Rattle.version_changes.specs.sets.Steps.{marks_of}
use Rattle.version_core.specs.Changes.{rows_of}
use Rattle.version_changes.proofs.sets.marks.marks_of.Given as goal

-- the marks of the kinds so far
abbrev pub invariant-loop-kind : goal.invariant-loop-kind
invariant-loop-kind l =
    l.marks.items ≡ flat_map (λ (kind : Kind). marks_of l.set l.fn.at l.listed l.view.rows (filter (is_of_kind kind) (rows_of l.view.rows))) (take l.kind-index all_kinds)
