use Rattle.std.proofs.Common.{drop}
use Rattle.std.specs.List.{AllByRecursion}
use Rattle.version_changes.specs.sound.Behind.{AreFew}
use Rattle.version_changes.proofs.sound.counts.all_few.Given as goal

abbrev pub invariant-loop-kind : goal.invariant-loop-kind
invariant-loop-kind l = AllByRecursion (λ kind. AreFew kind l.base l.changes) (drop l.kind-index l.kinds) → AllByRecursion (λ kind. AreFew kind l.base l.changes) l.kinds
