use Rattle.std.proofs.Common.{drop}
use Rattle.std.specs.List.{AllByRecursion}
use Rattle.std.specs.Option.{ForSome}
use Rattle.version_core.specs.Grants.{AreGrants}
use Rattle.version_changes.proofs.sound.keeping.are_all_own.Given as goal

abbrev pub invariant-loop-change : goal.invariant-loop-change
invariant-loop-change l = AllByRecursion (λ change. ForSome change.grants (AreGrants change.version)) (drop l.change-index l.changes) → AllByRecursion (λ change. ForSome change.grants (AreGrants change.version)) l.changes
