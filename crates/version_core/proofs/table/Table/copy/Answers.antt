use Rattle.std.proofs.Common.{sym, subst}
use Rattle.version_core.specs.Table.{AreKept}
use Rattle.version_core.specs.Version.{Log}
use Rattle.version_core.proofs.table.Table.copy.Goals as goal

pub invariant_of-result : goal.invariant_of-result
invariant_of-result c = subst (λ (log : Log). AreKept c.self.inside.keep log.versions) (sym c.in_ok-copy.ensures) c.self.invariant
