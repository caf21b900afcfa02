use Rattle.std.proofs.Common.{sym, subst}
use Rattle.version_core.proofs.OrderLemmas.{Ascends-overlaid}
use Rattle.version_core.specs.Changes.{AreChanges, change_key}
use Rattle.version_changes.proofs.sets.publish.merged.Goals as goal

pub from_vec-requires : goal.from_vec-requires
from_vec-requires c = subst AreChanges (sym c.merge.ensures.merged) (Ascends-overlaid change_key c.args.marks.items c.into_vec-listed.result.items c.requires)
