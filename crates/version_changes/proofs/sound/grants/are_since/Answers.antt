use Rattle.std.proofs.Common.{sym, ◌∙◌}
use Rattle.version_changes.proofs.GrantLemmas.{since_from}
use Rattle.version_changes.proofs.sound.grants.are_since.Goals as goal

pub returns : goal.returns
returns c = λ yes. since_from c.args.first c.args.grants.now (sym c.are_from.ensures ∙ yes)
