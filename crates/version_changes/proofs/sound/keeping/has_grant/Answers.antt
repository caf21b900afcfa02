use Rattle.std.proofs.Common.{Some, ap, sym, ◌∙◌}
use Rattle.version_changes.proofs.sound.keeping.has_grant.Goals as goal

pub returns-in-Some : goal.returns-in-Some
returns-in-Some c = λ yes. sym c.in-Some.ensures ∙ ap Some (c.is_same.ensures.0 yes)
