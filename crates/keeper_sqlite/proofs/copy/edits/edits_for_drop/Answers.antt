use Rattle.std.proofs.Common.{ap, ◌∙◌}
use Rattle.copy_format.specs.declared.root.CopyRoot.{CopyRoot}
use Rattle.copy_format.specs.Edits.{edits}
use Rattle.keeper_memory.specs.declared.copy.change.CopyChange.TheVariants.{Drop}
use Rattle.keeper_sqlite.proofs.copy.edits.edits_for_drop.Goals as goal

pub returns-clause-edits : goal.returns-clause-edits
returns-clause-edits g c side copy has sure = (c.in_ok-drop_edits.ensures copy ∙ ap (λ (r : CopyRoot). edits r.side copy Drop) (c.in_ok-root.ensures.root side copy has sure), tt)
