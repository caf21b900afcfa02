use Rattle.std.proofs.Common.{◌∙◌}
use Rattle.roster_types.proofs.Joins.{joined_text}
use Rattle.roster_types.proofs.cell_text.joined.Goals as goal

pub returns : goal.returns
returns c = c.in_ok-join.ensures.ok ∙ joined_text (λ i. i.now) c.args.items.now
