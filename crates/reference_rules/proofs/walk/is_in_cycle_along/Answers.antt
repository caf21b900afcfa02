use Rattle.std.proofs.Common.{sym, ap, ◌∙◌, option_and_then}
use Rattle.roster_types.specs.Keys.{count_of}
use Rattle.reference_rules.specs.Parents.{parent_in}
use Rattle.reference_rules.proofs.CycleLemmas.{not_without_parent}
use Rattle.reference_rules.proofs.walk.is_in_cycle_along.Goals as goal

pub returns-in_default-clause-value : goal.returns-in_default-clause-value
returns-in_default-clause-value g c =
    sym (not_without_parent (g.R.Rows.rows c.args.rows.now) c.args.row.now.kind c.args.row.now.id (ap (option_and_then parent_in) c.requires.row ∙ sym c.in_default.ensures))

pub is_in_cycle-requires-clause-turns : goal.is_in_cycle-requires-clause-turns
is_in_cycle-requires-clause-turns g c =
    c.turn_to.ensures.fits.turns ∙ ap (λ kind. count_of kind (g.R.Rows.rows c.args.rows.now)) (c.turn_to.ensures.kind ∙ c.kind.ensures.kind)
