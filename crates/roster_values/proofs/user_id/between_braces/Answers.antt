use Rattle.roster_values.proofs.Braces.{after_brace}
use Rattle.roster_values.proofs.user_id.between_braces.Goals as goal

pub range-requires-clause-start_boundary : goal.range-requires-clause-start_boundary
range-requires-clause-start_boundary c = λ _. after_brace c.args.text.now c.utf8.text c.requires
