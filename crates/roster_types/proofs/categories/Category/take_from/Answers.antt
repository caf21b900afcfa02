use Rattle.roster_values.specs.declared.kind.Kind.TheVariants.{Categories}
use Rattle.roster_types.proofs.Taking.{all_taken, fit, first, next, one_taken}
use Rattle.roster_types.proofs.categories.Category.take_from.Goals as goal

pub text-requires : goal.text-requires
text-requires c = first (fit Categories c.args.values.now c.requires)

pub returns : goal.returns
returns c = one_taken c.text.ensures (all_taken (next (fit Categories c.args.values.now c.requires) c.text.ensures))
