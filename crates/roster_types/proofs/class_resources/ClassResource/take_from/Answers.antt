use Rattle.roster_values.specs.declared.kind.Kind.TheVariants.{ClassResources}
use Rattle.roster_types.proofs.Taking.{all_taken, fit, first, next, one_taken}
use Rattle.roster_types.proofs.class_resources.ClassResource.take_from.Goals as goal

pub optional_text-requires : goal.optional_text-requires
optional_text-requires c = first (fit ClassResources c.args.values.now c.requires)

pub reference-requires : goal.reference-requires
reference-requires c = first (next (fit ClassResources c.args.values.now c.requires) c.optional_text.ensures)

pub reference-requires-2 : goal.reference-requires-2
reference-requires-2 c = first (next (next (fit ClassResources c.args.values.now c.requires) c.optional_text.ensures) c.reference.ensures)

pub returns : goal.returns
returns c = one_taken c.optional_text.ensures (one_taken c.reference.ensures (one_taken c.reference-2.ensures (all_taken (next (next (next (fit ClassResources c.args.values.now c.requires) c.optional_text.ensures) c.reference.ensures) c.reference-2.ensures))))
