use Rattle.roster_values.specs.declared.kind.Kind.TheVariants.{LineItems}
use Rattle.roster_types.proofs.Taking.{all_taken, fit, first, next, one_taken}
use Rattle.roster_types.proofs.line_items.LineItem.take_from.Goals as goal

pub text-requires : goal.text-requires
text-requires c = first (fit LineItems c.args.values.now c.requires)

pub optional_text-requires : goal.optional_text-requires
optional_text-requires c = first (next (fit LineItems c.args.values.now c.requires) c.text.ensures)

pub day-requires : goal.day-requires
day-requires c = first (next (next (fit LineItems c.args.values.now c.requires) c.text.ensures) c.optional_text.ensures)

pub day-requires-2 : goal.day-requires-2
day-requires-2 c = first (next (next (next (fit LineItems c.args.values.now c.requires) c.text.ensures) c.optional_text.ensures) c.day.ensures)

pub reference-requires : goal.reference-requires
reference-requires c = first (next (next (next (next (fit LineItems c.args.values.now c.requires) c.text.ensures) c.optional_text.ensures) c.day.ensures) c.day-2.ensures)

pub reference-requires-2 : goal.reference-requires-2
reference-requires-2 c = first (next (next (next (next (next (fit LineItems c.args.values.now c.requires) c.text.ensures) c.optional_text.ensures) c.day.ensures) c.day-2.ensures) c.reference.ensures)

pub optional_reference-requires : goal.optional_reference-requires
optional_reference-requires c = first (next (next (next (next (next (next (fit LineItems c.args.values.now c.requires) c.text.ensures) c.optional_text.ensures) c.day.ensures) c.day-2.ensures) c.reference.ensures) c.reference-2.ensures)

pub optional_number-requires : goal.optional_number-requires
optional_number-requires c = first (next (next (next (next (next (next (next (fit LineItems c.args.values.now c.requires) c.text.ensures) c.optional_text.ensures) c.day.ensures) c.day-2.ensures) c.reference.ensures) c.reference-2.ensures) c.optional_reference.ensures)

pub optional_number-requires-2 : goal.optional_number-requires-2
optional_number-requires-2 c = first (next (next (next (next (next (next (next (next (fit LineItems c.args.values.now c.requires) c.text.ensures) c.optional_text.ensures) c.day.ensures) c.day-2.ensures) c.reference.ensures) c.reference-2.ensures) c.optional_reference.ensures) c.optional_number.ensures)

pub returns : goal.returns
returns c = one_taken c.text.ensures (one_taken c.optional_text.ensures (one_taken c.day.ensures (one_taken c.day-2.ensures (one_taken c.reference.ensures (one_taken c.reference-2.ensures (one_taken c.optional_reference.ensures (one_taken c.optional_number.ensures (one_taken c.optional_number-2.ensures (all_taken (next (next (next (next (next (next (next (next (next (fit LineItems c.args.values.now c.requires) c.text.ensures) c.optional_text.ensures) c.day.ensures) c.day-2.ensures) c.reference.ensures) c.reference-2.ensures) c.optional_reference.ensures) c.optional_number.ensures) c.optional_number-2.ensures))))))))))
