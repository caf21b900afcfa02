use Rattle.roster_values.specs.declared.kind.Kind.TheVariants.{Courses}
use Rattle.roster_types.proofs.Taking.{all_taken, fit, first, next, one_taken}
use Rattle.roster_types.proofs.courses.Course.take_from.Goals as goal

pub optional_reference-requires : goal.optional_reference-requires
optional_reference-requires c = first (fit Courses c.args.values.now c.requires)

pub text-requires : goal.text-requires
text-requires c = first (next (fit Courses c.args.values.now c.requires) c.optional_reference.ensures)

pub optional_text-requires : goal.optional_text-requires
optional_text-requires c = first (next (next (fit Courses c.args.values.now c.requires) c.optional_reference.ensures) c.text.ensures)

pub optional_texts-requires : goal.optional_texts-requires
optional_texts-requires c = first (next (next (next (fit Courses c.args.values.now c.requires) c.optional_reference.ensures) c.text.ensures) c.optional_text.ensures)

pub reference-requires : goal.reference-requires
reference-requires c = first (next (next (next (next (fit Courses c.args.values.now c.requires) c.optional_reference.ensures) c.text.ensures) c.optional_text.ensures) c.optional_texts.ensures)

pub optional_texts-requires-2 : goal.optional_texts-requires-2
optional_texts-requires-2 c = first (next (next (next (next (next (fit Courses c.args.values.now c.requires) c.optional_reference.ensures) c.text.ensures) c.optional_text.ensures) c.optional_texts.ensures) c.reference.ensures)

pub optional_texts-requires-3 : goal.optional_texts-requires-3
optional_texts-requires-3 c = first (next (next (next (next (next (next (fit Courses c.args.values.now c.requires) c.optional_reference.ensures) c.text.ensures) c.optional_text.ensures) c.optional_texts.ensures) c.reference.ensures) c.optional_texts-2.ensures)

pub returns : goal.returns
returns c = one_taken c.optional_reference.ensures (one_taken c.text.ensures (one_taken c.optional_text.ensures (one_taken c.optional_texts.ensures (one_taken c.reference.ensures (one_taken c.optional_texts-2.ensures (one_taken c.optional_texts-3.ensures (all_taken (next (next (next (next (next (next (next (fit Courses c.args.values.now c.requires) c.optional_reference.ensures) c.text.ensures) c.optional_text.ensures) c.optional_texts.ensures) c.reference.ensures) c.optional_texts-2.ensures) c.optional_texts-3.ensures))))))))
