use Rattle.roster_values.specs.declared.kind.Kind.TheVariants.{Classes}
use Rattle.roster_types.proofs.Taking.{all_taken, fit, first, next, one_taken}
use Rattle.roster_types.proofs.classes.Class.take_from.Goals as goal

pub text-requires : goal.text-requires
text-requires c = first (fit Classes c.args.values.now c.requires)

pub optional_texts-requires : goal.optional_texts-requires
optional_texts-requires c = first (next (fit Classes c.args.values.now c.requires) c.text.ensures)

pub reference-requires : goal.reference-requires
reference-requires c = first (next (next (fit Classes c.args.values.now c.requires) c.text.ensures) c.optional_texts.ensures)

pub optional_text-requires : goal.optional_text-requires
optional_text-requires c = first (next (next (next (fit Classes c.args.values.now c.requires) c.text.ensures) c.optional_texts.ensures) c.reference.ensures)

pub word-requires : goal.word-requires
word-requires c = first (next (next (next (next (fit Classes c.args.values.now c.requires) c.text.ensures) c.optional_texts.ensures) c.reference.ensures) c.optional_text.ensures)

pub optional_text-requires-2 : goal.optional_text-requires-2
optional_text-requires-2 c = first (next (next (next (next (next (fit Classes c.args.values.now c.requires) c.text.ensures) c.optional_texts.ensures) c.reference.ensures) c.optional_text.ensures) c.word.ensures)

pub reference-requires-2 : goal.reference-requires-2
reference-requires-2 c = first (next (next (next (next (next (next (fit Classes c.args.values.now c.requires) c.text.ensures) c.optional_texts.ensures) c.reference.ensures) c.optional_text.ensures) c.word.ensures) c.optional_text-2.ensures)

pub references-requires : goal.references-requires
references-requires c = first (next (next (next (next (next (next (next (fit Classes c.args.values.now c.requires) c.text.ensures) c.optional_texts.ensures) c.reference.ensures) c.optional_text.ensures) c.word.ensures) c.optional_text-2.ensures) c.reference-2.ensures)

pub optional_texts-requires-2 : goal.optional_texts-requires-2
optional_texts-requires-2 c = first (next (next (next (next (next (next (next (next (fit Classes c.args.values.now c.requires) c.text.ensures) c.optional_texts.ensures) c.reference.ensures) c.optional_text.ensures) c.word.ensures) c.optional_text-2.ensures) c.reference-2.ensures) c.references.ensures)

pub optional_texts-requires-3 : goal.optional_texts-requires-3
optional_texts-requires-3 c = first (next (next (next (next (next (next (next (next (next (fit Classes c.args.values.now c.requires) c.text.ensures) c.optional_texts.ensures) c.reference.ensures) c.optional_text.ensures) c.word.ensures) c.optional_text-2.ensures) c.reference-2.ensures) c.references.ensures) c.optional_texts-2.ensures)

pub optional_texts-requires-4 : goal.optional_texts-requires-4
optional_texts-requires-4 c = first (next (next (next (next (next (next (next (next (next (next (fit Classes c.args.values.now c.requires) c.text.ensures) c.optional_texts.ensures) c.reference.ensures) c.optional_text.ensures) c.word.ensures) c.optional_text-2.ensures) c.reference-2.ensures) c.references.ensures) c.optional_texts-2.ensures) c.optional_texts-3.ensures)

pub returns : goal.returns
returns c = one_taken c.text.ensures (one_taken c.optional_texts.ensures (one_taken c.reference.ensures (one_taken c.optional_text.ensures (one_taken c.word.ensures (one_taken c.optional_text-2.ensures (one_taken c.reference-2.ensures (one_taken c.references.ensures (one_taken c.optional_texts-2.ensures (one_taken c.optional_texts-3.ensures (one_taken c.optional_texts-4.ensures (all_taken (next (next (next (next (next (next (next (next (next (next (next (fit Classes c.args.values.now c.requires) c.text.ensures) c.optional_texts.ensures) c.reference.ensures) c.optional_text.ensures) c.word.ensures) c.optional_text-2.ensures) c.reference-2.ensures) c.references.ensures) c.optional_texts-2.ensures) c.optional_texts-3.ensures) c.optional_texts-4.ensures))))))))))))
