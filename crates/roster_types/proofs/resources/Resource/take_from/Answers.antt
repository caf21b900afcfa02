use Rattle.roster_values.specs.declared.kind.Kind.TheVariants.{Resources}
use Rattle.roster_types.proofs.Taking.{all_taken, fit, first, next, one_taken}
use Rattle.roster_types.proofs.resources.Resource.take_from.Goals as goal

pub text-requires : goal.text-requires
text-requires c = first (fit Resources c.args.values.now c.requires)

pub optional_text-requires : goal.optional_text-requires
optional_text-requires c = first (next (fit Resources c.args.values.now c.requires) c.text.ensures)

pub optional_texts-requires : goal.optional_texts-requires
optional_texts-requires c = first (next (next (fit Resources c.args.values.now c.requires) c.text.ensures) c.optional_text.ensures)

pub optional_word-requires : goal.optional_word-requires
optional_word-requires c = first (next (next (next (fit Resources c.args.values.now c.requires) c.text.ensures) c.optional_text.ensures) c.optional_texts.ensures)

pub optional_text-requires-2 : goal.optional_text-requires-2
optional_text-requires-2 c = first (next (next (next (next (fit Resources c.args.values.now c.requires) c.text.ensures) c.optional_text.ensures) c.optional_texts.ensures) c.optional_word.ensures)

pub optional_text-requires-3 : goal.optional_text-requires-3
optional_text-requires-3 c = first (next (next (next (next (next (fit Resources c.args.values.now c.requires) c.text.ensures) c.optional_text.ensures) c.optional_texts.ensures) c.optional_word.ensures) c.optional_text-2.ensures)

pub returns : goal.returns
returns c = one_taken c.text.ensures (one_taken c.optional_text.ensures (one_taken c.optional_texts.ensures (one_taken c.optional_word.ensures (one_taken c.optional_text-2.ensures (one_taken c.optional_text-3.ensures (all_taken (next (next (next (next (next (next (fit Resources c.args.values.now c.requires) c.text.ensures) c.optional_text.ensures) c.optional_texts.ensures) c.optional_word.ensures) c.optional_text-2.ensures) c.optional_text-3.ensures)))))))
