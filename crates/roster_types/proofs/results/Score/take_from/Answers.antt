use Rattle.roster_values.specs.declared.kind.Kind.TheVariants.{Results}
use Rattle.roster_types.proofs.Taking.{all_taken, fit, first, next, one_taken}
use Rattle.roster_types.proofs.results.Score.take_from.Goals as goal

pub reference-requires : goal.reference-requires
reference-requires c = first (fit Results c.args.values.now c.requires)

pub reference-requires-2 : goal.reference-requires-2
reference-requires-2 c = first (next (fit Results c.args.values.now c.requires) c.reference.ensures)

pub word-requires : goal.word-requires
word-requires c = first (next (next (fit Results c.args.values.now c.requires) c.reference.ensures) c.reference-2.ensures)

pub optional_number-requires : goal.optional_number-requires
optional_number-requires c = first (next (next (next (fit Results c.args.values.now c.requires) c.reference.ensures) c.reference-2.ensures) c.word.ensures)

pub day-requires : goal.day-requires
day-requires c = first (next (next (next (next (fit Results c.args.values.now c.requires) c.reference.ensures) c.reference-2.ensures) c.word.ensures) c.optional_number.ensures)

pub optional_text-requires : goal.optional_text-requires
optional_text-requires c = first (next (next (next (next (next (fit Results c.args.values.now c.requires) c.reference.ensures) c.reference-2.ensures) c.word.ensures) c.optional_number.ensures) c.day.ensures)

pub returns : goal.returns
returns c = one_taken c.reference.ensures (one_taken c.reference-2.ensures (one_taken c.word.ensures (one_taken c.optional_number.ensures (one_taken c.day.ensures (one_taken c.optional_text.ensures (all_taken (next (next (next (next (next (next (fit Results c.args.values.now c.requires) c.reference.ensures) c.reference-2.ensures) c.word.ensures) c.optional_number.ensures) c.day.ensures) c.optional_text.ensures)))))))
