use Rattle.roster_values.specs.declared.kind.Kind.TheVariants.{Demographics}
use Rattle.roster_types.proofs.Taking.{all_taken, fit, first, next, one_taken}
use Rattle.roster_types.proofs.demographics.Demographic.take_from.Goals as goal

pub optional_day-requires : goal.optional_day-requires
optional_day-requires c = first (fit Demographics c.args.values.now c.requires)

pub optional_word-requires : goal.optional_word-requires
optional_word-requires c = first (next (fit Demographics c.args.values.now c.requires) c.optional_day.ensures)

pub optional_flag-requires : goal.optional_flag-requires
optional_flag-requires c = first (next (next (fit Demographics c.args.values.now c.requires) c.optional_day.ensures) c.optional_word.ensures)

pub optional_flag-requires-2 : goal.optional_flag-requires-2
optional_flag-requires-2 c = first (next (next (next (fit Demographics c.args.values.now c.requires) c.optional_day.ensures) c.optional_word.ensures) c.optional_flag.ensures)

pub optional_flag-requires-3 : goal.optional_flag-requires-3
optional_flag-requires-3 c = first (next (next (next (next (fit Demographics c.args.values.now c.requires) c.optional_day.ensures) c.optional_word.ensures) c.optional_flag.ensures) c.optional_flag-2.ensures)

pub optional_flag-requires-4 : goal.optional_flag-requires-4
optional_flag-requires-4 c = first (next (next (next (next (next (fit Demographics c.args.values.now c.requires) c.optional_day.ensures) c.optional_word.ensures) c.optional_flag.ensures) c.optional_flag-2.ensures) c.optional_flag-3.ensures)

pub optional_flag-requires-5 : goal.optional_flag-requires-5
optional_flag-requires-5 c = first (next (next (next (next (next (next (fit Demographics c.args.values.now c.requires) c.optional_day.ensures) c.optional_word.ensures) c.optional_flag.ensures) c.optional_flag-2.ensures) c.optional_flag-3.ensures) c.optional_flag-4.ensures)

pub optional_flag-requires-6 : goal.optional_flag-requires-6
optional_flag-requires-6 c = first (next (next (next (next (next (next (next (fit Demographics c.args.values.now c.requires) c.optional_day.ensures) c.optional_word.ensures) c.optional_flag.ensures) c.optional_flag-2.ensures) c.optional_flag-3.ensures) c.optional_flag-4.ensures) c.optional_flag-5.ensures)

pub optional_flag-requires-7 : goal.optional_flag-requires-7
optional_flag-requires-7 c = first (next (next (next (next (next (next (next (next (fit Demographics c.args.values.now c.requires) c.optional_day.ensures) c.optional_word.ensures) c.optional_flag.ensures) c.optional_flag-2.ensures) c.optional_flag-3.ensures) c.optional_flag-4.ensures) c.optional_flag-5.ensures) c.optional_flag-6.ensures)

pub optional_text-requires : goal.optional_text-requires
optional_text-requires c = first (next (next (next (next (next (next (next (next (next (fit Demographics c.args.values.now c.requires) c.optional_day.ensures) c.optional_word.ensures) c.optional_flag.ensures) c.optional_flag-2.ensures) c.optional_flag-3.ensures) c.optional_flag-4.ensures) c.optional_flag-5.ensures) c.optional_flag-6.ensures) c.optional_flag-7.ensures)

pub optional_text-requires-2 : goal.optional_text-requires-2
optional_text-requires-2 c = first (next (next (next (next (next (next (next (next (next (next (fit Demographics c.args.values.now c.requires) c.optional_day.ensures) c.optional_word.ensures) c.optional_flag.ensures) c.optional_flag-2.ensures) c.optional_flag-3.ensures) c.optional_flag-4.ensures) c.optional_flag-5.ensures) c.optional_flag-6.ensures) c.optional_flag-7.ensures) c.optional_text.ensures)

pub optional_text-requires-3 : goal.optional_text-requires-3
optional_text-requires-3 c = first (next (next (next (next (next (next (next (next (next (next (next (fit Demographics c.args.values.now c.requires) c.optional_day.ensures) c.optional_word.ensures) c.optional_flag.ensures) c.optional_flag-2.ensures) c.optional_flag-3.ensures) c.optional_flag-4.ensures) c.optional_flag-5.ensures) c.optional_flag-6.ensures) c.optional_flag-7.ensures) c.optional_text.ensures) c.optional_text-2.ensures)

pub optional_text-requires-4 : goal.optional_text-requires-4
optional_text-requires-4 c = first (next (next (next (next (next (next (next (next (next (next (next (next (fit Demographics c.args.values.now c.requires) c.optional_day.ensures) c.optional_word.ensures) c.optional_flag.ensures) c.optional_flag-2.ensures) c.optional_flag-3.ensures) c.optional_flag-4.ensures) c.optional_flag-5.ensures) c.optional_flag-6.ensures) c.optional_flag-7.ensures) c.optional_text.ensures) c.optional_text-2.ensures) c.optional_text-3.ensures)

pub returns : goal.returns
returns c = one_taken c.optional_day.ensures (one_taken c.optional_word.ensures (one_taken c.optional_flag.ensures (one_taken c.optional_flag-2.ensures (one_taken c.optional_flag-3.ensures (one_taken c.optional_flag-4.ensures (one_taken c.optional_flag-5.ensures (one_taken c.optional_flag-6.ensures (one_taken c.optional_flag-7.ensures (one_taken c.optional_text.ensures (one_taken c.optional_text-2.ensures (one_taken c.optional_text-3.ensures (one_taken c.optional_text-4.ensures (all_taken (next (next (next (next (next (next (next (next (next (next (next (next (next (fit Demographics c.args.values.now c.requires) c.optional_day.ensures) c.optional_word.ensures) c.optional_flag.ensures) c.optional_flag-2.ensures) c.optional_flag-3.ensures) c.optional_flag-4.ensures) c.optional_flag-5.ensures) c.optional_flag-6.ensures) c.optional_flag-7.ensures) c.optional_text.ensures) c.optional_text-2.ensures) c.optional_text-3.ensures) c.optional_text-4.ensures))))))))))))))
