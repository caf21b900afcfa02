use Rattle.roster_values.specs.declared.kind.Kind.TheVariants.{Enrollments}
use Rattle.roster_types.proofs.Taking.{all_taken, fit, first, next, one_taken}
use Rattle.roster_types.proofs.enrollments.Enrollment.take_from.Goals as goal

pub reference-requires : goal.reference-requires
reference-requires c = first (fit Enrollments c.args.values.now c.requires)

pub reference-requires-2 : goal.reference-requires-2
reference-requires-2 c = first (next (fit Enrollments c.args.values.now c.requires) c.reference.ensures)

pub reference-requires-3 : goal.reference-requires-3
reference-requires-3 c = first (next (next (fit Enrollments c.args.values.now c.requires) c.reference.ensures) c.reference-2.ensures)

pub word-requires : goal.word-requires
word-requires c = first (next (next (next (fit Enrollments c.args.values.now c.requires) c.reference.ensures) c.reference-2.ensures) c.reference-3.ensures)

pub optional_flag-requires : goal.optional_flag-requires
optional_flag-requires c = first (next (next (next (next (fit Enrollments c.args.values.now c.requires) c.reference.ensures) c.reference-2.ensures) c.reference-3.ensures) c.word.ensures)

pub optional_day-requires : goal.optional_day-requires
optional_day-requires c = first (next (next (next (next (next (fit Enrollments c.args.values.now c.requires) c.reference.ensures) c.reference-2.ensures) c.reference-3.ensures) c.word.ensures) c.optional_flag.ensures)

pub optional_day-requires-2 : goal.optional_day-requires-2
optional_day-requires-2 c = first (next (next (next (next (next (next (fit Enrollments c.args.values.now c.requires) c.reference.ensures) c.reference-2.ensures) c.reference-3.ensures) c.word.ensures) c.optional_flag.ensures) c.optional_day.ensures)

pub returns : goal.returns
returns c = one_taken c.reference.ensures (one_taken c.reference-2.ensures (one_taken c.reference-3.ensures (one_taken c.word.ensures (one_taken c.optional_flag.ensures (one_taken c.optional_day.ensures (one_taken c.optional_day-2.ensures (all_taken (next (next (next (next (next (next (next (fit Enrollments c.args.values.now c.requires) c.reference.ensures) c.reference-2.ensures) c.reference-3.ensures) c.word.ensures) c.optional_flag.ensures) c.optional_day.ensures) c.optional_day-2.ensures))))))))
