use Rattle.roster_values.specs.declared.kind.Kind.TheVariants.{AcademicSessions}
use Rattle.roster_types.proofs.Taking.{all_taken, fit, first, next, one_taken}
use Rattle.roster_types.proofs.academic_sessions.AcademicSession.take_from.Goals as goal

pub text-requires : goal.text-requires
text-requires c = first (fit AcademicSessions c.args.values.now c.requires)

pub word-requires : goal.word-requires
word-requires c = first (next (fit AcademicSessions c.args.values.now c.requires) c.text.ensures)

pub day-requires : goal.day-requires
day-requires c = first (next (next (fit AcademicSessions c.args.values.now c.requires) c.text.ensures) c.word.ensures)

pub day-requires-2 : goal.day-requires-2
day-requires-2 c = first (next (next (next (fit AcademicSessions c.args.values.now c.requires) c.text.ensures) c.word.ensures) c.day.ensures)

pub optional_reference-requires : goal.optional_reference-requires
optional_reference-requires c = first (next (next (next (next (fit AcademicSessions c.args.values.now c.requires) c.text.ensures) c.word.ensures) c.day.ensures) c.day-2.ensures)

pub year-requires : goal.year-requires
year-requires c = first (next (next (next (next (next (fit AcademicSessions c.args.values.now c.requires) c.text.ensures) c.word.ensures) c.day.ensures) c.day-2.ensures) c.optional_reference.ensures)

pub returns : goal.returns
returns c = one_taken c.text.ensures (one_taken c.word.ensures (one_taken c.day.ensures (one_taken c.day-2.ensures (one_taken c.optional_reference.ensures (one_taken c.year.ensures (all_taken (next (next (next (next (next (next (fit AcademicSessions c.args.values.now c.requires) c.text.ensures) c.word.ensures) c.day.ensures) c.day-2.ensures) c.optional_reference.ensures) c.year.ensures)))))))
