use Rattle.roster_types.proofs.BoundLaws.{day_bound, flag_bound, moment_bound, number_bound, year_bound}
use Rattle.roster_values.specs.Table.{form_of}
use Rattle.roster_types.proofs.bounds.value_bound.Goals as goal

pub returns-in-Day : goal.returns-in-Day
returns-in-Day c = rw c.in-Day.is (day_bound (form_of c.args.form) c.in-Day.field-0.now)

pub returns-in-Moment : goal.returns-in-Moment
returns-in-Moment c = rw c.in-Moment.is (moment_bound (form_of c.args.form) c.in-Moment.field-0.now)

pub returns-in-Year : goal.returns-in-Year
returns-in-Year c = rw c.in-Year.is (year_bound (form_of c.args.form) c.in-Year.field-0.now)

pub returns-in-Flag : goal.returns-in-Flag
returns-in-Flag c = rw c.in-Flag.is (flag_bound (form_of c.args.form) c.in-Flag.field-0.now)

pub returns-in-Number : goal.returns-in-Number
returns-in-Number c = rw c.in-Number.is (number_bound (form_of c.args.form) c.in-Number.field-0.now (rw c.in-Number.is at c.requires))
