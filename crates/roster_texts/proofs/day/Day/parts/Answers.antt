use Rattle.std.proofs.Common.{◌∙◌}
use Rattle.roster_texts.proofs.CalendarDays.{date_parts, part_bounds, year_kept}
use Rattle.roster_texts.proofs.day.Day.parts.Goals as goal

pub returns-clause-year : goal.returns-clause-year
returns-clause-year c =
    c.unsigned_abs.ensures.value
    ∙ year_kept c.date-date.result.year _ (date_parts c.date-date.result c.args.self c.date-date.ensures.range c.date-date.ensures.same).0 (part_bounds c.args.self c.date-date.ensures.range).0

pub returns-clause-month : goal.returns-clause-month
returns-clause-month c = (date_parts c.date-date.result c.args.self c.date-date.ensures.range c.date-date.ensures.same).1

pub returns-clause-day : goal.returns-clause-day
returns-clause-day c = (date_parts c.date-date.result c.args.self c.date-date.ensures.range c.date-date.ensures.same).2
