use Rattle.std.proofs.Common.{refl}
use Rattle.roster_texts.specs.Days.{day_at}
use Rattle.roster_texts.proofs.CalendarDays.{split}
use Rattle.roster_texts.proofs.day.days_are_on_the_calendar.Goals as goal

pub returns : goal.returns
unfolding day_at
returns c = λ day h. let s = split day h in rw (s.known, s.same) refl
