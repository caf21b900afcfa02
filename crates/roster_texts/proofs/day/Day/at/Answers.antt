use Rattle.std.proofs.Common.{arith}
use Rattle.roster_texts.proofs.DayLemmas.{stored_day, stored_in_range}
use Rattle.roster_texts.proofs.day.Day.at.Goals as goal

pub invariant_of-result : goal.invariant_of-result
invariant_of-result c =
    stored_in_range c.to_unix_epoch_day.result c.in_ok-date.date c.args.year c.to_unix_epoch_day.ensures.value c.to_unix_epoch_day.ensures.bound (omega arith) c.in_ok-date.ensures.value.0

pub returns : goal.returns
returns c =
    stored_day c.to_unix_epoch_day.result c.in_ok-date.date c.args.year c.args.month c.args.day c.to_unix_epoch_day.ensures.value c.to_unix_epoch_day.ensures.bound (omega arith) c.in_ok-date.ensures.value
