use Rattle.made_districts.proofs.Numbers.{numbers_step}
use Rattle.made_districts.specs.Districts.{school_lines}
use Rattle.made_districts.proofs.files.by_school.Goals as goal

pub loop-place-preserved : goal.loop-place-preserved
loop-place-preserved c = numbers_step (school_lines c.args.part) c.loop-place.place c.args.head.now _ _ _ c.in_ok-text.ensures c.loop-place.invariant c.in_ok-lines.ensures
