use Rattle.std.proofs.Common.{[]}
use Rattle.made_districts.proofs.Numbers.{numbers_step}
use Rattle.made_districts.specs.Districts.{of_student}
use Rattle.made_districts.proofs.rows.students.Goals as goal

pub loop-place-preserved : goal.loop-place-preserved
loop-place-preserved c = numbers_step (of_student c.args.is_user c.args.school.now) c.loop-place.place [] _ _ _ c.in_ok-text.ensures c.loop-place.invariant c.in_ok-line.ensures
