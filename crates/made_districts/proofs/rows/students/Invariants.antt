use Rattle.std.proofs.Common.{◌≡◌, string_bytes}
use Rattle.std.specs.List.{flat_map}
use Rattle.made_districts.specs.Districts.{numbers_to, of_student}
use Rattle.made_districts.proofs.rows.students.Given as goal

abbrev pub invariant-loop-place : goal.invariant-loop-place
invariant-loop-place l = string_bytes l.text ≡ flat_map (of_student l.is_user l.school) (numbers_to l.place)
