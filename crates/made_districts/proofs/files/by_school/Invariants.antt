use Rattle.std.proofs.Common.{◌≡◌, ◌++◌, string_bytes}
use Rattle.std.specs.List.{flat_map}
use Rattle.made_districts.specs.Districts.{numbers_to, school_lines}
use Rattle.made_districts.proofs.files.by_school.Given as goal

abbrev pub invariant-loop-place : goal.invariant-loop-place
invariant-loop-place l = string_bytes l.text ≡ l.head ++ flat_map (school_lines l.part) (numbers_to l.place)
