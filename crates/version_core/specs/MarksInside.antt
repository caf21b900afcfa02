-- What a map of marks keeps of its fields.
use Rattle.std.specs.Prelude.{◌<◌, IsTrue, vec_capacity, vec_len}
use Rattle.std.specs.List.Sorted.{IsStrictlySortedBy}
use Rattle.version_core.specs.HeldMarks.{HeldMarks}
use Rattle.version_core.specs.Marks.{mark_cmp}
use Rattle.version_core.specs.declared.marks.Marks.TheInside.{Inside}

abbrev pub held_of : Inside → HeldMarks
held_of marks = record { marks = marks.marks.items; has_room = marks.has_room }

pub record IsHeld (marks : Inside) : Type 0 where
  pub rise : IsStrictlySortedBy mark_cmp marks.marks.items
  pub room : IsTrue marks.has_room → vec_len marks.marks < vec_capacity marks.marks
