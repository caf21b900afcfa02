-- What a map of marks shows.
use Rattle.std.specs.Prelude.{Bool, List}
use Rattle.version_core.specs.declared.mark.MarkRow.{MarkRow}

-- the marks in their order, and whether there is room for one more
pub record HeldMarks : Type 0 where
  pub marks : List MarkRow
  pub has_room : Bool
