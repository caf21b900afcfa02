-- What goes along from row to row.
use Rattle.std.specs.Prelude.{◌≡◌, List}
use Rattle.roster_types.specs.Keys.{count_of}
use Rattle.roster_types.specs.Records.{Record}
use Rattle.reference_rules.specs.Notes.{AreNotes}
use Rattle.reference_rules.specs.declared.walk.Walk.{Walk}

-- the count and the notes are those of the kind
pub record Fits (rows : List Record) (walk : Walk) : Type 0 where
  pub turns : walk.turns ≡ count_of walk.kind rows
  pub notes : AreNotes rows walk.kind walk.notes
