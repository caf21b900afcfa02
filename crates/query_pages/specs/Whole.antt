-- The rows of a kind from one on.
use Rattle.std.specs.Prelude.{◌&&◌, List, [], ◌∷◌, Option, Some, None, filter}
use Rattle.roster_types.specs.Keys.{is_after, is_of_kind}
use Rattle.roster_types.specs.Records.{Record}
use Rattle.roster_values.specs.declared.kind.Kind.{Kind}

-- the row and those of the kind behind it
abbrev pub rows_from : Kind → Option Record → List Record → List Record
rows_from kind None rows = []
rows_from kind (Some row) rows = row ∷ filter (λ other. is_of_kind kind other && is_after (Some row.id) other.id) rows
