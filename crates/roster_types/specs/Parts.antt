-- The parts of a row, as the record that contracts see.
use Rattle.std.specs.Prelude.{◌≡◌}
use Rattle.std.specs.Arc.{arc_value}
use Rattle.roster_types.specs.declared.parts.RowParts.TheInside.{Inside}
use Rattle.roster_types.specs.declared.shared.Shared.{Shared}
use Rattle.roster_types.specs.Records.{IsFitting, Record}
use Rattle.roster_types.specs.Structs.{kind_of, values_of}

-- what the copies of the row share
abbrev pub shared_of : Inside → Shared
shared_of a = arc_value a.shared

-- the row as contracts see it
abbrev pub record_of : Inside → Record
record_of a = record {
  kind = kind_of (shared_of a).fields;
  id = a.id;
  status = a.status;
  modified = a.modified;
  values = values_of (shared_of a).fields;
  metadata = (shared_of a).metadata;
}

-- the kind that stands beside the id is the one that the shared values have
abbrev pub AreFitting : Inside → Type 0
AreFitting a = IsFitting (record_of a) × (a.kind ≡ kind_of (shared_of a).fields)
