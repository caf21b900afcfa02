-- Rows: records that are fitting and not too long.
use Rattle.std.specs.Prelude.{◌≤◌, ℕ, List, Option, None, Some, nat_lt, if◌then◌else◌}
use Rattle.roster_types.specs.declared.metadata.Entry.{Entry}
use Rattle.roster_values.specs.declared.kind.Kind.{Kind}
use Rattle.roster_values.specs.declared.value.Value.{Value}
use Rattle.roster_types.specs.Lengths.{row_length}
use Rattle.roster_types.specs.Records.{IsFitting, Record, record_from}

-- the greatest length of a row in bytes
abbrev pub longest : ℕ
longest = 65536

-- what every row keeps
pub record IsRow (r : Record) : Type 0 where
  pub fitting : IsFitting r
  pub short : row_length r ≤ longest

-- a row, or nothing where it is too long
abbrev pub unless_long : Record → Option Record
unless_long r = if nat_lt longest (row_length r) then None else Some r

-- the row that the values of all its fields give, or nothing where it is too long
abbrev pub row_from : Kind → List (Option Value) → List Entry → Option Record
row_from kind values metadata = unless_long (record_from kind values metadata)
