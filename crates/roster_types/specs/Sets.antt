-- What a feed publishes at once, as contracts see it.
use Rattle.std.specs.Prelude.{◌≡◌, ℕ, false, List, bytes_eq, map, pos}
use Rattle.std.specs.List.{All, IsDistinct}
use Rattle.std.specs.List.Sorted.{IsStrictlySortedBy}
use Rattle.std.specs.Ordering.{nat_cmp}
use Rattle.roster_values.specs.Kinds.{place_of_kind}
use Rattle.roster_types.specs.declared.set.SetPart.{SetPart}
use Rattle.roster_types.specs.declared.set_row.SetRow.{SetRow}

-- a feed's name and its parts
pub record SetRecord : Type 0 where
  pub feed : List ℕ
  pub parts : List SetPart

-- a row that brings no date carries the moment 0
abbrev pub IsDatedOrZero : SetRow → Type 0
IsDatedOrZero r = r.dated ≡ false → r.row.modified ≡ pos 0

-- the rows of a part are of its kind, and their ids differ
pub record IsPart (p : SetPart) : Type 0 where
  pub kinds : All (λ r. r.row.kind ≡ p.kind) p.rows
  pub differ : IsDistinct bytes_eq (map (λ r. r.row.id) p.rows)
  pub dates : All IsDatedOrZero p.rows

-- each kind has one part at most, and the parts stand in the order of kinds
pub record AreParts (ps : List SetPart) : Type 0 where
  pub rise : IsStrictlySortedBy nat_cmp (map (λ p. place_of_kind p.kind) ps)
  pub parts : All IsPart ps
