-- In which version a span came, read off its label.
use Rattle.std.specs.Prelude.{◌-◌, ◌<◌, ◌^◌, ◌&&◌, ℕ, Bool, List, drop, length, nat_le}
use Rattle.std.specs.Int.{w64, from_be_bytes}
use Rattle.hub_format.specs.Pieces.{IsReadBack, number_size}
use Rattle.span_format.specs.Format.{Span}

-- the number at the end of a label
abbrev pub came : List ℕ → ℕ
came label = from_be_bytes w64 (drop (length label - number_size) label)

-- it came in one of these versions
abbrev pub came_within : ℕ → ℕ → List ℕ → Bool
came_within low high label = nat_le low (came label) && nat_le (came label) high

-- a span that is read back from its entry
pub record FitsSpan (s : Span) : Type 0 where
  pub first : s.first < 2 ^ 64
  pub back : IsReadBack s.change
