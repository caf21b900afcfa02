-- What a source in memory holds, and what is seen of one over a reader.
use Rattle.std.specs.Prelude.{ℕ, List, [], ◌∷◌, length, min, max}
use Rattle.outside_ports.specs.Calls.{CallCount}

-- the bytes left, the most bytes of each read to come, and the calls that it has met
pub record HeldInput : Type 0 where
  pub left : List ℕ
  pub cuts : List ℕ
  pub calls : CallCount

-- how many bytes a read with this room gives: as many as the next cut allows, where 0 counts as 1, and behind the cuts
-- as many as there are
abbrev pub given : List ℕ → List ℕ → ℕ → ℕ
given left [] room = min room (length left)
given left (cut ∷ cuts) room = min (max cut 1) (min room (length left))

-- how many reads a source over a reader still allows, and how many calls failed
pub record HeldCounts : Type 0 where
  pub budget : ℕ
  pub faults : ℕ
