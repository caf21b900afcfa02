-- What a sink in memory holds.
use Rattle.std.specs.Prelude.{ℕ, List, ◌++◌, ◌-◌, ◌/◌, length, take, min, if◌then◌else◌}
use Rattle.outside_ports.specs.Calls.{CallCount, is_next_listed}

-- what was written, the room left in bytes, and the calls that it has met
pub record HeldBytes : Type 0 where
  pub written : List ℕ
  pub room : ℕ
  pub calls : CallCount

-- how many bytes the next call is to write of a piece: half of them where it is listed to fail, and else all
abbrev pub wanted : HeldBytes → List ℕ → ℕ
wanted s piece = if is_next_listed s.calls then length piece / 2 else length piece

-- a front of a piece is written as far as the room goes
abbrev pub with_front : HeldBytes → ℕ → List ℕ → HeldBytes
with_front s count piece = record s { written = s.written ++ take (min count s.room) piece; room = s.room - count }
