-- One turn of a stream that a world's hub is asked.
use Rattle.std.specs.Prelude.{◌≡◌, ⊤, ℕ, ℤ, List, Some, None}
use Rattle.rest_provider.specs.Ends.{Ends, IsRead, IsStopped, ends_of}
use Rattle.status_info.specs.declared.request.Request.{Request}
use Rattle.sync_world.specs.Acts.{Acted, IsTaken}
use Rattle.sync_world.specs.Worlds.{HeldWorld}
use Rattle.sync_world.specs.declared.acts.Saying.{Saying}
use Rattle.sync_world.specs.declared.asking.Turn.{Turn}
use Rattle.sync_world.specs.declared.asking.Turn.TheVariants as turn

-- a stream of bytes in memory, whose source doesn't fail; nothing is written
abbrev pub bytes_left : List ℕ → Ends
bytes_left bytes = ends_of (Some bytes) 0 None 0

-- the bytes of a stream at one time: those that are left, and those that were read ahead
pub record Unread : Type 0 where
  pub left : List ℕ
  pub kept : List ℕ

-- the same from its parts
abbrev pub unread : List ℕ → List ℕ → Unread
unread left kept = record { left = left; kept = kept }

-- a world at one time, and what was told by then
pub record WorldTold : Type 0 where
  pub world : HeldWorld
  pub said : List Saying

-- the same from its parts
abbrev pub world_told : HeldWorld → List Saying → WorldTold
world_told world said = record { world = world; said = said }

-- what a turn takes from the bytes, makes of a world and tells
abbrev pub Turns : ℤ → Unread → Unread → Turn → WorldTold → WorldTold → Type 0
Turns at bytes bytes' (turn.Answered close) before after =
    (request : Request) × IsRead (bytes_left bytes.left) (bytes_left bytes'.left) bytes.kept bytes'.kept request
    × (request.close ≡ close) × Acted (IsTaken request at) before.world after.world before.said after.said
Turns at bytes bytes' (turn.Stopped fault) before after =
    IsStopped (bytes_left bytes.left) (bytes_left bytes'.left) bytes.kept bytes'.kept fault
    × (after.world ≡ before.world) × (after.said ≡ before.said)
Turns at bytes bytes' turn.NoMemory before after = ⊤
