-- The bytes of a reply, as they come.
use Rattle.std.specs.Prelude.{◌≡◌, ◌⊎◌, ℕ, List, length, Option, Some, None}
use Rattle.http_wire.specs.Answers.{BeginsReply, LacksHead, NeverReply}

-- the length of the reply that the bytes begin, once its head is there; bytes that begin none end where they end
abbrev pub EndsAt : List ℕ → Option ℕ → Type 0
EndsAt bytes None = LacksHead bytes
EndsAt bytes (Some n) = BeginsReply bytes n ⊎ (NeverReply bytes × (n ≡ length bytes))
