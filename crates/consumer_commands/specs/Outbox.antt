-- The entries of an outbox, as text.
use Rattle.std.specs.Prelude.{◌≡◌, ℕ, List}
use Rattle.std.specs.List.{flat_map}
use Rattle.keeper_memory.specs.copy.Copies.{Copy, NumbersRise}
use Rattle.keeper_memory.specs.declared.copy.entry.OutEntry.{OutEntry}
use Rattle.consumer_commands.specs.SendLines.{entry_text}

-- the lines of entries in the order of their numbers: of all those of the copy, where its keeper tells
pub record IsOutboxText (stands : Copy → Type 0) (text : List ℕ) : Type 0 where
  pub entries : List OutEntry
  pub rise : NumbersRise 0 entries
  pub held : (c : Copy) → stands c → entries ≡ c.entries
  pub is : text ≡ flat_map entry_text entries
