-- The rows that a copy holds, as text.
use Rattle.std.specs.Prelude.{◌≡◌, ◌++◌, ℕ, List, None, codes}
use Rattle.keeper_memory.specs.copy.Copies.{Copy, held_list}
use Rattle.keeper_memory.specs.copy.Lists.{IsList}
use Rattle.roster_types.specs.Records.{Record}
use Rattle.roster_values.specs.declared.kind.Kind.{Kind}
use Rattle.row_json.specs.Json.{collection_text}

-- the collection of the rows, and a line feed
unfoldable pub listed_text : Kind → List Record → List ℕ
listed_text kind rows = collection_text None kind rows ++ codes "\n"

-- the text of rows of the kind in the order of their ids: of those that the copy holds, where its keeper tells
pub record IsHeldText (kind : Kind) (stands : Copy → Type 0) (text : List ℕ) : Type 0 where
  pub rows : List Record
  pub list : IsList kind rows
  pub held : (c : Copy) → stands c → rows ≡ held_list c kind
  pub is : text ≡ listed_text kind rows
