-- The records that a reader has left.
use Rattle.std.specs.Prelude.{◌≡◌, ◌+◌, ℕ, List, [], ◌∷◌, length, Bool, true, false, Option, Some, None, ⊤}
use Rattle.csv.specs.Records.{AllText}
use Rattle.csv.specs.Reading.{Ready, default_config, is_flexible, has_failed, reader_config, reader_state, reader_trim}
use Rattle.csv.specs.Reading.{records_from, source_of}
use Rattle.csv.specs.declared.parser.State.{State}
use Rattle.csv.specs.declared.reader.Reader.{Reader}
use Rattle.csv.specs.declared.reader.Trim.TheVariants as trim

-- the records of a text from a state, none where the text isn't known
abbrev pub records_of_text : State → Option (List ℕ) → List (List (List ℕ))
records_of_text s None = []
records_of_text s (Some xs) = records_from default_config (length xs + 1) s xs

-- the records that a reader has left, where `rem` tells the text that its source has left
abbrev pub records_left : {R : Type 0} → (R → Option (List ℕ)) → Reader R → List (List (List ℕ))
records_left rem s = records_of_text (reader_state s) (source_of rem s)

-- how a reader stands that has not failed
pub record Reads {R : Type 0} (s : Reader R) : Type 0 where
  pub trim : reader_trim s ≡ trim.None
  pub config : reader_config s ≡ default_config
  pub flexible : is_flexible s ≡ true
  pub ready : Ready s

-- a reader that has failed reads no more
abbrev pub CanRead : {R : Type 0} → Reader R → Type 0
CanRead s = has_failed s ≡ false → Reads s

-- a read found the first record of those that were left, or there was none
abbrev pub GivesRecord : List (List (List ℕ)) → Bool → List (List ℕ) → List (List (List ℕ)) → Type 0
GivesRecord old true fields new = old ≡ fields ∷ new
GivesRecord old false fields new = old ≡ []

-- each cell of each record is text
abbrev pub AllRowsText : List (List (List ℕ)) → Type 0
AllRowsText [] = ⊤
AllRowsText (r ∷ rs) = AllText r × AllRowsText rs
