-- The cells of a record.
use Rattle.std.specs.Prelude.{ℕ, List, [], Option, Some, option_and_then, unwrap_or}
use Rattle.csv.specs.Records.{field_at}
use Rattle.roster_texts.specs.Trim.{trimmed}

-- the cell at a place, empty where there is no such column
abbrev pub cell_at : List (List ℕ) → Option ℕ → List ℕ
cell_at cells place = unwrap_or (option_and_then (λ p. field_at cells p) place) []

-- its text, without the spaces at the ends
abbrev pub text_at : List (List ℕ) → ℕ → List ℕ
text_at cells place = trimmed (cell_at cells (Some place))
