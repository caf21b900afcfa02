-- The text of a cell that holds a value.
use Rattle.std.specs.Prelude.{codes, ℕ, ◌++◌, ◌∷◌, [], Bool, true, false, List, map, nat_le}
use Rattle.std.specs.Fmt.{signed_decimal}
use Rattle.std.specs.List.{join_with_byte}
use Rattle.roster_values.specs.declared.value.Value.{Value}
use Rattle.roster_values.specs.declared.value.Value.TheVariants.{Text, Id, Day, Moment, Number, Year, Flag, Word, Texts}
use Rattle.roster_values.specs.declared.value.Value.TheVariants.{UserIds, Ref, Refs}
use Rattle.roster_texts.specs.Days.{day_text}
use Rattle.roster_texts.specs.Digits.{four}
use Rattle.roster_texts.specs.Moments.{moment_text}
use Rattle.roster_texts.specs.Signs.{close_brace, colon, comma, open_brace}
use Rattle.roster_values.specs.UserIds.{UserIdParts}

-- a flag as a word
abbrev pub flag_text : Bool → List ℕ
flag_text true = codes "true"
flag_text false = codes "false"

-- a user id as {type:identifier}
abbrev pub user_id_text : UserIdParts → List ℕ
user_id_text u = open_brace ∷ (u.form ++ colon ∷ (u.identifier ++ close_brace ∷ []))

-- a value as the text of a cell: lists with commas between their items
unfoldable pub cell_text : Value → List ℕ
cell_text (Text t) = t
cell_text (Id t) = t
cell_text (Day day) = day_text day
cell_text (Moment moment) = moment_text moment
cell_text (Number n) = signed_decimal n
cell_text (Year year) = four year
cell_text (Flag b) = flag_text b
cell_text (Word w) = w
cell_text (Texts ts) = join_with_byte comma ts
cell_text (UserIds us) = join_with_byte comma (map user_id_text us)
cell_text (Ref t) = t
cell_text (Refs ts) = join_with_byte comma ts

-- a year of four digits, where it is one
abbrev pub has_short_year : Value → Bool
has_short_year (Year y) = nat_le y 9999
has_short_year _ = true
