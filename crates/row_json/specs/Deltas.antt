-- What differs of the rows of a kind, as a text and as what a text says of it.
use Rattle.std.specs.Prelude.{ℕ, ◌++◌, Bool, List, ◌∷◌, None, Result, Ok, Err, codes, if◌then◌else◌, map}
use Rattle.std.specs.Prelude.{option_and_then}
use Rattle.std.specs.Cmp.Lexicographic.{slice_cmp}
use Rattle.std.specs.Ordering.{is_lt, nat_cmp}
use Rattle.json.specs.Token.{Token, key}
use Rattle.serde_json.specs.Data.{Data, array, no_members, object, put, string}
use Rattle.serde_json.specs.Find.{as_array, as_str, get}
use Rattle.serde_json.specs.View.{items_of}
use Rattle.serde_json.specs.Written.{compact_text}
use Rattle.roster_base.specs.Reading.{◌>>=◌}
use Rattle.roster_texts.specs.Results.{found_or}
use Rattle.roster_texts.specs.Texts.{is_id}
use Rattle.roster_texts.specs.Trim.{trimmed}
use Rattle.roster_types.specs.Records.{Record}
use Rattle.roster_values.specs.Kinds.{plural_of}
use Rattle.roster_values.specs.declared.kind.Kind.{Kind}
use Rattle.row_json.specs.CellTexts.{each}
use Rattle.row_json.specs.Json.{row_data}
use Rattle.row_json.specs.Reading.{data_of}
use Rattle.row_json.specs.Tokens.{data_tokens}
use Rattle.row_json.specs.declared.fault.JsonFault.{JsonFault}
use Rattle.row_json.specs.declared.fault.JsonFault.TheVariants.{Shape}

abbrev pub gone_word : List ℕ
gone_word = codes "hubGone"

abbrev pub rows_data : List Record → Data
rows_data rows = array (items_of (map (row_data None) rows))

abbrev pub gone_data : List (List ℕ) → Data
gone_data gone = array (items_of (map string gone))

-- the rows that are put under the kind's plural word, and the ids that are gone under a word of their own
unfoldable pub delta_data : Kind → List Record → List (List ℕ) → Data
delta_data kind rows gone = object (put gone_word (gone_data gone) (put (plural_of kind) (rows_data rows) no_members))

unfoldable pub delta_text : Kind → List Record → List (List ℕ) → List ℕ
delta_text kind rows gone = compact_text (delta_data kind rows gone)

-- the ids stand before the rows
abbrev pub are_gone_first : Kind → Bool
are_gone_first kind = is_lt (slice_cmp nat_cmp gone_word (plural_of kind))

abbrev pub rows_tokens : Kind → List Record → List Token
rows_tokens kind rows = key (plural_of kind) ∷ data_tokens (rows_data rows)

abbrev pub gone_tokens : List (List ℕ) → List Token
gone_tokens gone = key gone_word ∷ data_tokens (gone_data gone)

abbrev pub member_tokens : Kind → List Record → List (List ℕ) → List Token
member_tokens kind rows gone = if are_gone_first kind then gone_tokens gone ++ rows_tokens kind rows else rows_tokens kind rows ++ gone_tokens gone

-- the id that an item says
unfoldable pub gone_item : Data → Result (List ℕ) JsonFault
gone_item d = do
  text ← found_or Shape (as_str d)
  if is_id (trimmed text) then Ok (trimmed text) else Err Shape

unfoldable pub gone_in : Data → Result (List (List ℕ)) JsonFault
gone_in d = found_or Shape (option_and_then as_array (get gone_word d)) >>= each gone_item

-- the ids that are gone by a text
unfoldable pub gone_of : List ℕ → Result (List (List ℕ)) JsonFault
gone_of bytes = data_of bytes >>= gone_in
