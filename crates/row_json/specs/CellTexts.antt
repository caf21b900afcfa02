-- What a JSON value says in a field: the text of a cell that says the same.
use Rattle.std.specs.Prelude.{ℕ, List, [], ◌∷◌, Option, None, Some, Result, Ok, Err, codes, length, option_map, ◌==◌}
use Rattle.std.specs.Prelude.{if◌then◌else◌}
use Rattle.std.specs.List.{join_with_byte, list_all}
use Rattle.serde_json.specs.Data.{Data, Items, Num, array, boolean, item, no_items, null, number, object, string}
use Rattle.serde_json.specs.Find.{as_array, get, is_float}
use Rattle.serde_json.specs.Written.{number_text}
use Rattle.roster_base.specs.Reading.{◌>>=◌}
use Rattle.roster_texts.specs.declared.fault.ValueFault.{ValueFault}
use Rattle.roster_texts.specs.declared.fault.ValueFault.TheVariants.{BadId, BadList, Fractional}
use Rattle.roster_texts.specs.Results.{found_or}
use Rattle.roster_texts.specs.Signs.{comma}
use Rattle.roster_texts.specs.Trim.{trimmed}
use Rattle.roster_values.specs.CellText.{flag_text, user_id_text}
use Rattle.roster_values.specs.Fit.{is_no_comma}
use Rattle.roster_values.specs.Lists.{id_of}
use Rattle.roster_values.specs.Table.{Form, RefForm, RefsForm, TextsForm, UserIdsForm}
use Rattle.roster_values.specs.UserIds.{user_id_from}

-- each value read, or what is wrong with the first that is refused
unfoldable pub each : {A F : Type 0} → (Data → Result A F) → Items → Result (List A) F
each read no_items = Ok []
each read (item d ds) = do
  x ← read d
  xs ← each read ds
  Ok (x ∷ xs)

-- a whole number of 64 bits stands for its digits: `serde_json` reads those, and no others, as no floats
abbrev pub whole_text : Num → Result (List ℕ) ValueFault
whole_text n = if is_float n then Err Fractional else Ok (number_text n)

-- the text that a scalar stands for. What is no scalar is the fault
abbrev pub scalar_or : ValueFault → Data → Result (List ℕ) ValueFault
scalar_or fault null = Ok []
scalar_or fault (boolean b) = Ok (flag_text b)
scalar_or fault (number n) = whole_text n
scalar_or fault (string s) = Ok s
scalar_or fault (array ds) = Err fault
scalar_or fault (object ms) = Err fault

-- that of a scalar in an object, where it is there
abbrev pub part_or : ValueFault → Option Data → Result (List ℕ) ValueFault
part_or fault None = Err fault
part_or fault (Some d) = scalar_or fault d

-- a reference stands for its id
abbrev pub reference_text : Data → Result (List ℕ) ValueFault
reference_text d = part_or BadId (get (codes "sourcedId") d)

-- whatever is wrong within a user id, the list is bad
abbrev pub in_user_id : {A : Type 0} → Result A ValueFault → Result A ValueFault
in_user_id (Ok x) = Ok x
in_user_id (Err fault) = Err BadList

-- a user id stands for its parts in braces, if they may be a user id
unfoldable pub user_id_part : Data → Result (List ℕ) ValueFault
user_id_part d = do
  form ← in_user_id (part_or BadList (get (codes "type") d))
  identifier ← in_user_id (part_or BadList (get (codes "identifier") d))
  found_or BadList (option_map user_id_text (user_id_from (trimmed form) (trimmed identifier)))

-- a text that may stand between commas
unfoldable pub without_comma : ValueFault → List ℕ → Result (List ℕ) ValueFault
without_comma fault t = if list_all is_no_comma t then Ok t else Err fault

-- an id among others: blank, or what an id may be
unfoldable pub listed_id : List ℕ → Result (List ℕ) ValueFault
listed_id t = if length (trimmed t) == 0 then Ok [] else id_of (trimmed t)

-- a reference among others stands for its id. What is no reference makes the list bad
unfoldable pub listed_reference : Data → Result (List ℕ) ValueFault
listed_reference d = do
  text ← part_or BadList (get (codes "sourcedId") d)
  plain ← without_comma BadId text
  listed_id plain

-- an item of a list
unfoldable pub item_text : Form → Data → Result (List ℕ) ValueFault
item_text TextsForm d = scalar_or BadList d >>= without_comma BadList
item_text UserIdsForm d = user_id_part d
item_text form d = listed_reference d

-- a list stands for its items between commas
unfoldable pub list_text : Form → Option Items → Result (List ℕ) ValueFault
list_text form None = Err BadList
list_text form (Some ds) = do
  texts ← each (item_text form) ds
  Ok (join_with_byte comma texts)

-- the text of the cell that says in a field what the value says
unfoldable pub text_of : Form → Data → Result (List ℕ) ValueFault
text_of (RefForm kind) d = reference_text d
text_of TextsForm d = list_text TextsForm (as_array d)
text_of UserIdsForm d = list_text UserIdsForm (as_array d)
text_of (RefsForm kind) d = list_text (RefsForm kind) (as_array d)
text_of form d = scalar_or BadList d
