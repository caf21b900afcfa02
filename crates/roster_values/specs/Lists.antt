-- Lists as texts: items between commas.
use Rattle.std.specs.Prelude.{ℕ, ◌==◌, not, Bool, List, [], ◌∷◌, Result, Ok, Err, length, map, nat_lt, if◌then◌else◌}
use Rattle.std.specs.List.{before_first, after_first, filter, position_or_len, slice_split}
use Rattle.roster_texts.specs.declared.fault.ValueFault.{ValueFault}
use Rattle.roster_texts.specs.declared.fault.ValueFault.TheVariants.{BadId, BadList, TooLong}
use Rattle.roster_base.specs.Reading.{◌>>=◌}
use Rattle.roster_texts.specs.Results.{found_or}
use Rattle.roster_texts.specs.Signs.{colon, comma}
use Rattle.roster_texts.specs.Texts.{is_id}
use Rattle.roster_texts.specs.Trim.{trimmed}
use Rattle.roster_values.specs.UserIds.{inner, is_braced, user_id_from, UserIdParts}

-- a comma, which stands between the items of a list
abbrev pub is_comma : ℕ → Bool
is_comma b = b == comma

-- not empty
abbrev pub is_filled : List ℕ → Bool
is_filled t = not (length t == 0)

-- the items between commas, without the spaces at their ends and without the empty ones
unfoldable pub items_of : List ℕ → List (List ℕ)
items_of t = filter is_filled (map trimmed (slice_split is_comma t))

-- what one item gives: its text, or nothing where it is blank
abbrev pub item_of : List ℕ → List (List ℕ)
item_of t = if is_filled (trimmed t) then trimmed t ∷ [] else []

-- each item read, or what is wrong with the first that is refused
unfoldable pub read_all : {A : Type 0} → (List ℕ → Result A ValueFault) → List (List ℕ) → Result (List A) ValueFault
read_all read [] = Ok []
read_all read (t ∷ ts) = do
  x ← read t
  xs ← read_all read ts
  Ok (x ∷ xs)

-- the id that a text is: at most 255 bytes, and then what an id may be
unfoldable pub id_of : List ℕ → Result (List ℕ) ValueFault
id_of t =
    if nat_lt 255 (length t) then Err TooLong
    else if is_id t then Ok t
    else Err BadId

-- the ids of a list
unfoldable pub ids_of : List ℕ → Result (List (List ℕ)) ValueFault
ids_of t = read_all id_of (items_of t)

-- a colon, which stands behind the type of a user id
abbrev pub is_colon : ℕ → Bool
is_colon b = b == colon

-- the user id that type:identifier writes, cut at the first colon, without the spaces at the ends of either part
unfoldable pub user_id_in : List ℕ → Result UserIdParts ValueFault
user_id_in t =
    if nat_lt (position_or_len is_colon t) (length t)
    then found_or BadList (user_id_from (trimmed (before_first is_colon t)) (trimmed (after_first is_colon t)))
    else Err BadList

-- the user id that {type:identifier} writes
unfoldable pub user_id_of : List ℕ → Result UserIdParts ValueFault
user_id_of t = if is_braced t then user_id_in (inner t) else Err BadList

-- the user ids of a list
unfoldable pub user_ids_of : List ℕ → Result (List UserIdParts) ValueFault
user_ids_of t = read_all user_id_of (items_of t)
