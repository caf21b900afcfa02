-- The texts of values in a head.
use Rattle.std.specs.Prelude.{ℕ, ◌+◌, ◌-◌, ◌*◌, Bool, ◌&&◌, not, List, [], ◌∷◌, length, take, drop, if◌then◌else◌, ◌==◌}
use Rattle.std.specs.Prelude.{nat_lt, Option, Some, None, codes, bytes_eq, slice_index}
use Rattle.std.specs.List.{before_first, after_first}
use Rattle.std.specs.Char.{is_ascii_digit}
use Rattle.std.specs.Str.{str_eq_ignore_ascii_case}
use Rattle.roster_texts.specs.Digits.{◌>>=◌}
use Rattle.roster_texts.specs.Texts.{is_token}
use Rattle.status_info.specs.declared.request.Verb.{Verb}
use Rattle.status_info.specs.declared.request.Verb.TheVariants as verb
use Rattle.status_info.specs.declared.request.MarkField.{MarkField}
use Rattle.status_info.specs.declared.request.MarkField.TheVariants as mark
use Rattle.status_info.specs.declared.request.Echo.{Echo}

-- the greatest version, run or mark
abbrev pub last_number : ℕ
last_number = 1_000_000_000_000_000

-- the number that these digits write behind those of n
abbrev pub digits_after : ℕ → List ℕ → Option ℕ
digits_after n [] = Some n
digits_after n (b ∷ bytes) = if is_ascii_digit b then digits_after (n * 10 + (b - 48)) bytes else None

-- the number that 1 to 18 digits write
unfoldable pub digits_of : List ℕ → Option ℕ
digits_of bytes = if length bytes == 0 then None else if nat_lt 18 (length bytes) then None else digits_after 0 bytes

-- a zero stands before other bytes
abbrev pub has_leading_zero : List ℕ → Bool
has_leading_zero bytes = nat_lt 1 (length bytes) && (slice_index bytes 0 == 48)

-- a number from 0 to most, with no zero before its first digit
unfoldable pub count_of : ℕ → List ℕ → Option ℕ
count_of most bytes = if has_leading_zero bytes then None else do
  n ← digits_of bytes
  if nat_lt most n then None else Some n

-- the same from 1 on
unfoldable pub number_of : ℕ → List ℕ → Option ℕ
number_of most bytes = do
  n ← count_of most bytes
  if n == 0 then None else Some n

abbrev pub mark_or_bad : Option ℕ → MarkField
mark_or_bad None = mark.Bad
mark_or_bad (Some n) = mark.Number n

-- the mark of a value of X-Hub-Mark
abbrev pub mark_of : Option (List ℕ) → MarkField
mark_of None = mark.Nothing
mark_of (Some bytes) = mark_or_bad (number_of last_number bytes)

abbrev pub is_dot : ℕ → Bool
is_dot b = b == 46

-- two numbers with a dot between them
unfoldable pub echo_of : List ℕ → Option Echo
echo_of bytes = do
  run ← number_of last_number (before_first is_dot bytes)
  count ← number_of (100 * last_number) (after_first is_dot bytes)
  Some (record { run = run; count = count })

-- the echo of a value of X-Hub-Exchange
abbrev pub echo_at : Option (List ℕ) → Option Echo
echo_at None = None
echo_at (Some bytes) = echo_of bytes

abbrev pub skip_spaces : List ℕ → List ℕ
skip_spaces [] = []
skip_spaces (b ∷ bytes) = if b == 32 then skip_spaces bytes else b ∷ bytes

-- `Bearer` in any letter case, one space or more, and a token
unfoldable pub token_of : List ℕ → Option (List ℕ)
token_of bytes =
    if not (str_eq_ignore_ascii_case (take 7 bytes) (codes "Bearer ")) then None
    else if is_token (skip_spaces (drop 7 bytes)) then Some (skip_spaces (drop 7 bytes)) else None

-- the token of a value of Authorization
abbrev pub token_at : Option (List ℕ) → Option (List ℕ)
token_at None = None
token_at (Some bytes) = token_of bytes

abbrev pub is_question_mark : ℕ → Bool
is_question_mark b = b == 63

-- what stands before the first question mark of a target, and what behind it
abbrev pub path_of : List ℕ → List ℕ
path_of target = before_first is_question_mark target

abbrev pub query_of : List ℕ → List ℕ
query_of target = after_first is_question_mark target

unfoldable pub verb_of : List ℕ → Verb
verb_of method =
    if bytes_eq method (codes "GET") then verb.Get else if bytes_eq method (codes "PUT") then verb.Put
    else if bytes_eq method (codes "DELETE") then verb.Delete else if bytes_eq method (codes "HEAD") then verb.Head else verb.Other
