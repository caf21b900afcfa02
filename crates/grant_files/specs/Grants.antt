-- A file of grants, record by record.
use Rattle.std.specs.Prelude.{ℕ, ◌+◌, ◌==◌, ◌&&◌, Bool, true, false, List, [], ◌∷◌, ◌++◌, Result, Ok, Err, bytes_eq}
use Rattle.std.specs.Prelude.{codes, length, map, nat_lt, not, if◌then◌else◌}
use Rattle.std.specs.List.{list_any}
use Rattle.std.specs.Str.{is_utf8}
use Rattle.csv.specs.Reading.{default_config, records, strip_bom}
use Rattle.csv_sets.specs.Cells.{text_at}
use Rattle.grant_files.specs.declared.fault.GrantFault.{GrantFault}
use Rattle.grant_files.specs.declared.fault.GrantFault.TheVariants.{BadName, BadSchools, BadScope, BadToken, Header}
use Rattle.grant_files.specs.declared.fault.GrantFault.TheVariants.{NotUtf8, RepeatedCaller, RepeatedToken, TooMany}
use Rattle.grant_files.specs.declared.fault.GrantFault.TheVariants.{Width}
use Rattle.grant_files.specs.Schools.{schools_of}
use Rattle.grant_scopes.specs.declared.entry.GrantEntry.{GrantEntry}
use Rattle.grant_scopes.specs.Entries.{entry_caller, entry_token, grant_limit}
use Rattle.grant_scopes.specs.Words.{scopes_in}
use Rattle.roster_base.specs.Reading.{◌>>=◌}
use Rattle.roster_texts.specs.Results.{found_or}
use Rattle.roster_texts.specs.Texts.{is_name, is_token}

-- the header `caller,token,scopes,schools`
abbrev pub is_header : List (List ℕ) → Bool
is_header cells =
    (length cells == 4)
    && bytes_eq (text_at cells 0) (codes "caller")
    && bytes_eq (text_at cells 1) (codes "token")
    && bytes_eq (text_at cells 2) (codes "scopes")
    && bytes_eq (text_at cells 3) (codes "schools")

-- the caller that a cell names
abbrev pub caller_of : ℕ → List ℕ → Result (List ℕ) GrantFault
caller_of number text = if is_name text then Ok text else Err (BadName number)

-- the token that a cell has
abbrev pub token_of : ℕ → List ℕ → Result (List ℕ) GrantFault
token_of number text = if is_token text then Ok text else Err (BadToken number)

-- the grant that a record asks for, or what is wrong with it first, from left to right
unfoldable pub entry_of : ℕ → List (List ℕ) → Result GrantEntry GrantFault
entry_of number cells = if not (length cells == 4) then Err (Width number) else do
  caller ← caller_of number (text_at cells 0)
  token ← token_of number (text_at cells 1)
  scopes ← found_or (BadScope number) (scopes_in (text_at cells 2))
  schools ← found_or (BadSchools number) (schools_of (text_at cells 3))
  Ok (record { caller = caller; token = token; scopes = scopes; schools = schools })

-- a text is one of these
abbrev pub stands_in : List ℕ → List (List ℕ) → Bool
stands_in text texts = list_any (bytes_eq text) texts

-- a record's caller and its token may stand in no earlier one
abbrev pub new_in : ℕ → Bool → Bool → Result Bool GrantFault
new_in number true token_stood = Err (RepeatedCaller number)
new_in number false true = Err (RepeatedToken number)
new_in number false false = Ok true

-- the grants of the records so far and of one more
unfoldable pub entries_with : List GrantEntry → ℕ → List (List ℕ) → Result (List GrantEntry) GrantFault
entries_with front number cells = do
  entry ← entry_of number cells
  new ← new_in number (stands_in entry.caller (map entry_caller front)) (stands_in entry.token (map entry_token front))
  Ok (front ++ entry ∷ [])

-- the grants of the records from a number on, behind those of the records before
unfoldable pub entries_after : List GrantEntry → ℕ → List (List (List ℕ)) → Result (List GrantEntry) GrantFault
entries_after front number [] = Ok front
entries_after front number (cells ∷ rest) = do
  entries ← entries_with front number cells
  entries_after entries (number + 1) rest

-- grants that aren't too many
abbrev pub few : List GrantEntry → Result (List GrantEntry) GrantFault
few entries = if nat_lt grant_limit (length entries) then Err TooMany else Ok entries

-- the grants of the records below the header
unfoldable pub entries_below : List (List (List ℕ)) → Result (List GrantEntry) GrantFault
entries_below records = do
  entries ← entries_after [] 2 records
  few entries

-- the grants of all records, of which the first is the header
unfoldable pub entries_of : List (List (List ℕ)) → Result (List GrantEntry) GrantFault
entries_of [] = Err Header
entries_of (cells ∷ rest) = if is_header cells then entries_below rest else Err Header

-- the grants that a file's bytes ask for, or its first fault
unfoldable pub grants_of : List ℕ → Result (List GrantEntry) GrantFault
grants_of bytes = if not (is_utf8 bytes) then Err NotUtf8 else entries_of (records default_config (strip_bom bytes))
