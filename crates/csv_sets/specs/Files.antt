-- The rows of a file: those that its records spell, in their order, or the file's first fault.
use Rattle.std.specs.Prelude.{◌≡◌, ◌≤◌, ◌+◌, ℕ, Bool, true, List, [], ◌∷◌, ◌++◌, Option, Some, None, Result, Ok, Err, ⊤}
use Rattle.std.specs.Prelude.{bytes_eq, drop, length, map, nat_lt, not, if◌then◌else◌}
use Rattle.std.specs.List.{AllZip, IsDistinct, list_any}
use Rattle.std.specs.Str.{is_utf8}
use Rattle.csv.specs.Reading.{default_config, records, strip_bom}
use Rattle.roster_base.specs.Reading.{◌>>=◌}
use Rattle.roster_base.specs.declared.refusal.Refusal.{Refusal}
use Rattle.roster_base.specs.declared.refusal.Refusal.TheVariants as refusal
use Rattle.roster_values.specs.declared.kind.Kind.{Kind}
use Rattle.roster_values.specs.declared.mode.Mode.{Mode}
use Rattle.roster_types.specs.declared.set_row.SetRow.{SetRow}
use Rattle.csv_sets.specs.declared.fault.RowFault.{RowFault}
use Rattle.csv_sets.specs.declared.fault.SetFault.{SetFault}
use Rattle.csv_sets.specs.declared.fault.SetFault.TheVariants.{NotUtf8, RepeatedId, Row, TooLarge}
use Rattle.csv_sets.specs.declared.fault.SetFile.TheVariants.{RowsOf}
use Rattle.csv_sets.specs.Headers.{Header, header_of}
use Rattle.csv_sets.specs.Rows.{row_at}

-- the greatest size of a file in bytes
abbrev pub largest : ℕ
largest = 67108864

-- the fault of a record, under its number
abbrev pub in_record : Kind → ℕ → Result SetRow RowFault → Result SetRow SetFault
in_record kind number (Ok row) = Ok row
in_record kind number (Err f) = Err (Row (RowsOf kind) number f.field f.fault)

-- one of the rows has this id
abbrev pub has_id : List ℕ → List SetRow → Bool
has_id id rows = list_any (λ r. bytes_eq r.row.id id) rows

-- the rows of the records from a number on, behind the rows of the records before
unfoldable pub rows_after : Kind → Mode → Header → List SetRow → ℕ → List (List (List ℕ))
    → Result (List SetRow) SetFault
rows_after kind mode header front number [] = Ok front
rows_after kind mode header front number (cells ∷ rest) = do
  row ← in_record kind number (row_at kind mode header cells)
  if has_id row.row.id front then Err (RepeatedId (RowsOf kind) number)
      else rows_after kind mode header (front ++ row ∷ []) (number + 1) rest

-- the rows of all records, of which the first is the header: without records there is a header of no column
unfoldable pub rows_of : Kind → Mode → List (List (List ℕ)) → Result (List SetRow) SetFault
rows_of kind mode [] = do
  header ← header_of kind mode []
  Ok []
rows_of kind mode (cells ∷ rest) = do
  header ← header_of kind mode cells
  rows_after kind mode header [] 2 rest

-- the rows of a file's bytes
unfoldable pub file_of : Kind → Mode → List ℕ → Result (List SetRow) SetFault
file_of kind mode bytes =
    if nat_lt largest (length bytes) then Err (TooLarge (RowsOf kind))
    else if not (is_utf8 bytes) then Err (NotUtf8 (RowsOf kind))
    else rows_of kind mode (records default_config (strip_bom bytes))

-- the id of a row of a set
abbrev pub id_in : SetRow → List ℕ
id_in listed = listed.row.id

-- the place of the first row whose id is among those before it, behind the rows in front
abbrev pub first_repeat : List SetRow → List SetRow → Option ℕ
first_repeat front [] = None
first_repeat front (row ∷ rows) =
    if has_id row.row.id front then Some (length front) else first_repeat (front ++ row ∷ []) rows

-- what was found, unless a row repeats an id: the first record below the header has the number 2
abbrev pub repeat_first : Kind → Option ℕ → Result (List SetRow) SetFault → Result (List SetRow) SetFault
repeat_first kind None found = found
repeat_first kind (Some place) found = Err (RepeatedId (RowsOf kind) (place + 2))

-- what a reading of all rows, or of those in front of the first record at fault, says of the whole
abbrev pub Finds : Kind → List SetRow → Result ⊤ (Refusal SetFault) → Result (List SetRow) SetFault → Type 0
Finds kind rows (Ok x) whole = whole ≡ repeat_first kind (first_repeat [] rows) (Ok rows)
Finds kind rows (Err (refusal.Fault f)) whole = whole ≡ repeat_first kind (first_repeat [] rows) (Err f)
Finds kind rows (Err refusal.NoMemory) whole = ⊤

-- the cells of the first record, none where there is no record
abbrev pub first_of : List (List (List ℕ)) → List (List ℕ)
first_of [] = []
first_of (cells ∷ rest) = cells

-- In plain words: the first record spells a header, each record below it spells its row, and no two rows have one id.
pub record AreRowsOf (kind : Kind) (mode : Mode) (records : List (List (List ℕ))) (rows : List SetRow) : Type 0 where
  pub header : Header
  pub good : header_of kind mode (first_of records) ≡ Ok header
  pub spelled : AllZip (λ cells row. row_at kind mode header cells ≡ Ok row) (drop 1 records) rows
  pub differ : IsDistinct bytes_eq (map (λ r. r.row.id) rows)

-- the same of a file: it isn't too large, it is text, and its records are so
pub record AreRowsIn (kind : Kind) (mode : Mode) (bytes : List ℕ) (rows : List SetRow) : Type 0 where
  pub size : length bytes ≤ largest
  pub text : is_utf8 bytes ≡ true
  pub spelled : AreRowsOf kind mode (records default_config (strip_bom bytes)) rows
