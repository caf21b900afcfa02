-- The header of a file: a finite map from column names to places.
use Rattle.std.specs.Prelude.{◌+◌, ◌&&◌, ◌||◌, ℕ, Bool, true, List, [], ◌∷◌, Option, Result, Ok, Err, bytes_eq, codes}
use Rattle.std.specs.Prelude.{drop, length, map, nat_eq, not, position, if◌then◌else◌}
use Rattle.std.specs.List.{list_any, starts_with}
use Rattle.roster_base.specs.Order.{in_order}
use Rattle.roster_base.specs.Reading.{◌>>=◌}
use Rattle.roster_texts.specs.Texts.{is_id}
use Rattle.roster_texts.specs.Trim.{trimmed}
use Rattle.roster_values.specs.declared.kind.Kind.{Kind}
use Rattle.roster_values.specs.declared.mode.Mode.{Mode}
use Rattle.roster_values.specs.Table.{Info, table}
use Rattle.roster_values.specs.Table.{info_in}
use Rattle.csv_sets.specs.declared.fault.ColumnFault.{ColumnFault}
use Rattle.csv_sets.specs.declared.fault.ColumnFault.TheVariants.{BadKey, Missing, Repeated}
use Rattle.csv_sets.specs.declared.fault.SetFault.{SetFault}
use Rattle.csv_sets.specs.declared.fault.SetFault.TheVariants.{Column}
use Rattle.csv_sets.specs.declared.fault.SetFile.TheVariants.{RowsOf}
use Rattle.csv_sets.specs.declared.header.MetadataColumn.{MetadataColumn}

-- the names of the columns: the cells of the first record, without the spaces at their ends
abbrev pub columns_of : List (List ℕ) → List (List ℕ)
columns_of cells = map trimmed cells

-- one of the columns has this name
abbrev pub has_column : List (List ℕ) → List ℕ → Bool
has_column columns name = list_any (λ c. bytes_eq c name) columns

-- the place of a column
abbrev pub place_of : List (List ℕ) → List ℕ → Option ℕ
place_of columns name = position (λ c. bytes_eq c name) columns

-- `metadata.` and a key
abbrev pub is_metadata : List ℕ → Bool
is_metadata column = starts_with nat_eq column (codes "metadata.")

-- what stands behind `metadata.`, which has nine bytes
abbrev pub key_in : List ℕ → List ℕ
key_in column = drop 9 column

-- the file's kind has a field in a column of that name
abbrev pub is_known : Kind → List ℕ → Bool
is_known kind column = list_any (λ i. bytes_eq i.column column) (table kind)

-- a column is read where it is of a field or of metadata; any other is passed over
abbrev pub is_read : Kind → List ℕ → Bool
is_read kind column = is_known kind column || is_metadata column

-- the fault of a column of a kind's file
abbrev pub in_file : Kind → List ℕ → ColumnFault → SetFault
in_file kind column fault = Column (RowsOf kind) column fault

-- the first fault of the columns from left to right, behind those that stand before them
unfoldable pub columns_checked : Kind → List (List ℕ) → List (List ℕ) → Result Bool SetFault
columns_checked kind before [] = Ok true
columns_checked kind before (c ∷ cs) =
    if is_read kind c && has_column before c then Err (in_file kind c Repeated)
    else if is_metadata c && not (is_id (key_in c)) then Err (in_file kind c BadKey)
    else columns_checked kind (c ∷ before) cs

-- the first of the fields that is required and has no column
unfoldable pub required_checked : Kind → Mode → List (List ℕ) → ℕ → List Info → Result Bool SetFault
required_checked kind mode columns place [] = Ok true
required_checked kind mode columns place (i ∷ is) =
    if (info_in mode place i).required && not (has_column columns i.column) then Err (in_file kind i.column Missing)
    else required_checked kind mode columns (place + 1) is

-- the metadata columns from a place on, as they stand
unfoldable pub metadata_from : ℕ → List (List ℕ) → List MetadataColumn
metadata_from place [] = []
metadata_from place (c ∷ cs) =
    if is_metadata c then record { key = key_in c; place = place } ∷ metadata_from (place + 1) cs
    else metadata_from (place + 1) cs

-- what a header says of the records below it
pub record Header : Type 0 where
  -- where the column of each field of the kind stands
  pub places : List (Option ℕ)
  -- the metadata columns in ascending order of their keys
  pub metadata : List MetadataColumn
  -- how many columns there are
  pub width : ℕ

-- the key of a metadata column
abbrev pub metadata_key : MetadataColumn → List ℕ
metadata_key c = c.key

-- the header of these columns, whose faults are looked for elsewhere
unfoldable pub header_from : Kind → List (List ℕ) → Header
header_from kind columns = record {
  places = map (λ i. place_of columns i.column) (table kind);
  metadata = in_order metadata_key (metadata_from 0 columns);
  width = length columns;
}

-- the header that a first record spells, or its first fault
unfoldable pub header_of : Kind → Mode → List (List ℕ) → Result Header SetFault
header_of kind mode cells = do
  read ← columns_checked kind [] (columns_of cells)
  whole ← required_checked kind mode (columns_of cells) 0 (table kind)
  Ok (header_from kind (columns_of cells))
