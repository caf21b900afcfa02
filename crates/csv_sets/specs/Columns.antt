-- The steps by which a header is read.
use Rattle.std.specs.Prelude.{◌≡◌, ◌&&◌, ◌||◌, ℕ, Bool, true, List, [], Option, None, Some, Result, Ok, Err, String}
use Rattle.std.specs.Prelude.{bytes_eq, map, not, if◌then◌else◌}
use Rattle.std.specs.BTreeSet.{BTreeSet, contains_text}
use Rattle.std.specs.declared.alloc.Global.{Global}
use Rattle.roster_base.specs.Reading.{◌>>=◌}
use Rattle.roster_texts.specs.Texts.{is_id}
use Rattle.roster_values.specs.declared.kind.Kind.{Kind}
use Rattle.roster_values.specs.declared.mode.Mode.{Mode}
use Rattle.roster_values.specs.Table.{table}
use Rattle.csv_sets.specs.declared.fault.ColumnFault.TheVariants.{BadKey, Repeated}
use Rattle.csv_sets.specs.declared.fault.SetFault.{SetFault}
use Rattle.csv_sets.specs.declared.header.MetadataColumn.{MetadataColumn}
use Rattle.csv_sets.specs.Headers.{columns_checked, in_file, is_metadata, is_read, key_in, metadata_from, place_of}
use Rattle.csv_sets.specs.Headers.{required_checked}

-- a column that is read may not stand twice: `stood` says that it stands before
unfoldable pub noted : Kind → Bool → List ℕ → Result Bool SetFault
noted kind stood column = if is_read kind column && stood then Err (in_file kind column Repeated) else Ok true

-- one more column stands in the set of those before; of columns that aren't read nothing is said
abbrev pub Notes : Kind → BTreeSet (String Global) → BTreeSet (String Global) → List ℕ → Type 0
Notes kind old new column = (q : List ℕ) → is_read kind q ≡ true
    → contains_text new q ≡ (bytes_eq column q || contains_text old q)

-- the metadata column of that name at a place, if the name is one of metadata
unfoldable pub metadata_column : Kind → ℕ → List ℕ → Result (Option MetadataColumn) SetFault
metadata_column kind place column =
    if not (is_metadata column) then Ok None
    else if is_id (key_in column) then Ok (Some (record { key = key_in column; place = place }))
    else Err (in_file kind column BadKey)

-- the metadata columns as they stand, or the first fault of the columns
abbrev pub metadata_of : Kind → List (List ℕ) → Result (List MetadataColumn) SetFault
metadata_of kind columns = do
  read ← columns_checked kind [] columns
  Ok (metadata_from 0 columns)

-- the places of the fields' columns, or the first required column that is missing
abbrev pub places_of : Kind → Mode → List (List ℕ) → Result (List (Option ℕ)) SetFault
places_of kind mode columns = do
  whole ← required_checked kind mode columns 0 (table kind)
  Ok (map (λ i. place_of columns i.column) (table kind))
