-- The row that a record spells under a header, or what is wrong with it first.
use Rattle.std.specs.Prelude.{◌+◌, ◌==◌, ℕ, Bool, List, [], ◌∷◌, Option, None, Some, Result, Ok, Err, codes, length}
use Rattle.std.specs.Prelude.{not, if◌then◌else◌}
use Rattle.roster_base.specs.Reading.{◌>>=◌}
use Rattle.roster_texts.specs.declared.fault.ValueFault.{ValueFault}
use Rattle.roster_texts.specs.declared.fault.ValueFault.TheVariants.{TooLong, Width}
use Rattle.roster_texts.specs.Trim.{trimmed}
use Rattle.roster_values.specs.declared.kind.Kind.{Kind}
use Rattle.roster_values.specs.declared.mode.Mode.{Mode}
use Rattle.roster_values.specs.declared.value.Value.{Value}
use Rattle.roster_values.specs.Table.{Info, info_in, table}
use Rattle.roster_values.specs.Values.{value_of}
use Rattle.roster_types.specs.declared.metadata.Entry.{Entry}
use Rattle.roster_types.specs.declared.set_row.SetRow.{SetRow}
use Rattle.roster_types.specs.Records.{Record, is_dated}
use Rattle.roster_types.specs.Rows.{row_from}
use Rattle.csv_sets.specs.declared.fault.RowFault.{RowFault}
use Rattle.csv_sets.specs.declared.header.MetadataColumn.{MetadataColumn}
use Rattle.csv_sets.specs.Cells.{cell_at}
use Rattle.csv_sets.specs.Headers.{Header}

-- the fault of a field, under its column's name
abbrev pub in_field : {A : Type 0} → List ℕ → Result A ValueFault → Result A RowFault
in_field column (Ok x) = Ok x
in_field column (Err fault) = Err (record { field = column; fault = fault })

-- the fault of a whole record
abbrev pub in_record_itself : ValueFault → RowFault
in_record_itself fault = record { field = codes "*"; fault = fault }

-- the values of the fields in their order, or the first bad one
unfoldable pub values_at : Mode → ℕ → List Info → List (Option ℕ) → List (List ℕ)
    → Result (List (Option Value)) RowFault
values_at mode place [] places cells = Ok []
values_at mode place (i ∷ is) [] cells = Ok []
values_at mode place (i ∷ is) (p ∷ ps) cells = do
  value ← in_field i.column (value_of (info_in mode place i) (cell_at cells p))
  values ← values_at mode (place + 1) is ps cells
  Ok (value ∷ values)

-- the metadata of a record: a blank cell says nothing
unfoldable pub metadata_at : List MetadataColumn → List (List ℕ) → List Entry
metadata_at [] cells = []
metadata_at (c ∷ cs) cells =
    if length (trimmed (cell_at cells (Some c.place))) == 0 then metadata_at cs cells
    else record { key = c.key; text = trimmed (cell_at cells (Some c.place)) } ∷ metadata_at cs cells

-- a row that isn't too long, dated or not
abbrev pub set_row : Bool → Option Record → Result SetRow RowFault
set_row dated None = Err (in_record_itself TooLong)
set_row dated (Some row) = Ok (record { row = row; dated = dated })

-- the row that a record spells under a header of its kind, or what is wrong with it first
unfoldable pub row_at : Kind → Mode → Header → List (List ℕ) → Result SetRow RowFault
row_at kind mode header cells = if not (length cells == header.width) then Err (in_record_itself Width) else do
  values ← values_at mode 0 (table kind) header.places cells
  set_row (is_dated values) (row_from kind values (metadata_at header.metadata cells))
