-- The text of a file that is written: a header of all columns, and a line for each row.
use Rattle.std.specs.Prelude.{ℕ, true, List, [], ◌∷◌, ◌++◌, Option, None, Some, bytes_eq, codes, map, if◌then◌else◌}
use Rattle.csv.specs.Writing.{default_writer, row_text}
use Rattle.roster_base.specs.Order.{in_order}
use Rattle.roster_types.specs.declared.metadata.Entry.{Entry}
use Rattle.roster_types.specs.declared.set_row.SetRow.{SetRow}
use Rattle.roster_types.specs.Records.{Record, all_values}
use Rattle.roster_values.specs.CellText.{cell_text}
use Rattle.roster_values.specs.declared.kind.Kind.{Kind}
use Rattle.roster_values.specs.declared.value.Value.{Value}
use Rattle.roster_values.specs.Table.{table}
use Rattle.csv_sets.specs.declared.keys.MetadataKey.{MetadataKey}

-- the bytes of a key
abbrev pub key_in : MetadataKey → List ℕ
key_in k = k.key

-- the key of an entry of metadata
abbrev pub entry_key : Entry → MetadataKey
entry_key e = record { key = e.key }

-- the keys of the rows' metadata, row by row
unfoldable pub all_keys : List Record → List MetadataKey
all_keys [] = []
all_keys (r ∷ rs) = map entry_key r.metadata ++ all_keys rs

-- the same keys in ascending order, each once
abbrev pub keys_of : List Record → List MetadataKey
keys_of rows = in_order key_in (all_keys rows)

-- the columns of the kind's fields in order, then those of metadata
abbrev pub written_header : Kind → List MetadataKey → List (List ℕ)
written_header kind keys = map (λ i. i.column) (table kind) ++ map (λ k. codes "metadata." ++ k.key) keys

-- the text of a field's cell, blank where the field is absent
abbrev pub field_cell : Option Value → List ℕ
field_cell None = []
field_cell (Some value) = cell_text value

-- the text of the entry with a key, blank where there is none
abbrev pub metadata_cell : List Entry → List ℕ → List ℕ
metadata_cell [] key = []
metadata_cell (e ∷ es) key = if bytes_eq e.key key then e.text else metadata_cell es key

-- the cells of a row's line
abbrev pub written_cells : List MetadataKey → Record → List (List ℕ)
written_cells keys row = map field_cell (all_values row) ++ map (λ k. metadata_cell row.metadata k.key) keys

-- the records of the file, the header among them
abbrev pub written_records : Kind → List Record → List (List (List ℕ))
written_records kind rows = written_header kind (keys_of rows) ∷ map (written_cells (keys_of rows)) rows

-- records as lines: a cell stands in quotes where CSV asks for it, and each line ends with a line feed
unfoldable pub lines_text : List (List (List ℕ)) → List ℕ
lines_text [] = []
lines_text (cells ∷ rest) = row_text default_writer cells ++ lines_text rest

-- the text of a file of these rows
unfoldable pub written_text : Kind → List Record → List ℕ
written_text kind rows = lines_text (written_records kind rows)

-- a row that brings its date
abbrev pub dated : Record → SetRow
dated row = record { row = row; dated = true }
