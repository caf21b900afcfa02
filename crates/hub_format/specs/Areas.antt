-- The areas of a hub's store.
use Rattle.std.specs.Prelude.{ℕ}
use Rattle.hub_format.specs.declared.area.HubArea.{HubArea}
use Rattle.hub_format.specs.declared.area.HubArea.TheVariants.{BaseRows, ChangeRows, Format, Grants, Marks, Names}
use Rattle.hub_format.specs.declared.area.HubArea.TheVariants.{Spans, State, Versions}

-- the number of an area
abbrev pub area_number : HubArea → ℕ
area_number Format = 0
area_number State = 1
area_number BaseRows = 2
area_number Versions = 3
area_number ChangeRows = 4
area_number Grants = 5
area_number Marks = 6
area_number Spans = 7
area_number Names = 8

-- the same numbers by the names of their areas
abbrev pub format_area : ℕ
format_area = area_number Format

abbrev pub state_area : ℕ
state_area = area_number State

abbrev pub base_rows_area : ℕ
base_rows_area = area_number BaseRows

abbrev pub versions_area : ℕ
versions_area = area_number Versions

abbrev pub change_rows_area : ℕ
change_rows_area = area_number ChangeRows

abbrev pub grants_area : ℕ
grants_area = area_number Grants

abbrev pub marks_area : ℕ
marks_area = area_number Marks

abbrev pub spans_area : ℕ
spans_area = area_number Spans

abbrev pub names_area : ℕ
names_area = area_number Names
