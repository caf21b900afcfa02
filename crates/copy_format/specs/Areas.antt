-- The areas of a copy's store.
use Rattle.std.specs.Prelude.{ℕ}
use Rattle.copy_format.specs.Format.{row_area}
use Rattle.copy_format.specs.declared.area.CopyArea.{CopyArea}
use Rattle.copy_format.specs.declared.area.CopyArea.TheVariants.{Format, Outbox, Rows, Stage, State, Token}

-- the number of an area
abbrev pub area_number : CopyArea → ℕ
area_number Format = 0
area_number State = 1
area_number Stage = 2
area_number Outbox = 3
area_number Token = 4
area_number (Rows side kind) = row_area side kind

-- the same numbers by the names of their areas
abbrev pub format_area : ℕ
format_area = area_number Format

abbrev pub state_area : ℕ
state_area = area_number State

abbrev pub stage_area : ℕ
stage_area = area_number Stage

abbrev pub outbox_area : ℕ
outbox_area = area_number Outbox

abbrev pub token_area : ℕ
token_area = area_number Token
