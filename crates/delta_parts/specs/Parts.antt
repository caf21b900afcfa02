-- Parts of a delta.
use Rattle.std.specs.Prelude.{ℕ, ◌+◌, Option, None, Some, List, length}
use Rattle.delta_parts.specs.declared.part.DeltaPart.{DeltaPart}
use Rattle.row_walks.specs.Below.Pages.{slice}
use Rattle.row_deltas.specs.Deltas.{ids_gone, rows_put}
use Rattle.row_deltas.specs.declared.entry.DeltaEntry.{DeltaEntry}
use Rattle.row_walks.specs.Parts.{with_row}

-- the entries at the places from an offset on, at most `limit` of them, as rows and as ids, and how many entries there
-- are in all
abbrev pub part_of_delta : ℕ → ℕ → List DeltaEntry → DeltaPart
part_of_delta limit offset entries =
    record { rows = rows_put (slice limit offset entries); gone = ids_gone (slice limit offset entries); total = length entries }

-- the items with one more, if there is one, where it is asked for; so many stand before it in the list
abbrev pub with_option : {A : Type 0} → ℕ → ℕ → ℕ → Option A → List A → List A
with_option limit offset before None items = items
with_option limit offset before (Some item) items = with_row limit offset before item items

-- how many stand before the next
abbrev pub count_on : {A : Type 0} → ℕ → Option A → ℕ
count_on before None = before
count_on before (Some item) = before + 1
