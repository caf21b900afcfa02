-- Rows with what they are sorted by.
use Rattle.std.specs.Prelude.{◌≡◌, All, List, map}
use Rattle.query_pages.specs.declared.in_order.Placed.{Placed}
use Rattle.roster_types.specs.Records.{Record}
use Rattle.filter_grammar.specs.rows.Orders.{Sorting}

-- the row of an item
abbrev pub row_of : Placed → Record
row_of placed = placed.row.now

-- the rows of items, in their order
abbrev pub rows_placed : List Placed → List Record
rows_placed placed = map row_of placed

-- each has its row's key
abbrev pub AreKeyed : Sorting → List Placed → Type 0
AreKeyed sorting placed = All (λ p. p.key ≡ sorting.key p.row.now) placed
