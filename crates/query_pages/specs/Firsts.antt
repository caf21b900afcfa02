-- The first rows of a list.
use Rattle.std.specs.Prelude.{ℕ, List, take}
use Rattle.filter_grammar.specs.rows.Orders.{Sorting, arranged}
use Rattle.roster_types.specs.Records.{Record}

-- in an order, at most so many
abbrev pub first : ℕ → Sorting → List Record → List Record
first count sorting rows = take count (arranged sorting rows)
