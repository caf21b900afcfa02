use Rattle.std.proofs.Common.{◌≡◌, map, string_bytes, take}
use Rattle.csv_sets.proofs.writing.lent_cells.Given as goal

abbrev pub invariant-loop-cell : goal.invariant-loop-cell
invariant-loop-cell l = map (λ b. b.now) l.lent.items ≡ map string_bytes (take l.cell-index l.cells)
