use Rattle.std.proofs.Common.{◌≡◌, ◌++◌, map, string_bytes, take}
use Rattle.csv_sets.proofs.writing.push_columns.Given as goal

abbrev pub invariant-loop-info : goal.invariant-loop-info
invariant-loop-info l = map string_bytes l.cells.items ≡ map string_bytes l.fn.cells.items ++ map (λ i. i.column.now) (take l.info-index l.infos)
