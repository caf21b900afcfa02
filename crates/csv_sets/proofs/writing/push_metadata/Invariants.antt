use Rattle.std.proofs.Common.{◌≡◌, ◌++◌, map, string_bytes, take}
use Rattle.csv_sets.specs.Written.{metadata_cell}
use Rattle.csv_sets.proofs.writing.push_metadata.Given as goal

abbrev pub invariant-loop-key : goal.invariant-loop-key
invariant-loop-key l = map string_bytes l.cells.items ≡ map string_bytes l.fn.cells.items ++ map (λ k. metadata_cell l.entries k.key) (take l.key-index l.keys)
