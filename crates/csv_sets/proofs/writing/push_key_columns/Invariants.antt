use Rattle.std.proofs.Common.{◌≡◌, ◌++◌, codes, map, string_bytes, take, true}
use Rattle.std.specs.List.{All}
use Rattle.roster_texts.specs.Texts.{is_id}
use Rattle.csv_sets.proofs.writing.push_key_columns.Given as goal

abbrev pub invariant-loop-key : goal.invariant-loop-key
invariant-loop-key l = record {
  cells : map string_bytes l.cells.items ≡ map string_bytes l.fn.cells.items ++ map (λ k. codes "metadata." ++ k.key) (take l.key-index l.keys);
  good : All (λ k. is_id k.key ≡ true) (take l.key-index l.keys);
}
