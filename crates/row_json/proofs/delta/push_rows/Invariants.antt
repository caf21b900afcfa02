use Rattle.std.proofs.Common.{◌≡◌, ◌++◌, None, flat_map, take}
use Rattle.row_json.specs.Json.{row_data}
use Rattle.row_json.specs.Tokens.{data_tokens}
use Rattle.row_json.proofs.delta.push_rows.Given as goal

abbrev pub invariant-loop-row : goal.invariant-loop-row
invariant-loop-row l = record {
  before : l.out.before ≡ l.fn.out.before;
  tokens : l.out.tokens ≡ l.fn.out.tokens ++ flat_map (λ row. data_tokens (row_data None row)) (take l.row-index l.rows);
}
