use Rattle.std.proofs.Common.{◌≡◌, ◌++◌, flat_map, option_map, take}
use Rattle.std.specs.List.{All}
use Rattle.row_json.specs.Json.{row_data}
use Rattle.row_json.specs.Reading.{IsHeld}
use Rattle.row_json.specs.Tokens.{data_tokens}
use Rattle.row_json.proofs.text.write_rows.Given as goal

abbrev pub invariant-loop-row : goal.invariant-loop-row
invariant-loop-row l = record {
  before : l.out.before ≡ l.fn.out.before;
  tokens : l.out.tokens ≡ l.fn.out.tokens ++ flat_map (λ row. data_tokens (row_data (option_map (λ s. s.now) l.only) row)) (take l.row-index l.rows);
  held : All IsHeld (take l.row-index l.rows);
}
