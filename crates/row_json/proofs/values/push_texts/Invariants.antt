use Rattle.std.proofs.Common.{◌≡◌, ◌++◌, flat_map, take}
use Rattle.serde_json.specs.Data.{string}
use Rattle.row_json.specs.Tokens.{data_tokens}
use Rattle.row_json.proofs.values.push_texts.Given as goal

abbrev pub invariant-loop-text : goal.invariant-loop-text
invariant-loop-text l = record {
  before : l.out.before ≡ l.fn.out.before;
  tokens : l.out.tokens ≡ l.fn.out.tokens ++ flat_map (λ text. data_tokens (string text)) (take l.text-index l.texts);
}
