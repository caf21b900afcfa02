use Rattle.std.proofs.Common.{◌≡◌, ◌++◌, flat_map, take}
use Rattle.serde_json.specs.Data.{string}
use Rattle.row_json.specs.Tokens.{data_tokens}
use Rattle.row_json.proofs.delta.push_ids.Given as goal

abbrev pub invariant-loop-id : goal.invariant-loop-id
invariant-loop-id l = record {
  before : l.out.before ≡ l.fn.out.before;
  tokens : l.out.tokens ≡ l.fn.out.tokens ++ flat_map (λ id. data_tokens (string id)) (take l.id-index l.ids);
}
