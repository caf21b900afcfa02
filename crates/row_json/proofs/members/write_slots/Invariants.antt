use Rattle.std.proofs.Common.{◌≡◌, ◌++◌, flat_map, take, option_map}
use Rattle.row_json.specs.Tokens.{slot_at, slot_tokens}
use Rattle.row_json.proofs.members.write_slots.Given as goal

abbrev pub invariant-loop-place : goal.invariant-loop-place
invariant-loop-place l = record {
  before : l.out.before ≡ l.fn.out.before;
  tokens : l.out.tokens ≡ l.fn.out.tokens ++ flat_map (λ place. slot_tokens (option_map (λ s. s.now) l.only) (slot_at l.row place)) (take l.place-index l.place-items);
}
