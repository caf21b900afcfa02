use Rattle.std.proofs.Common.{rules, ◌≡◌, ◌++◌, ◌∷◌, [], ap, option_map, sym, ◌∙◌}
use Rattle.json.specs.Token.{begin_object, end_object}
use Rattle.row_json.proofs.Slots.{row_tokens}
use Rattle.row_json.proofs.TokenLaws.{three_parts}
use Rattle.row_json.proofs.members.write_row.Goals as goal

pub returns-clause-tokens : goal.returns-clause-tokens
returns-clause-tokens c =
    let opened : c.begin_object.new.self.tokens ≡ c.args.out.now.tokens ++ begin_object ∷ [] = search rules in
    let closed : c.end_object.new.self.tokens ≡ c.write_slots.new.out.tokens ++ end_object ∷ [] = search rules in
    three_parts _ _ _ _ _ _ _ opened c.in_ok-write_slots.ensures.tokens closed ∙ ap (λ ts. c.args.out.now.tokens ++ ts) (sym (row_tokens (option_map (λ s. s.now) c.args.only) c.args.row.now))
