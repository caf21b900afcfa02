use Rattle.std.proofs.Common.{rules, ◌≡◌, ◌++◌, ◌∷◌, [], ap, sym, ◌∙◌}
use Rattle.json.specs.Token.{begin_array, end_array}
use Rattle.row_json.specs.Json.{reference_data}
use Rattle.row_json.proofs.TokenLaws.{array_tokens, three_parts}
use Rattle.row_json.proofs.values.write_references.Goals as goal

pub returns-clause-tokens : goal.returns-clause-tokens
returns-clause-tokens c =
    let opened : c.begin_array.new.self.tokens ≡ c.args.out.now.tokens ++ begin_array ∷ [] = search rules in
    let closed : c.end_array.new.self.tokens ≡ c.push_references.new.out.tokens ++ end_array ∷ [] = search rules in
    three_parts _ _ _ _ _ _ _ opened c.in_ok-push_references.ensures.tokens closed ∙ ap (λ ts. c.args.out.now.tokens ++ ts) (sym (array_tokens (reference_data c.args.kind) c.args.ids.now))
