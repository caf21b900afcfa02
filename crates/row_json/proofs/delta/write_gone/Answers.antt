use Rattle.std.proofs.Common.{rules, ◌≡◌, ◌++◌, ◌∷◌, [], ap, sym, ◌∙◌}
use Rattle.json.specs.Token.{begin_array, end_array, key}
use Rattle.serde_json.specs.Data.{string}
use Rattle.row_json.proofs.DeltaTexts.{member_parts}
use Rattle.row_json.proofs.TokenLaws.{array_tokens}
use Rattle.row_json.specs.Deltas.{gone_word}
use Rattle.row_json.proofs.delta.write_gone.Goals as goal

pub returns-clause-tokens : goal.returns-clause-tokens
returns-clause-tokens c =
    let named : c.key.new.self.tokens ≡ c.args.out.now.tokens ++ key gone_word ∷ [] = search rules in
    let opened : c.begin_array.new.self.tokens ≡ c.key.new.self.tokens ++ begin_array ∷ [] = search rules in
    let closed : c.end_array.new.self.tokens ≡ c.push_ids.new.out.tokens ++ end_array ∷ [] = search rules in
    member_parts _ _ _ _ _ gone_word _ named opened c.in_ok-push_ids.ensures.tokens closed ∙ ap (λ ts. c.args.out.now.tokens ++ key gone_word ∷ ts) (sym (array_tokens string c.args.gone.now))
