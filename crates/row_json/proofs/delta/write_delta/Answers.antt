use Rattle.std.proofs.Common.{rules, ◌≡◌, ◌++◌, ◌∷◌, [], ap, ◌∙◌}
use Rattle.json.specs.Token.{begin_object, end_object}
use Rattle.row_json.proofs.DeltaTexts.{delta_tokens}
use Rattle.row_json.proofs.TokenLaws.{three_parts}
use Rattle.row_json.proofs.delta.write_delta.Goals as goal

pub returns-clause-tokens : goal.returns-clause-tokens
returns-clause-tokens c =
    let opened : c.begin_object.new.self.tokens ≡ c.args.out.now.tokens ++ begin_object ∷ [] = search rules in
    let closed : c.end_object.new.self.tokens ≡ c.write_members.new.out.tokens ++ end_object ∷ [] = search rules in
    three_parts _ _ _ _ _ _ _ opened c.in_ok-write_members.ensures.tokens closed ∙ ap (λ ts. c.args.out.now.tokens ++ ts) (delta_tokens c.args.kind c.args.rows.now c.args.gone.now)
