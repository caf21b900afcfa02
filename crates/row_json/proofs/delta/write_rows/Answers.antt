use Rattle.std.proofs.Common.{rules, ◌≡◌, ◌++◌, ◌∷◌, [], None, ap, sym, ◌∙◌}
use Rattle.json.specs.Token.{begin_array, end_array, key}
use Rattle.roster_values.specs.Kinds.{plural_of}
use Rattle.row_json.proofs.DeltaTexts.{member_parts}
use Rattle.row_json.proofs.TokenLaws.{array_tokens}
use Rattle.row_json.specs.Json.{row_data}
use Rattle.row_json.proofs.delta.write_rows.Goals as goal

pub returns-clause-tokens : goal.returns-clause-tokens
returns-clause-tokens c =
    let named : c.key.new.self.tokens ≡ c.args.out.now.tokens ++ key c.plural.result.now ∷ [] = search rules in
    let opened : c.begin_array.new.self.tokens ≡ c.key.new.self.tokens ++ begin_array ∷ [] = search rules in
    let closed : c.end_array.new.self.tokens ≡ c.push_rows.new.out.tokens ++ end_array ∷ [] = search rules in
    member_parts _ _ _ _ _ (plural_of c.args.kind) _ (named ∙ ap (λ name. c.args.out.now.tokens ++ key name ∷ []) c.plural.ensures) opened c.in_ok-push_rows.ensures.tokens closed
    ∙ ap (λ ts. c.args.out.now.tokens ++ key (plural_of c.args.kind) ∷ ts) (sym (array_tokens (row_data None) c.args.rows.now))
