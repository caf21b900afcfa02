use Rattle.std.proofs.Common.{rules, ◌≡◌, ◌++◌, ◌∷◌, [], codes, ◌∙◌, ap, append_assoc}
use Rattle.json.specs.Token.{begin_object, end_object, key, string}
use Rattle.row_json.proofs.TokenLaws.{three_parts}
use Rattle.row_json.proofs.values.write_user_id.Goals as goal

pub returns-clause-tokens : goal.returns-clause-tokens
returns-clause-tokens c =
    let opened : c.begin_object.new.self.tokens ≡ c.args.out.now.tokens ++ begin_object ∷ [] = search rules in
    let first : c.write_member.new.out.tokens ≡ c.begin_object.new.self.tokens ++ key (codes "identifier") ∷ string c.args.id.now.identifier ∷ [] = search rules in
    let second : c.write_member-2.new.out.tokens ≡ c.write_member.new.out.tokens ++ key (codes "type") ∷ string c.args.id.now.form ∷ [] = search rules in
    let closed : c.end_object.new.self.tokens ≡ c.write_member-2.new.out.tokens ++ end_object ∷ [] = search rules in
    let name = key (codes "identifier") ∷ string c.args.id.now.identifier ∷ [] in
    let form = key (codes "type") ∷ string c.args.id.now.form ∷ [] in
    let inner : c.write_member-2.new.out.tokens ≡ c.args.out.now.tokens ++ (begin_object ∷ [] ++ (name ++ form)) = three_parts _ _ _ _ (begin_object ∷ []) name form opened first second in
    closed ∙ ap (λ ts. ts ++ end_object ∷ []) inner ∙ append_assoc c.args.out.now.tokens (begin_object ∷ [] ++ (name ++ form)) (end_object ∷ [])
