use Rattle.std.proofs.Common.{rules, ◌≡◌, ◌++◌, ◌==◌, ◌∷◌, [], true, false, ap, append-nil, append_assoc, codes}
use Rattle.std.proofs.Common.{flat_map, length, option_map, sym, ◌∙◌}
use Rattle.json.specs.Token.{begin_object, end_object, key}
use Rattle.row_json.specs.Tokens.{entry_tokens, is_chosen, metadata_data}
use Rattle.row_json.proofs.TokenLaws.{left_out, no_metadata, some_metadata, three_parts}
use Rattle.row_json.proofs.members.write_metadata.Goals as goal

pub returns-then-is_empty-clause-tokens : goal.returns-then-is_empty-clause-tokens
returns-then-is_empty-clause-tokens c =
    let none : (length c.args.metadata.now == 0) ≡ true = search rules in
    sym (append-nil c.args.out.now.tokens) ∙ ap (λ ts. c.args.out.now.tokens ++ ts) (sym (no_metadata (option_map (λ s. s.now) c.args.only) c.args.metadata.now none))

pub returns-then-not-is_chosen-clause-tokens : goal.returns-then-not-is_chosen-clause-tokens
returns-then-not-is_chosen-clause-tokens c =
    let out : is_chosen (option_map (λ s. s.now) c.args.only) (codes "metadata") ≡ false = search rules in
    sym (append-nil c.args.out.now.tokens) ∙ ap (λ ts. c.args.out.now.tokens ++ ts) (sym (left_out (option_map (λ s. s.now) c.args.only) (codes "metadata") (metadata_data c.args.metadata.now) out))

pub returns-clause-tokens : goal.returns-clause-tokens
returns-clause-tokens c =
    let some : (length c.args.metadata.now == 0) ≡ false = search rules in
    let chosen : is_chosen (option_map (λ s. s.now) c.args.only) (codes "metadata") ≡ true = search rules in
    let named : c.key.new.self.tokens ≡ c.args.out.now.tokens ++ key (codes "metadata") ∷ [] = search rules in
    let begun : c.begin_object.new.self.tokens ≡ c.key.new.self.tokens ++ begin_object ∷ [] = search rules in
    let opened : c.begin_object.new.self.tokens ≡ c.args.out.now.tokens ++ key (codes "metadata") ∷ begin_object ∷ [] = begun ∙ ap (λ ts. ts ++ begin_object ∷ []) named ∙ append_assoc c.args.out.now.tokens (key (codes "metadata") ∷ []) (begin_object ∷ []) in
    let inner : c.push_entries.new.out.tokens ≡ c.begin_object.new.self.tokens ++ flat_map entry_tokens c.args.metadata.now = search rules in
    let closed : c.end_object.new.self.tokens ≡ c.push_entries.new.out.tokens ++ end_object ∷ [] = search rules in
    three_parts _ _ _ _ _ _ _ opened inner closed ∙ ap (λ ts. c.args.out.now.tokens ++ ts) (sym (some_metadata (option_map (λ s. s.now) c.args.only) c.args.metadata.now some chosen c.entries-entries.ensures.order))
