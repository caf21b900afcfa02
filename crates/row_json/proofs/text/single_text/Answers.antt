use Rattle.std.proofs.Common.{rules, ◌≡◌, ◌∷◌, ◌++◌, [], ap, option_map, string_bytes, ◌∙◌}
use Rattle.std.proofs.lemmas.Str.{is_utf8-from_IsUtf8}
use Rattle.json.specs.Token.{begin_object, end_object, key}
use Rattle.roster_values.specs.Kinds.{single_of}
use Rattle.row_json.specs.Json.{row_data, single_text}
use Rattle.row_json.specs.Tokens.{data_tokens}
use Rattle.row_json.proofs.Collecting.{single-text}
use Rattle.row_json.proofs.RowBack.{single-back}
use Rattle.row_json.proofs.text.single_text.Goals as goal

pub returns : goal.returns
returns c =
    let only = option_map (λ s. s.now) c.args.only in
    let row = c.args.row.now in
    let tokens : c.end_object.new.self.tokens ≡ (begin_object ∷ key (single_of row.kind) ∷ [] ++ data_tokens (row_data only row)) ++ end_object ∷ [] = search rules in
    let is : string_bytes c.written-text.result ≡ single_text only row = single-text only row _ _ c.written-text.ensures tokens in
    record {
      text = is;
      back = λ none. single-back row (string_bytes c.written-text.result) (record { row = c.kind.ensures.row; keys = search rules }) (is ∙ ap (λ only. single_text (option_map (λ s. s.now) only) row) none)
          (is_utf8-from_IsUtf8 (string_bytes c.written-text.result) (rw c.as_str.ensures.value at c.as_str.utf8));
    }
