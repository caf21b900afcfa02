use Rattle.std.proofs.Common.{rules, ◌≡◌, ◌∷◌, ◌++◌, [], ap, flat_map, option_map, string_bytes, ◌∙◌}
use Rattle.std.proofs.lemmas.Str.{is_utf8-from_IsUtf8}
use Rattle.json.specs.Token.{begin_array, begin_object, end_array, end_object, key}
use Rattle.roster_values.specs.Kinds.{plural_of}
use Rattle.row_json.specs.Json.{collection_text, row_data}
use Rattle.row_json.specs.Tokens.{data_tokens}
use Rattle.row_json.proofs.Collecting.{collection-text}
use Rattle.row_json.proofs.RowBack.{collection-back}
use Rattle.row_json.proofs.text.collection_text.Goals as goal

pub returns : goal.returns
returns c =
    let only = option_map (λ s. s.now) c.args.only in
    let rows = c.args.rows.now in
    let tokens : c.end_object.new.self.tokens ≡ ((begin_object ∷ key (plural_of c.args.kind) ∷ begin_array ∷ [] ++ flat_map (λ r. data_tokens (row_data only r)) rows) ++ end_array ∷ []) ++ end_object ∷ [] = search rules in
    let is : string_bytes c.written-text.result ≡ collection_text only c.args.kind rows = collection-text only c.args.kind rows _ _ c.written-text.ensures tokens in
    record {
      text = is;
      back = λ none kinds. collection-back c.args.kind rows (string_bytes c.written-text.result) c.in_ok-write_rows.ensures.held kinds
          (is ∙ ap (λ only. collection_text (option_map (λ s. s.now) only) c.args.kind rows) none)
          (is_utf8-from_IsUtf8 (string_bytes c.written-text.result) (rw c.as_str.ensures.value at c.as_str.utf8));
    }
