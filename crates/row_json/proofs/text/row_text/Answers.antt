use Rattle.std.proofs.Common.{rules, ◌≡◌, ap, option_map, ◌∙◌, string_bytes}
use Rattle.row_json.specs.Json.{row_data, row_text}
use Rattle.row_json.specs.Tokens.{data_tokens}
use Rattle.row_json.proofs.Collecting.{row-text}
use Rattle.row_json.proofs.RowLengths.{length_of_text}
use Rattle.row_json.proofs.text.row_text.Goals as goal

pub returns : goal.returns
returns c =
    let only = option_map (λ s. s.now) c.args.only in
    let tokens : c.write_row.new.out.tokens ≡ data_tokens (row_data only c.args.row.now) = search rules in
    let is : string_bytes c.written.result ≡ row_text only c.args.row.now = row-text only c.args.row.now _ _ c.written.ensures tokens in
    record {
      text = is;
      length = λ none. (length_of_text c.args.row.now _ c.kind.ensures.row (is ∙ ap (λ only. row_text (option_map (λ s. s.now) only) c.args.row.now) none)).0;
      bound = λ none. (length_of_text c.args.row.now _ c.kind.ensures.row (is ∙ ap (λ only. row_text (option_map (λ s. s.now) only) c.args.row.now) none)).1;
      held = record { row = c.kind.ensures.row; keys = search rules };
    }
