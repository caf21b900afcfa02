use Rattle.std.proofs.Common.{rules, ◌≡◌, ap, ◌∙◌}
use Rattle.json.specs.Print.{print}
use Rattle.serde_json.proofs.Texts.{print-outline}
use Rattle.row_json.specs.Deltas.{delta_data, delta_text}
use Rattle.row_json.specs.Tokens.{data_tokens}
use Rattle.row_json.proofs.delta.delta_text.Goals as goal

pub returns : goal.returns
unfolding delta_text
returns c =
    let d = delta_data c.args.kind c.args.rows.now c.args.gone.now in
    let tokens : c.write_delta.new.out.tokens ≡ data_tokens d = search rules in
    c.written.ensures ∙ ap print tokens ∙ print-outline d
