use Rattle.std.proofs.Common.{rules, ◌≡◌, ◌∷◌, sym, ap, ◌∙◌}
use Rattle.hub_format.specs.Pieces.{sized}
use Rattle.hub_format.proofs.Decoding.{row_back}
use Rattle.hub_format.proofs.read_rows.row_of_body.Goals as goal

pub returns-in-Ok-clause-row : goal.returns-in-Ok-clause-row
returns-in-Ok-clause-row c change back kinds body =
    let byte = c.in-Some.byte in
    let name = c.in-Some.name.now in
    let text = c.in-Some.text.now in
    let same : c.in-Some-2.name ≡ name = search rules in
    let both = row_back change c.args.kind byte name text c.in-Some-owner_of.owner c.in-Ok.row back kinds (sym c.in-Some.ensures.parts ∙ body)
    (ap (λ n. byte ∷ sized n) (sym same) ∙ c.in-Some-owner_of.ensures.bytes) (c.in-Some-owner_of.ensures.name ∙ same)
    c.in-Some.ensures.name c.in-Some.ensures.text c.in-Ok.ensures.row in
    λ i. record { row = both.1 i; owner = both.0 i }
