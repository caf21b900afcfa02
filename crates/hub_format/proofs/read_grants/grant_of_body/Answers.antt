use Rattle.std.proofs.Common.{◌∷◌, ◌++◌, ap, ◌∙◌}
use Rattle.hub_format.specs.Pieces.{schools_bytes, sized}
use Rattle.hub_format.proofs.read_grants.grant_of_body.Goals as goal

pub returns-in-Some-only_number-clause-grant : goal.returns-in-Some-only_number-clause-grant
returns-in-Some-only_number-clause-grant c =
    let token = c.in-Some.token in
    let scopes = c.in-Some.scopes in
    let schools = c.in-Some-2.schools in
    (rw c.in-Some.is at c.in_ok-token.ensures.parts)
    ∙ ap (λ bytes. sized token ++ (scopes ∷ bytes)) ((rw c.in-Some-2.is at c.in_ok-schools.ensures.schools) ∙ ap (λ bytes. schools_bytes schools ++ bytes) c.in-Some-only_number.ensures)
