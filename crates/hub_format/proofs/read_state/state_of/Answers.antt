use Rattle.std.proofs.Common.{rules, ◌<◌, ◌^◌, ◌++◌, ◌∷◌, [], sym, ap, ◌∙◌}
use Rattle.hub_format.specs.Format.{state_entry}
use Rattle.hub_format.specs.Pieces.{moment, number}
use Rattle.hub_format.proofs.Decoding.{number_back}
use Rattle.hub_format.proofs.Stating.{moment_number}
use Rattle.hub_format.proofs.read_state.state_of.Goals as goal

pub returns-clause-found : goal.returns-clause-found
returns-clause-found c keep base fits_keep fits_base fits_at same =
    let small_keep : c.in_ok-keep.keep < 2 ^ 64 = search rules in
    let small_base : c.in_ok-keep.base < 2 ^ 64 = search rules in
    let small_at : c.in_ok-at.at < 2 ^ 64 = search rules in
    let body = c.in_ok-labelled_body.ensures.body (state_entry keep base) same in
    let rest = c.in_ok-keep.rest.now in
    let keeps = number_back c.in_ok-keep.keep keep (number c.in_ok-keep.base ++ rest) (number base.number ++ moment base.moment) small_keep fits_keep (sym c.in_ok-keep.ensures ∙ body) in
    let bases = number_back c.in_ok-keep.base base.number rest (moment base.moment) small_base fits_base keeps.1 in
    let ats = moment_number c.in_ok-at.at base.moment [] [] small_at fits_at (sym c.in_ok-at.ensures ∙ bases.1) in
    (keeps.0, bases.0, c.in_ok-moment_of.ensures.found base.moment fits_at ats.0)

pub returns-clause-whole : goal.returns-clause-whole
returns-clause-whole c =
    let there = c.in_ok-labelled_body.ensures.label in
    let rest = c.in_ok-at.ensures ∙ ap number (sym c.in_ok-moment_of.ensures.bits) in
    let body = c.in_ok-keep.ensures ∙ (λ i. number c.in_ok-keep.keep ++ (number c.in_ok-keep.base ++ rest i)) in
    (there.0, there.1, there.2 ∙ (λ i. (there.0, body i) ∷ []))
