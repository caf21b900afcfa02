use Rattle.std.proofs.Common.{rules, ◌≡◌, ◌<◌, ◌^◌, ◌∷◌, ◌++◌, [], sym, ap, ◌∙◌}
use Rattle.hub_format.specs.Format.{version_entry}
use Rattle.hub_format.specs.Pieces.{has_grants, number}
use Rattle.hub_format.proofs.Stating.{moment_number}
use Rattle.hub_format.proofs.read_state.version_of.Goals as goal

pub returns-clause-found : goal.returns-clause-found
returns-clause-found c change fits_at same =
    let small_at : c.in_ok-at.at < 2 ^ 64 = search rules in
    let body = c.in_ok-labelled_body.ensures.body (version_entry change) same in
    let ats = moment_number c.in_ok-at.at change.moment c.in_ok-at.rest.now (has_grants change.grants ∷ []) small_at fits_at (sym c.in_ok-at.ensures ∙ body) in
    let bytes : c.in_ok-flag.flag ∷ [] ≡ has_grants change.grants ∷ [] = sym c.in_ok-flag.ensures.byte ∙ ats.1 in
    let flags : c.in_ok-flag.flag ≡ has_grants change.grants = cc bytes in
    (c.in_ok-moment_of.ensures.found change.moment fits_at ats.0, flags)

pub returns-clause-whole : goal.returns-clause-whole
returns-clause-whole c =
    let there = c.in_ok-labelled_body.ensures.label in
    let at = ap number (sym c.in_ok-moment_of.ensures.bits) in
    let body = c.in_ok-at.ensures ∙ (λ i. at i ++ c.in_ok-flag.ensures.byte i) in
    (there.0, there.1, there.2 ∙ (λ i. (there.0, body i) ∷ []))
