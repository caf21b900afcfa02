use Rattle.std.proofs.Common.{ap, sym, ◌∙◌}
use Rattle.hub_format.specs.Format.{some_grants}
use Rattle.keeper_sqlite.proofs.hub.load.change_of.Goals as goal

pub returns-clause-change : goal.returns-clause-change
returns-clause-change g c m change stands fits versions is rows_told grants_told sure =
    let parts = c.in-Some.ensures.found change fits.moment is in
    let before = c.in_ok-grants.ensures.trust sure in
    let rows = c.in_ok-rows.ensures.rows m change stands fits.rows versions rows_told before in
    let grants = c.in_ok-grants.ensures.grants m change.grants (c.in_ok-rows.ensures.same m stands) fits.grants parts.1 (grants_told ∙ ap (λ v. some_grants v change.grants) (sym versions)) sure in
    λ i. record { version = versions i; moment = parts.0 i; rows = rows i; grants = grants i }
