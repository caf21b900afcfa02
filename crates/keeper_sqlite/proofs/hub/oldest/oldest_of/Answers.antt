use Rattle.span_format.specs.Format.{items_in}
use Rattle.keeper_sqlite.proofs.HubKeepingLemmas.{oldest_told}
use Rattle.keeper_sqlite.proofs.hub.oldest.oldest_of.Goals as goal

pub returns-clause-oldest : goal.returns-clause-oldest
returns-clause-oldest g c t has bases sure =
    let two = c.in_ok-names.ensures.trust sure in
    let one = c.in_ok-version.ensures.trust two in
    let m = items_in has.base t in
    let first = c.in_ok-grants.ensures.same m has.stands in
    let second = c.in_ok-version.ensures.same m first in
    oldest_told has.base t has.are has.fit c.args.base c.in_ok-grants.grants.items c.in_ok-version.version.items c.in_ok-names.names.items bases
    (c.in_ok-grants.ensures.items m has.stands one) (c.in_ok-version.ensures.items m first two) (c.in_ok-names.ensures.items m second sure)
