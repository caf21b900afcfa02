use Rattle.std.proofs.Common.{rules, ◌<◌, ◌^◌, ◌∙◌, sym, subst}
use Rattle.grant_scopes.specs.declared.schools.Schools.TheVariants as schools
use Rattle.hub_format.specs.Pieces.{AreSized}
use Rattle.hub_format.proofs.GrantReading.{listed_parts}
use Rattle.hub_format.proofs.read_grants.listed_at.Goals as goal

pub returns-in-Some-of_rising-clause-schools : goal.returns-in-Some-of_rising-clause-schools
returns-in-Some-of_rising-clause-schools c =
    let ids = c.in-Some-2.ids.items in
    listed_parts c.args.bytes.now c.in-Some.rest.now c.in-Some-2.rest.now c.in-Some.count ids c.in-Some-of_rising.list c.in-Some.ensures (rw c.in-Some-2.is at c.in_ok-ids.ensures.ids)
    (rw c.in-Some-2.is at c.in_ok-ids.ensures.count) (c.in-Some-of_rising.ensures.some ∙ c.from_vec.ensures)

pub returns-in-Some-of_rising-clause-small : goal.returns-in-Some-of_rising-clause-small
returns-in-Some-of_rising-clause-small c =
    let count : c.in-Some.count < 2 ^ 64 = search rules in
    let long = rw c.in-Some-2.is at c.in_ok-ids.ensures.count in
    subst (λ ids. AreSized (schools.Listed ids)) (sym (c.in-Some-of_rising.ensures.some ∙ c.from_vec.ensures)) (subst (λ n. n < 2 ^ 64) (sym long) count, rw c.in-Some-2.is at c.in_ok-ids.ensures.small)
