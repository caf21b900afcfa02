use Rattle.hub_format.proofs.writing.put_grant.Goals as goal

pub returns-clause-fits : goal.returns-clause-fits
returns-clause-fits c =
    let body = c.in_ok-grant_body.ensures in
    record { caller = c.in_ok-grant_label.ensures.good; token = body.token; schools = body.schools; since = body.since }
