use Rattle.hub_format.proofs.writing.put_mark.Goals as goal

pub returns-clause-fits : goal.returns-clause-fits
returns-clause-fits c =
    let label = c.in_ok-mark_label.ensures in
    let body = c.in_ok-mark_body.ensures in
    record { caller = label.good; below = label.below; number = label.small; id = body.id; body = body.text; version = body.version }
