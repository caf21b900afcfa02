use Rattle.store_laws.proofs.stored.reopen_copy.Goals as goal

pub returns : goal.returns
returns g c sure copy tells clean =
    let kept = c.connection_of_copy.ensures sure copy tells in
    let here = rw c.copy_over.ensures.connection at clean in
    c.copy_over.ensures.tells (here, c.in_ok-connection.ensures.is_open here) copy (record { items = kept.items; stands = c.in_ok-connection.ensures.same kept.items kept.stands; kept = kept.kept })
