use Rattle.keeper_sqlite.proofs.HubKeepingLemmas.{spans_stay, tables_of}
use Rattle.keeper_sqlite.proofs.hub.commit.edits_for.Goals as goal

pub returns-in-Some-clause-edits : goal.returns-in-Some-clause-edits
returns-in-Some-clause-edits g c t has can sure =
    let before = c.in_ok-oldest.ensures.trust sure in
    let state = c.in_ok-state.ensures.state t (tables_of (g.S.StoredItems.stands_for c.args.store.now) t has) before in
    let there = spans_stay (g.S.StoredItems.stands_for c.args.store.now) (g.S.StoredItems.stands_for c.state_of_store.new.store) t c.in_ok-state.ensures.same has in
    let oldest = c.in_ok-oldest.ensures.oldest t there state.1 sure in
    rw c.in-Some.is at (c.in_ok-edits.ensures.edits t has.are state.0 state.1 can oldest)

pub returns-in-Some-clause-fits : goal.returns-in-Some-clause-fits
returns-in-Some-clause-fits g c = rw c.in-Some.is at c.in_ok-edits.ensures.fits
