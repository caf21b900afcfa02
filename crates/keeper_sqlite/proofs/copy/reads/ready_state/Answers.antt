use Rattle.keeper_sqlite.proofs.CopyKeepingLemmas.{copy_of, copy_stays}
use Rattle.keeper_sqlite.proofs.copy.reads.ready_state.Goals as goal

pub returns-clause-shown : goal.returns-clause-shown
returns-clause-shown g c copy this sure =
    let stand = g.S.StoredItems.stands_for in
    let side = this.kept.side in
    let has = copy_of (stand c.args.store.now) copy this in
    let root = c.in_ok-root.ensures.root side copy has (c.in_ok-held_token.ensures.trust (c.in_ok-stage.ensures.trust sure)) in
    let there = copy_stays (stand c.args.store.now) (stand c.stored_root.new.store) side copy c.in_ok-root.ensures.same has in
    let token = c.in_ok-held_token.ensures.token side copy there (c.in_ok-stage.ensures.trust sure) in
    let stage = c.in_ok-stage.ensures.stage side copy (copy_stays (stand c.stored_root.new.store) (stand c.stored_token.new.store) side copy c.in_ok-held_token.ensures.same there) sure in
    λ i. record { run = (root i).run; held = (root i).held; held_token = token i; stage = stage i; last_number = (root i).last_number }
