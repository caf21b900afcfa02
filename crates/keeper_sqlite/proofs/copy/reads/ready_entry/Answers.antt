use Rattle.keeper_sqlite.proofs.CopyKeepingLemmas.{copy_of, copy_stays}
use Rattle.keeper_sqlite.proofs.copy.reads.ready_entry.Goals as goal

pub returns-clause-shown : goal.returns-clause-shown
returns-clause-shown g c copy this sure =
    let stand = g.S.StoredItems.stands_for in
    let side = this.kept.side in
    let there = copy_stays (stand c.args.store.now) (stand c.stored_root.new.store) side copy c.in_ok-root.ensures.same (copy_of (stand c.args.store.now) copy this) in
    c.in_ok-entry.ensures.entry side copy there sure
