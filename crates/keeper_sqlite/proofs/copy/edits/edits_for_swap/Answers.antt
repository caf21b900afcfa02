use Rattle.keeper_sqlite.proofs.EntryLemmas.{some_stage}
use Rattle.keeper_sqlite.proofs.CopyKeepingLemmas.{copy_stays}
use Rattle.keeper_sqlite.proofs.copy.edits.edits_for_swap.Goals as goal

pub returns-in_ok-swap_edits-in-Some-clause-edits : goal.returns-in_ok-swap_edits-in-Some-clause-edits
returns-in_ok-swap_edits-in-Some-clause-edits g c side copy has sure =
    let stand = g.S.StoredItems.stands_for in
    let root = c.in_ok-root.ensures.root side copy has (c.in_ok-stage.ensures.trust sure) in
    let there = copy_stays (stand c.args.store.now) (stand c.stored_root.new.store) side copy c.in_ok-root.ensures.same has in
    let st = some_stage copy.stage c.in-Some.stage (rw c.in-Some.is at (c.in_ok-stage.ensures.stage side copy there sure)) in
    (c.in_ok-swap_edits-in-Some.ensures side copy st.0 root st.1 st.2, tt)
