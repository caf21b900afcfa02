use Rattle.std.proofs.Common.{ap, ◌∙◌}
use Rattle.copy_format.specs.declared.root.CopyRoot.{CopyRoot}
use Rattle.copy_format.specs.Edits.{edits}
use Rattle.keeper_memory.specs.declared.copy.change.CopyChange.TheVariants.{Page}
use Rattle.keeper_sqlite.proofs.EntryLemmas.{some_stage}
use Rattle.keeper_sqlite.proofs.CopyKeepingLemmas.{copy_stays}
use Rattle.keeper_sqlite.proofs.copy.edits.edits_for_page.Goals as goal

pub returns-in-Some-2-clause-edits : goal.returns-in-Some-2-clause-edits
returns-in-Some-2-clause-edits g c side copy has sure =
    let stand = g.S.StoredItems.stands_for in
    let root = c.in_ok-root.ensures.root side copy has (c.in_ok-stage.ensures.trust sure) in
    let there = copy_stays (stand c.args.store.now) (stand c.stored_root.new.store) side copy c.in_ok-root.ensures.same has in
    let st = some_stage copy.stage c.in-Some.stage (rw c.in-Some.is at (c.in_ok-stage.ensures.stage side copy there sure)) in
    let made = rw c.in-Some-2.is at (c.in_ok-edits.ensures.edits copy st.0 st.1 st.2) in
    (made ∙ ap (λ (r : CopyRoot). edits r.side copy (Page c.args.kind c.args.rows c.args.total c.args.done)) root, rw c.in-Some-2.is at (c.in_ok-edits.ensures.fits copy st.0 st.1 st.2))
