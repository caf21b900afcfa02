use Rattle.std.proofs.Common.{ap, sym, subst}
use Rattle.copy_format.specs.declared.root.CopyRoot.{CopyRoot}
use Rattle.keeper_sqlite.specs.copy.Keeping.{HasCopy}
use Rattle.keeper_sqlite.proofs.CopyKeepingLemmas.{copy_of, copy_stays}
use Rattle.keeper_sqlite.proofs.copy.reads.ready_rows.Goals as goal

pub returns-clause-shown : goal.returns-clause-shown
returns-clause-shown g c copy this sure =
    let stand = g.S.StoredItems.stands_for in
    let side = this.kept.side in
    let has = copy_of (stand c.args.store.now) copy this in
    let root = c.in_ok-root.ensures.root side copy has (c.in_ok-rows.ensures.trust sure) in
    let there = copy_stays (stand c.args.store.now) (stand c.stored_root.new.store) side copy c.in_ok-root.ensures.same has in
    c.in_ok-rows.ensures.rows copy (subst (λ s. HasCopy (stand c.stored_root.new.store) s copy) (sym (ap (λ (r : CopyRoot). r.side) root)) there) sure
