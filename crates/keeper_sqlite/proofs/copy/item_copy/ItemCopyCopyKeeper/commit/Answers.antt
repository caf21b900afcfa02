use Rattle.std.proofs.Common.{refl}
use Rattle.std.proofs.lemmas.Result.{on_ok_weaker}
use Rattle.keeper_memory.specs.copy.Changes.{CanChange, copy_after}
use Rattle.keeper_sqlite.proofs.TellingLemmas.{still_keep, told_back}
use Rattle.keeper_sqlite.specs.copy.Keeping.{KeepOrNew}
use Rattle.keeper_sqlite.proofs.CopyKeepingLemmas.{copy_came, counts_later, keeps_or_new, one_copy}
use Rattle.keeper_sqlite.proofs.copy.item_copy.ItemCopyCopyKeeper.commit.Goals as goal

pub invariant_of-self : goal.invariant_of-self
invariant_of-self g c =
    let s = g.S.StoredItems in
    let old = c.self.inside in
    let change = c.args.change in
    still_keep KeepOrNew (s.stands_for old.origin.value) (s.stands_for old.store) (s.stands_for c.commit_to.new.store) (s.may_hold old.store) (s.is_trusted old.store) (CanChange change) (copy_after change)
    c.self.invariant (g.met.S.StoredItems.holds old.store) (rw (← c.self.view_is) at c.requires) c.commit_to.result (s.is_trusted c.commit_to.new.store) c.commit_to.ensures.trust
    (λ copy this can sure. on_ok_weaker c.commit_to.result (keeps_or_new (s.stands_for c.commit_to.new.store) (copy_after change copy)) (c.commit_to.ensures.ok copy this can sure)) c.commit_to.ensures.err

pub returns-clause-told : goal.returns-clause-told
returns-clause-told g c =
    let s = g.S.StoredItems in
    let old = c.self.inside in
    let change = c.args.change in
    rw (← c.self.view_is) (λ now tells.
    let back = told_back KeepOrNew (s.stands_for old.origin.value) (s.stands_for old.store) (s.stands_for c.commit_to.new.store) (s.may_hold old.store) (s.is_trusted old.store) (CanChange change) (copy_after change)
    c.self.invariant (g.met.S.StoredItems.holds old.store) (rw (← c.self.view_is) at c.requires) c.commit_to.result one_copy (s.may_hold c.commit_to.new.store) c.commit_to.ensures.made now tells in
    (back.0, back.1, copy_came change c.commit_to.result back.0 now back.2))

pub returns-clause-leads : goal.returns-clause-leads
returns-clause-leads g c = rw (← c.self.view_is) (refl, c.commit_to.ensures.signs)

pub returns-clause-later : goal.returns-clause-later
returns-clause-later g c =
    let s = g.S.StoredItems in
    rw (← c.self.view_is) (counts_later (s.fault_count c.self.inside.store) (s.fault_count c.commit_to.new.store) c.commit_to.result c.bounded.ensures c.commit_to.ensures.cause)
