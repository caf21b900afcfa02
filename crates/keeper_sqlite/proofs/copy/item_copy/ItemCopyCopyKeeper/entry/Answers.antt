use Rattle.std.proofs.Common.{◌≡◌, refl}
use Rattle.keeper_memory.specs.copy.Copies.{entry_after}
use Rattle.keeper_sqlite.proofs.ReadLemmas.{each_shown, still_kept, told_before}
use Rattle.keeper_sqlite.proofs.CopyKeepingLemmas.{counts_later, one_copy}
use Rattle.keeper_sqlite.proofs.copy.item_copy.ItemCopyCopyKeeper.entry.Goals as goal

pub invariant_of-self : goal.invariant_of-self
invariant_of-self g c = still_kept c.self.invariant c.entry_from.ensures.trust c.entry_from.ensures.kept

pub returns-clause-same : goal.returns-clause-same
returns-clause-same g c =
    let s = g.S.StoredItems in
    let old = c.self.inside in
    rw (← c.self.view_is) (told_before c.self.invariant (s.may_hold old.store) (s.may_hold c.entry_from.new.store) one_copy (g.met.S.StoredItems.holds old.store) c.entry_from.ensures.made)

pub returns-clause-shown : goal.returns-clause-shown
returns-clause-shown g c =
    let s = g.S.StoredItems in
    each_shown c.self.invariant c.entry_from.ensures.trust c.entry_from.ensures.kept (s.may_hold c.entry_from.new.store) one_copy (g.met.S.StoredItems.alone c.entry_from.new.store) (λ copy entry. entry ≡ entry_after c.args.after copy.entries) c.entry_from.result
    (λ n held. c.entry_from.ensures.live (g.met.S.StoredItems.clean c.entry_from.new.store n held)) c.entry_from.ensures.shown

pub returns-clause-leads : goal.returns-clause-leads
returns-clause-leads g c = rw (← c.self.view_is) (refl, c.entry_from.ensures.signs)

pub returns-clause-later : goal.returns-clause-later
returns-clause-later g c =
    let s = g.S.StoredItems in
    rw (← c.self.view_is) (counts_later (s.fault_count c.self.inside.store) (s.fault_count c.entry_from.new.store) c.entry_from.result c.bounded.ensures c.entry_from.ensures.cause)

pub returns-clause-whole : goal.returns-clause-whole
returns-clause-whole g c = rw (← c.self.view_is) c.entry_from.ensures.whole
