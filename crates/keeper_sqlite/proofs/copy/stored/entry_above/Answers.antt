use Rattle.keeper_sqlite.proofs.EntryLemmas.{no_item, one_item}
use Rattle.keeper_sqlite.proofs.copy.stored.entry_above.Goals as goal

pub returns-in_default-clause-entry : goal.returns-in_default-clause-entry
returns-in_default-clause-entry g c side copy has sure =
    no_item (g.S.StoredItems.stands_for c.args.store.now) side copy has c.args.after c.requires c.in_ok-item.field-0 (c.in_ok-item.ensures.item has.items has.stands sure) c.in_default.is

pub returns-in-Some-2-clause-entry : goal.returns-in-Some-2-clause-entry
returns-in-Some-2-clause-entry g c side copy has sure =
    one_item (g.S.StoredItems.stands_for c.args.store.now) side copy has c.args.after c.requires c.in_ok-item.field-0 (c.in_ok-item.ensures.item has.items has.stands sure) c.in-Some.item c.in-Some-2.entry c.in-Some.is
    (λ entry is above same. rw c.in-Some-2.is at (c.in_ok-entry.ensures.found entry is above same))
