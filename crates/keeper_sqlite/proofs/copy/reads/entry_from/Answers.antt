use Rattle.keeper_sqlite.specs.copy.Keeping.{KeepEither, KeepOrNew}
use Rattle.keeper_sqlite.proofs.HubKeepingLemmas.{keeps_on, on_each}
use Rattle.keeper_sqlite.proofs.CopyKeepingLemmas.{read_kept, read_ready, read_whole, some_keeps}
use Rattle.keeper_sqlite.proofs.copy.reads.entry_from.Goals as goal

pub returns-clause-shown : goal.returns-clause-shown
returns-clause-shown g c copy this sure = c.ready_entry.ensures.shown copy (c.in_ok-prepare.ensures.ok copy this (c.ready_entry.ensures.trust sure)) sure

pub returns-clause-kept : goal.returns-clause-kept
returns-clause-kept g c copy this sure =
    let s = g.S.StoredItems.stands_for in
    let ready = c.in_ok-prepare.ensures.ok copy this (c.ready_entry.ensures.trust sure) in
    read_kept (s c.prepare.new.store) (s c.ready_entry.new.store) copy ready c.ready_entry.ensures.same

pub returns-in_err-prepare-clause-kept : goal.returns-in_err-prepare-clause-kept
returns-in_err-prepare-clause-kept g c copy this sure =
    keeps_on KeepOrNew (g.S.StoredItems.stands_for c.args.store.now) (g.S.StoredItems.stands_for c.prepare.new.store) copy this (c.in_err-prepare.ensures.err this.items this.stands)

pub returns-in_err-prepare-clause-made : goal.returns-in_err-prepare-clause-made
returns-in_err-prepare-clause-made g c = c.in_err-prepare.ensures.made

pub returns-clause-made : goal.returns-clause-made
returns-clause-made g c n held = c.in_ok-prepare.ensures.made n (c.ready_entry.ensures.held n held)

pub returns-clause-turned : goal.returns-clause-turned
returns-clause-turned g c copy this sure =
    let s = g.S.StoredItems.stands_for in
    let ready = c.in_ok-prepare.ensures.ok copy this (c.ready_entry.ensures.trust sure) in
    on_each c.ready_entry.result (read_ready (s c.prepare.new.store) (s c.ready_entry.new.store) copy ready c.ready_entry.ensures.same)

pub returns-clause-whole : goal.returns-clause-whole
returns-clause-whole g c copy this sure =
    let s = g.S.StoredItems.stands_for in
    let ready = c.in_ok-prepare.ensures.ok copy (some_keeps (s c.args.store.now) copy this) (c.ready_entry.ensures.trust sure) in
    read_whole (s c.prepare.new.store) (s c.ready_entry.new.store) copy ready c.ready_entry.ensures.same

pub returns-in_err-prepare-clause-whole : goal.returns-in_err-prepare-clause-whole
returns-in_err-prepare-clause-whole g c copy this sure =
    keeps_on KeepEither (g.S.StoredItems.stands_for c.args.store.now) (g.S.StoredItems.stands_for c.prepare.new.store) copy this (c.in_err-prepare.ensures.err this.items this.stands)
