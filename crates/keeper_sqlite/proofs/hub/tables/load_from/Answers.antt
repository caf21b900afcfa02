use Rattle.span_format.specs.Format.{KeepSpans}
use Rattle.keeper_sqlite.specs.hub.Keeping.{KeepEither, KeepOrNew}
use Rattle.keeper_sqlite.proofs.HubKeepingLemmas.{keeps_either, keeps_on, keeps_or_new, on_each, some_keeps}
use Rattle.keeper_sqlite.proofs.hub.tables.load_from.Goals as goal

pub returns-clause-shown : goal.returns-clause-shown
returns-clause-shown g c state this sure = c.load_ready.ensures.shown state (c.in_ok-prepare.ensures.ok state this (c.load_ready.ensures.trust sure)) sure

pub returns-clause-kept : goal.returns-clause-kept
returns-clause-kept g c state this sure =
    let s = g.S.StoredItems.stands_for in
    let ready = c.in_ok-prepare.ensures.ok state this (c.load_ready.ensures.trust sure) in
    keeps_or_new c.args.keep (s c.load_ready.new.store) state (keeps_on KeepSpans (s c.prepare.new.store) (s c.load_ready.new.store) state ready (c.load_ready.ensures.same ready.items ready.stands))

pub returns-in_err-prepare-clause-kept : goal.returns-in_err-prepare-clause-kept
returns-in_err-prepare-clause-kept g c state this sure =
    keeps_on (KeepOrNew c.args.keep) (g.S.StoredItems.stands_for c.args.store.now) (g.S.StoredItems.stands_for c.prepare.new.store) state this (c.in_err-prepare.ensures.err this.items this.stands)

pub returns-clause-turned : goal.returns-clause-turned
returns-clause-turned g c state this sure =
    let s = g.S.StoredItems.stands_for in
    let ready = c.in_ok-prepare.ensures.ok state this (c.load_ready.ensures.trust sure) in
    on_each c.load_ready.result (keeps_on KeepSpans (s c.prepare.new.store) (s c.load_ready.new.store) state ready (c.load_ready.ensures.same ready.items ready.stands))

pub returns-clause-whole : goal.returns-clause-whole
returns-clause-whole g c state this sure =
    let s = g.S.StoredItems.stands_for in
    let ready = c.in_ok-prepare.ensures.ok state (some_keeps c.args.keep (s c.args.store.now) state this) (c.load_ready.ensures.trust sure) in
    keeps_either (s c.load_ready.new.store) state (keeps_on KeepSpans (s c.prepare.new.store) (s c.load_ready.new.store) state ready (c.load_ready.ensures.same ready.items ready.stands))

pub returns-in_err-prepare-clause-whole : goal.returns-in_err-prepare-clause-whole
returns-in_err-prepare-clause-whole g c state this sure =
    keeps_on KeepEither (g.S.StoredItems.stands_for c.args.store.now) (g.S.StoredItems.stands_for c.prepare.new.store) state this (c.in_err-prepare.ensures.err this.items this.stands)

pub returns-in_err-prepare-clause-made : goal.returns-in_err-prepare-clause-made
returns-in_err-prepare-clause-made g c = c.in_err-prepare.ensures.made

pub returns-clause-made : goal.returns-clause-made
returns-clause-made g c n held = c.in_ok-prepare.ensures.made n (c.load_ready.ensures.held n held)
