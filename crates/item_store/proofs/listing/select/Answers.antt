use Rattle.item_store.proofs.Asking.{asks_select}
use Rattle.sqlite.specs.Held.{state}
use Rattle.item_store.proofs.States.{select_rows, select_same}
use Rattle.item_store.proofs.Leaving.{select_leaves, select_open}
use Rattle.item_store.proofs.Lasting.{shown_live}
use Rattle.item_store.proofs.listing.select.Goals as goal

pub returns-clause-rows : goal.returns-clause-rows
returns-clause-rows g c m h =
    let old = state g.S.Store c.args.conn.now in
    let new = state g.S.Store c.run_select.new.conn in
    select_rows old new c.run_select.ensures.honest m c.args.area c.args.from.now c.args.to.now c.args.limit c.run_select.result c.run_select.ensures.ok h

pub returns-clause-same : goal.returns-clause-same
returns-clause-same g c m h =
    let old = state g.S.Store c.args.conn.now in
    let new = state g.S.Store c.run_select.new.conn in
    select_same old new c.run_select.ensures.honest m c.args.area c.args.from.now c.args.to.now c.args.limit c.run_select.result c.run_select.ensures.ok c.run_select.ensures.err h

pub returns-clause-asks : goal.returns-clause-asks
returns-clause-asks g c clean =
    asks_select c.args.area c.args.from.now c.args.to.now c.args.limit (state g.S.Store c.args.conn.now) (state g.S.Store c.run_select.new.conn) c.run_select.result
    (c.run_select.ensures.ok clean) (c.run_select.ensures.err clean)

pub returns-clause-left : goal.returns-clause-left
returns-clause-left g c m h =
    select_leaves (state g.S.Store c.args.conn.now) (state g.S.Store c.run_select.new.conn) c.run_select.ensures.honest m c.args.area c.args.from.now c.args.to.now c.args.limit c.run_select.result
    c.run_select.ensures.ok c.run_select.ensures.err c.run_select.ensures.survives h

pub returns-clause-was_open : goal.returns-clause-was_open
returns-clause-was_open g c =
    select_open (state g.S.Store c.args.conn.now) (state g.S.Store c.run_select.new.conn) c.run_select.ensures.honest _ _ c.run_select.result c.run_select.ensures.ok c.run_select.ensures.err

pub returns-clause-live : goal.returns-clause-live
returns-clause-live g c clean = shown_live _ _ (state g.S.Store c.args.conn.now) (state g.S.Store c.run_select.new.conn) c.run_select.result (c.run_select.ensures.ok clean)
