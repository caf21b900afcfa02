use Rattle.std.proofs.Common.{inl, inr, refl, []}
use Rattle.sqlite.specs.Held.{state}
use Rattle.item_store.specs.Table.{delete_text}
use Rattle.item_store.specs.Stands.{Earlier}
use Rattle.item_store.specs.Items.{params_of}
use Rattle.item_store.proofs.States.{clear_within, on_err, execute_stops, within_stops}
use Rattle.std.proofs.lemmas.Result.{err_from_is_err_and}
use Rattle.item_store.proofs.Leaving.{clear_commits, clear_live, err_leaves, ok_leaves}
use Rattle.item_store.proofs.States.{ran_open}
use Rattle.item_store.proofs.changes.clear.Goals as goal

pub returns-in_err-run_clear-clause-err : goal.returns-in_err-run_clear-clause-err
returns-in_err-run_clear-clause-err g c base m h =
    let old = state g.S.Store c.args.conn.now in
    let new = state g.S.Store c.run_clear.new.conn in
    let earlier : Earlier old new = c.run_clear.ensures.honest in
    on_err c.from_residual.result (within_stops old new base m earlier (λ clean. execute_stops delete_text (params_of c.args.area c.args.from.now c.args.to.now []) old new _ (c.in_err-run_clear.ensures.runs clean)) h)

pub returns-clause-ok : goal.returns-clause-ok
returns-clause-ok g c base m h =
    let old = state g.S.Store c.args.conn.now in
    let new = state g.S.Store c.run_clear.new.conn in
    let earlier : Earlier old new = c.run_clear.ensures.honest in
    clear_within old new earlier _ base m c.args.area c.args.from.now c.args.to.now c.in_ok-run_clear.ensures.runs h

pub returns-clause-asks : goal.returns-clause-asks
returns-clause-asks g c clean = (delete_text, inr (inr (inr (inl refl))), params_of c.args.area c.args.from.now c.args.to.now [], inl (_, c.in_ok-run_clear.ensures.runs clean))

pub returns-in_err-run_clear-clause-left : goal.returns-in_err-run_clear-clause-left
returns-in_err-run_clear-clause-left g c base m h =
    let old = state g.S.Store c.args.conn.now in
    let new = state g.S.Store c.run_clear.new.conn in
    let params = params_of c.args.area c.args.from.now c.args.to.now [] in
    let p = err_from_is_err_and c.from_residual.result c.from_residual.ensures.1 in
    err_leaves delete_text params old new (λ _. ⊥) c.run_clear.ensures.survives (clear_commits old new c.run_clear.ensures.honest base m h c.args.area c.args.from.now c.args.to.now)
    c.from_residual.result _ p.0 p.1 c.in_err-run_clear.ensures.runs

pub returns-clause-left : goal.returns-clause-left
returns-clause-left g c base m h =
    let old = state g.S.Store c.args.conn.now in
    let new = state g.S.Store c.run_clear.new.conn in
    let params = params_of c.args.area c.args.from.now c.args.to.now [] in
    ok_leaves delete_text params old new (λ _. ⊥) c.run_clear.ensures.survives (clear_commits old new c.run_clear.ensures.honest base m h c.args.area c.args.from.now c.args.to.now)
    tt (clear_live old new c.run_clear.ensures.honest base m h _ c.args.area c.args.from.now c.args.to.now c.in_ok-run_clear.ensures.runs)

pub returns-in_err-run_clear-clause-was_open : goal.returns-in_err-run_clear-clause-was_open
returns-in_err-run_clear-clause-was_open g c clean live = ran_open delete_text _ (state g.S.Store c.args.conn.now) (state g.S.Store c.run_clear.new.conn) _ (c.in_err-run_clear.ensures.runs clean) live

pub returns-clause-was_open : goal.returns-clause-was_open
returns-clause-was_open g c clean live = ran_open delete_text _ (state g.S.Store c.args.conn.now) (state g.S.Store c.run_clear.new.conn) _ (c.in_ok-run_clear.ensures.runs clean) live
