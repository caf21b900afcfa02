use Rattle.std.proofs.Common.{inl, inr, refl}
use Rattle.sqlite.specs.Held.{state}
use Rattle.item_store.specs.Table.{upsert_text}
use Rattle.item_store.specs.Stands.{Earlier}
use Rattle.item_store.specs.Items.{put_params}
use Rattle.item_store.proofs.States.{put_within, on_err, execute_stops, within_stops}
use Rattle.std.proofs.lemmas.Result.{err_from_is_err_and}
use Rattle.item_store.proofs.Leaving.{put_commits, put_live, err_leaves, ok_leaves}
use Rattle.item_store.proofs.States.{ran_open}
use Rattle.item_store.proofs.changes.put.Goals as goal

pub returns-in_err-run_put-clause-err : goal.returns-in_err-run_put-clause-err
returns-in_err-run_put-clause-err g c base m h =
    let old = state g.S.Store c.args.conn.now in
    let new = state g.S.Store c.run_put.new.conn in
    let earlier : Earlier old new = c.run_put.ensures.honest in
    on_err c.from_residual.result (within_stops old new base m earlier (λ clean. execute_stops upsert_text (put_params c.args.area c.args.label.now c.args.body.now) old new _ (c.in_err-run_put.ensures.runs clean)) h)

pub returns-clause-ok : goal.returns-clause-ok
returns-clause-ok g c base m h =
    let old = state g.S.Store c.args.conn.now in
    let new = state g.S.Store c.run_put.new.conn in
    let earlier : Earlier old new = c.run_put.ensures.honest in
    put_within old new earlier _ base m c.args.area c.args.label.now c.args.body.now c.in_ok-run_put.ensures.runs h

pub returns-clause-asks : goal.returns-clause-asks
returns-clause-asks g c clean = (upsert_text, inr (inr (inl refl)), put_params c.args.area c.args.label.now c.args.body.now, inl (_, c.in_ok-run_put.ensures.runs clean))

pub returns-in_err-run_put-clause-left : goal.returns-in_err-run_put-clause-left
returns-in_err-run_put-clause-left g c base m h =
    let old = state g.S.Store c.args.conn.now in
    let new = state g.S.Store c.run_put.new.conn in
    let params = put_params c.args.area c.args.label.now c.args.body.now in
    let p = err_from_is_err_and c.from_residual.result c.from_residual.ensures.1 in
    err_leaves upsert_text params old new (λ _. ⊥) c.run_put.ensures.survives (put_commits old new c.run_put.ensures.honest base m h c.args.area c.args.label.now c.args.body.now)
    c.from_residual.result _ p.0 p.1 c.in_err-run_put.ensures.runs

pub returns-clause-left : goal.returns-clause-left
returns-clause-left g c base m h =
    let old = state g.S.Store c.args.conn.now in
    let new = state g.S.Store c.run_put.new.conn in
    let params = put_params c.args.area c.args.label.now c.args.body.now in
    ok_leaves upsert_text params old new (λ _. ⊥) c.run_put.ensures.survives (put_commits old new c.run_put.ensures.honest base m h c.args.area c.args.label.now c.args.body.now)
    tt (put_live old new c.run_put.ensures.honest base m h _ c.args.area c.args.label.now c.args.body.now c.in_ok-run_put.ensures.runs)

pub returns-in_err-run_put-clause-was_open : goal.returns-in_err-run_put-clause-was_open
returns-in_err-run_put-clause-was_open g c clean live = ran_open upsert_text _ (state g.S.Store c.args.conn.now) (state g.S.Store c.run_put.new.conn) _ (c.in_err-run_put.ensures.runs clean) live

pub returns-clause-was_open : goal.returns-clause-was_open
returns-clause-was_open g c clean live = ran_open upsert_text _ (state g.S.Store c.args.conn.now) (state g.S.Store c.run_put.new.conn) _ (c.in_ok-run_put.ensures.runs clean) live
