use Rattle.std.proofs.Common.{inl, inr, refl, []}
use Rattle.sqlite.specs.Held.{state}
use Rattle.item_store.specs.Table.{begin_text}
use Rattle.item_store.proofs.States.{begin_within, on_err, execute_stops, stands_stops, ready_stands}
use Rattle.std.proofs.lemmas.Result.{err_from_is_err_and}
use Rattle.item_store.proofs.Leaving.{begin_commits, begin_live, err_leaves, ok_leaves}
use Rattle.item_store.proofs.States.{ran_open}
use Rattle.item_store.proofs.Lasting.{clean_before, lasts_by}
use Rattle.item_store.proofs.transaction.begin.Goals as goal

pub returns-in_err-execute-clause-err : goal.returns-in_err-execute-clause-err
returns-in_err-execute-clause-err g c m h =
    let old = state g.S.Store c.args.conn.now in
    let new = state g.S.Store c.execute.new.self in
    let earlier = clean_before c.execute.ensures.survives in
    on_err c.from_residual.result (stands_stops old new m earlier (λ clean. execute_stops _ _ old new _ (c.in_err-execute.ensures.runs clean)) (ready_stands old m h))

pub returns-clause-ok : goal.returns-clause-ok
returns-clause-ok g c m h =
    let old = state g.S.Store c.args.conn.now in
    let new = state g.S.Store c.execute.new.self in
    let earlier = clean_before c.execute.ensures.survives in
    begin_within old new earlier _ m c.in_ok-execute.ensures.runs h

pub returns-clause-asks : goal.returns-clause-asks
returns-clause-asks g c clean = (begin_text, inr (inl refl), [], inl (_, c.in_ok-execute.ensures.runs clean))

pub returns-in_err-execute-clause-left : goal.returns-in_err-execute-clause-left
returns-in_err-execute-clause-left g c m h =
    let old = state g.S.Store c.args.conn.now in
    let new = state g.S.Store c.execute.new.self in
    let earlier = clean_before c.execute.ensures.survives in
    let p = err_from_is_err_and c.from_residual.result c.from_residual.ensures.1 in
    err_leaves begin_text [] old new (λ _. ⊥) c.execute.ensures.survives (begin_commits old new earlier m h)
    c.from_residual.result _ p.0 p.1 c.in_err-execute.ensures.runs

pub returns-clause-left : goal.returns-clause-left
returns-clause-left g c m h =
    let old = state g.S.Store c.args.conn.now in
    let new = state g.S.Store c.execute.new.self in
    let earlier = clean_before c.execute.ensures.survives in
    ok_leaves begin_text [] old new (λ _. ⊥) c.execute.ensures.survives (begin_commits old new earlier m h)
    tt (begin_live old new earlier m h _ c.in_ok-execute.ensures.runs)

pub returns-in_err-execute-clause-was_open : goal.returns-in_err-execute-clause-was_open
returns-in_err-execute-clause-was_open g c clean live = ran_open begin_text [] (state g.S.Store c.args.conn.now) (state g.S.Store c.execute.new.self) _ (c.in_err-execute.ensures.runs clean) live

pub returns-clause-was_open : goal.returns-clause-was_open
returns-clause-was_open g c clean live = ran_open begin_text [] (state g.S.Store c.args.conn.now) (state g.S.Store c.execute.new.self) _ (c.in_ok-execute.ensures.runs clean) live

pub returns-in_err-execute-clause-lasts : goal.returns-in_err-execute-clause-lasts
returns-in_err-execute-clause-lasts g c = lasts_by (state g.S.Store c.args.conn.now) (state g.S.Store c.execute.new.self) _ c.execute.ensures.survives

pub returns-clause-lasts : goal.returns-clause-lasts
returns-clause-lasts g c = lasts_by (state g.S.Store c.args.conn.now) (state g.S.Store c.execute.new.self) _ c.execute.ensures.survives
