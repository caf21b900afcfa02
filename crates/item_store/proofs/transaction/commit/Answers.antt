use Rattle.std.proofs.Common.{inl, inr, refl, []}
use Rattle.sqlite.specs.Held.{state}
use Rattle.item_store.specs.Table.{commit_text}
use Rattle.item_store.proofs.States.{commit_stands, on_err, execute_stops, within_stops}
use Rattle.std.proofs.lemmas.Result.{err_from_is_err_and}
use Rattle.item_store.specs.Left.{IsLeft}
use Rattle.item_store.proofs.Leaving.{commit_commits, commit_live, err_leaves, ok_leaves}
use Rattle.item_store.proofs.States.{ran_open}
use Rattle.item_store.proofs.Lasting.{clean_before, commit_ran, lasts_by}
use Rattle.item_store.proofs.transaction.commit.Goals as goal

pub returns-in_err-execute-clause-err : goal.returns-in_err-execute-clause-err
returns-in_err-execute-clause-err g c base m h =
    let old = state g.S.Store c.args.conn.now in
    let new = state g.S.Store c.execute.new.self in
    let earlier = clean_before c.execute.ensures.survives in
    on_err c.from_residual.result (within_stops old new base m earlier (λ clean. execute_stops _ _ old new _ (c.in_err-execute.ensures.runs clean)) h)

pub returns-clause-ok : goal.returns-clause-ok
returns-clause-ok g c base m h =
    let old = state g.S.Store c.args.conn.now in
    let new = state g.S.Store c.execute.new.self in
    let earlier = clean_before c.execute.ensures.survives in
    commit_stands old new earlier _ base m c.in_ok-execute.ensures.runs h

pub returns-clause-asks : goal.returns-clause-asks
returns-clause-asks g c clean = (commit_text, inr (inr (inr (inr (inl refl)))), [], inl (_, c.in_ok-execute.ensures.runs clean))

pub returns-in_err-execute-clause-left : goal.returns-in_err-execute-clause-left
returns-in_err-execute-clause-left g c base m h =
    let old = state g.S.Store c.args.conn.now in
    let new = state g.S.Store c.execute.new.self in
    let earlier = clean_before c.execute.ensures.survives in
    let p = err_from_is_err_and c.from_residual.result c.from_residual.ensures.1 in
    err_leaves commit_text [] old new (λ db. IsLeft db m) c.execute.ensures.survives (commit_commits old new earlier base m h c.schema.ensures.live)
    c.from_residual.result _ p.0 p.1 c.in_err-execute.ensures.runs

pub returns-clause-left : goal.returns-clause-left
returns-clause-left g c base m h =
    let old = state g.S.Store c.args.conn.now in
    let new = state g.S.Store c.execute.new.self in
    let earlier = clean_before c.execute.ensures.survives in
    ok_leaves commit_text [] old new (λ db. IsLeft db m) c.execute.ensures.survives (commit_commits old new earlier base m h c.schema.ensures.live)
    tt (commit_live old new earlier base m h _ c.in_ok-execute.ensures.runs)

pub returns-in_err-execute-clause-was_open : goal.returns-in_err-execute-clause-was_open
returns-in_err-execute-clause-was_open g c clean live = ran_open commit_text [] (state g.S.Store c.args.conn.now) (state g.S.Store c.execute.new.self) _ (c.in_err-execute.ensures.runs clean) live

pub returns-clause-was_open : goal.returns-clause-was_open
returns-clause-was_open g c clean live = ran_open commit_text [] (state g.S.Store c.args.conn.now) (state g.S.Store c.execute.new.self) _ (c.in_ok-execute.ensures.runs clean) live

pub returns-in_err-execute-clause-lasts : goal.returns-in_err-execute-clause-lasts
returns-in_err-execute-clause-lasts g c = lasts_by (state g.S.Store c.args.conn.now) (state g.S.Store c.execute.new.self) _ c.execute.ensures.survives

pub returns-clause-lasts : goal.returns-clause-lasts
returns-clause-lasts g c = lasts_by (state g.S.Store c.args.conn.now) (state g.S.Store c.execute.new.self) _ c.execute.ensures.survives

pub returns-clause-live : goal.returns-clause-live
returns-clause-live g c clean = commit_ran (state g.S.Store c.args.conn.now) (state g.S.Store c.execute.new.self) _ (c.in_ok-execute.ensures.runs clean)
