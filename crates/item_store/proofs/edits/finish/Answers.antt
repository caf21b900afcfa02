use Rattle.sqlite.specs.Held.{state}
use Rattle.item_store.specs.Stands.{GoesBackTo}
use Rattle.item_store.proofs.Asking.{in_turn, once}
use Rattle.item_store.proofs.States.{on_err}
use Rattle.item_maps.specs.Edits.{after}
use Rattle.std.proofs.lemmas.Result.{err_from_is_err_and}
use Rattle.item_store.specs.Left.{IsLeft}
use Rattle.item_store.proofs.LeftLemmas.{err_on, leaves_then, nothing_ok}
use Rattle.item_store.proofs.edits.finish.Goals as goal

pub returns-in_err-make_edits-clause-err : goal.returns-in_err-make_edits-clause-err
returns-in_err-make_edits-clause-err g c base m h =
    on_err {P = GoesBackTo (state g.S.Store c.make_edits.new.conn) base} c.from_residual.result (c.in_err-make_edits.ensures.err base m h)

pub returns-clause-ok : goal.returns-clause-ok
returns-clause-ok g c base m h = c.commit.ensures.ok base (after c.args.edits.now m) (c.in_ok-make_edits.ensures.ok base m h)

pub returns-clause-err : goal.returns-clause-err
returns-clause-err g c base m h = c.commit.ensures.err base (after c.args.edits.now m) (c.in_ok-make_edits.ensures.ok base m h)

pub returns-clause-asks : goal.returns-clause-asks
returns-clause-asks g c clean =
    in_turn (state g.S.Store) c.args.conn.now c.make_edits.new.conn c.commit.new.conn c.commit.result (c.in_ok-make_edits.ensures.asks (c.commit.ensures.honest clean))
    (once (state g.S.Store) c.make_edits.new.conn c.commit.new.conn c.commit.result (c.commit.ensures.asks clean))

pub returns-in_err-make_edits-clause-left : goal.returns-in_err-make_edits-clause-left
returns-in_err-make_edits-clause-left g c base m h =
    let p = err_from_is_err_and c.from_residual.result c.from_residual.ensures.1 in
    err_on (state g.S.Store c.args.conn.now) (state g.S.Store c.make_edits.new.conn) (λ _. ⊥) (λ db. IsLeft db (after c.args.edits.now m)) c.from_residual.result _ p.0 p.1 (λ db none. absurd none)
    (c.in_err-make_edits.ensures.left base m h)

pub returns-clause-left : goal.returns-clause-left
returns-clause-left g c base m h =
    let first = state g.S.Store c.args.conn.now in
    let mid = state g.S.Store c.make_edits.new.conn in
    let last = state g.S.Store c.commit.new.conn in
    leaves_then first mid last (λ db. IsLeft db (after c.args.edits.now m)) c.commit.result c.commit.ensures.honest (nothing_ok first mid _ (c.in_ok-make_edits.ensures.left base m h))
    (c.commit.ensures.left base (after c.args.edits.now m) (c.in_ok-make_edits.ensures.ok base m h))

pub returns-clause-was_open : goal.returns-clause-was_open
returns-clause-was_open g c clean live = c.make_edits.ensures.was_open (c.commit.ensures.honest clean) (c.commit.ensures.was_open clean live)

pub returns-clause-lasts : goal.returns-clause-lasts
returns-clause-lasts g c times h = c.make_edits.ensures.lasts times (c.commit.ensures.lasts times h)
