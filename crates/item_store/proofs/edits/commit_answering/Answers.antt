use Rattle.std.proofs.lemmas.Result.{err_from_is_err_and}
use Rattle.sqlite.specs.Held.{Held, state}
use Rattle.item_store.specs.Stands.{StandsFor, GoesBackTo}
use Rattle.item_store.proofs.Asking.{one, joined, late, at_once, in_turn, rolled}
use Rattle.item_store.proofs.States.{on_err}
use Rattle.item_maps.specs.Edits.{after}
use Rattle.item_store.proofs.EditLemmas.{ok_then, err_then, stands_back}
use Rattle.std.proofs.Common.{inl, inr, IsTrue, sym, subst}
use Rattle.item_store.proofs.LeftLemmas.{ended_or_live, goes_back}
use Rattle.item_store.proofs.edits.commit_answering.Goals as goal

pub returns-in_err-begin-clause-err : goal.returns-in_err-begin-clause-err
returns-in_err-begin-clause-err g c m h =
    on_err {P = StandsFor (state g.S.Store c.begin.new.conn) m} c.from_residual-in_err-begin.result (c.in_err-begin.ensures.err m (c.in_ok-make.ensures.ok m h))

pub returns-clause-ok : goal.returns-clause-ok
returns-clause-ok g c m h =
    let done = after c.args.edits.now m in
    let mid = state g.S.Store c.finish-ended.new.conn in
    let last = state g.S.Store c.roll_back.new.conn in
    ok_then (StandsFor mid done) (StandsFor last done) c.finish-ended.result (λ stands. c.roll_back.ensures.back done (stands_back mid done stands))
    (c.finish-ended.ensures.ok m m (c.in_ok-begin.ensures.ok m (c.in_ok-make.ensures.ok m h)))

pub returns-clause-err : goal.returns-clause-err
returns-clause-err g c m h =
    let mid = state g.S.Store c.finish-ended.new.conn in
    let last = state g.S.Store c.roll_back.new.conn in
    err_then (GoesBackTo mid m) (StandsFor last m) c.finish-ended.result (c.roll_back.ensures.back m)
    (c.finish-ended.ensures.err m m (c.in_ok-begin.ensures.ok m (c.in_ok-make.ensures.ok m h)))

pub returns-in_err-make-clause-asks : goal.returns-in_err-make-clause-asks
returns-in_err-make-clause-asks g c clean =
    let p = err_from_is_err_and c.from_residual.result c.from_residual.ensures.1 in
    rw (p.1, p.2) (c.in_err-make.ensures.asks clean)

pub returns-in_err-begin-clause-asks : goal.returns-in_err-begin-clause-asks
returns-in_err-begin-clause-asks g c clean =
    let view = state g.S.Store in
    let p = err_from_is_err_and c.from_residual-in_err-begin.result c.from_residual-in_err-begin.ensures.1 in
    rw (p.1, p.2) (λ cause. late view {mid = c.make.new.conn} c.in_err-begin.field-0.0 (c.in_ok-make.ensures.asks (c.begin.ensures.honest clean)) (at_once view c.in_err-begin.field-0.0 (c.in_err-begin.ensures.asks clean)))

pub returns-clause-asks : goal.returns-clause-asks
returns-clause-asks g c clean =
    let view = state g.S.Store in
    let ended = c.roll_back.ensures.honest clean in
    let begun = c.finish-ended.ensures.honest ended in
    let inside = joined view {mid = c.make.new.conn} (c.in_ok-make.ensures.asks (c.begin.ensures.honest begun)) (one view (c.in_ok-begin.ensures.asks begun)) in
    rolled view c.args.conn.now c.finish-ended.new.conn c.roll_back.new.conn c.finish-ended.result c.roll_back.ensures.honest
    (in_turn view c.args.conn.now c.begin.new.conn c.finish-ended.new.conn c.finish-ended.result inside (c.finish-ended.ensures.asks ended))

pub returns-in_err-make-clause-left : goal.returns-in_err-make-clause-left
returns-in_err-make-clause-left g c m h clean live db may = elim ((c.in_err-make.ensures.left m h clean live).left db may) [ inl was ↦ inl was | inr is ↦ inr (inl is) ]

pub returns-in_err-begin-clause-left : goal.returns-in_err-begin-clause-left
returns-in_err-begin-clause-left g c m h clean live db may =
    let made = c.in_ok-make.ensures.left m h (c.begin.ensures.honest clean) live in
    let begun = c.in_err-begin.ensures.left m (c.in_ok-make.ensures.ok m h) clean made.live in
    elim (begun.left db may) [
      | inl mid ↦ elim (made.left db mid) [ inl was ↦ inl was | inr is ↦ inr (inl is) ]
      | inr none ↦ absurd none
    ]

pub returns-clause-left : goal.returns-clause-left
returns-clause-left g c m h clean live db may =
    let ended = c.roll_back.ensures.honest clean in
    let opened = c.finish-ended.ensures.honest ended in
    let ready = c.in_ok-make.ensures.ok m h in
    let inside = c.in_ok-begin.ensures.ok m ready in
    let made = c.in_ok-make.ensures.left m h (c.begin.ensures.honest opened) live in
    let begun = c.in_ok-begin.ensures.left m ready opened made.live in
    let done = c.finish-ended.ensures.left m m inside ended begun.live in
    let s = state g.S.Store c.finish-ended.new.conn in
    let r = c.finish-ended.result in
    let back = goes_back s r (after c.args.edits.now m) m (c.finish-ended.ensures.ok m m inside) (c.finish-ended.ensures.err m m inside) in
    elim (done.left db (c.roll_back.ensures.left back.0 back.1 clean (ended_or_live s r done.live done.ended) db may)) [
      | inl before ↦ elim (begun.left db before) [
        | inl mid ↦ elim (made.left db mid) [ inl was ↦ inl was | inr is ↦ inr (inl is) ]
        | inr none ↦ absurd none
      ]
      | inr is ↦ inr (inr is)
    ]

pub returns-in_err-begin-clause-was_open : goal.returns-in_err-begin-clause-was_open
returns-in_err-begin-clause-was_open g c clean live = c.make.ensures.was_open (c.begin.ensures.honest clean) (c.begin.ensures.was_open clean live)

pub returns-clause-was_open : goal.returns-clause-was_open
returns-clause-was_open g c clean live =
    let ended = c.roll_back.ensures.honest clean in
    let opened = c.finish-ended.ensures.honest ended in
    c.make.ensures.was_open (c.begin.ensures.honest opened) (c.begin.ensures.was_open opened (c.finish-ended.ensures.was_open ended (c.roll_back.ensures.was_open clean live)))

pub returns-clause-live : goal.returns-clause-live
returns-clause-live g c clean =
    let view = state g.S.Store in
    ok_then _ _ c.finish-ended.result (λ done. subst (λ (x : Held g.row.S.Denot). IsTrue (view x).is_open) (sym (c.roll_back.ensures.outside done.1)) done.0) (c.finish-ended.ensures.live (c.roll_back.ensures.honest clean))

pub returns-in_err-begin-clause-lasts : goal.returns-in_err-begin-clause-lasts
returns-in_err-begin-clause-lasts g c times h = c.make.ensures.lasts times (c.begin.ensures.lasts times h)

pub returns-clause-lasts : goal.returns-clause-lasts
returns-clause-lasts g c times h = c.make.ensures.lasts times (c.begin.ensures.lasts times (c.finish-ended.ensures.lasts times (c.roll_back.ensures.lasts times h)))
