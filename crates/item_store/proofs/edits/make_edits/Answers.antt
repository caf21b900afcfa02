use Rattle.std.proofs.Common.{◌≡◌, [], inl, refl, sym, ◌∙◌, subst, arith}
use Rattle.std.proofs.lemmas.Result.{err_from_is_err_and}
use Rattle.sqlite.specs.Held.{state}
use Rattle.item_maps.specs.Items.{Items}
use Rattle.item_store.specs.Stands.{IsWithin, GoesBackTo}
use Rattle.item_store.proofs.States.{on_err}
use Rattle.item_store.proofs.Asking.{joined, late}
use Rattle.item_maps.specs.Edits.{after, after_edit}
use Rattle.item_store.proofs.EditLemmas.{step_after, all_after}
use Rattle.item_store.proofs.LeftLemmas.{err_on, leaves_then, no_calls, nothing_ok, nothing_then}
use Rattle.item_store.proofs.edits.make_edits.Goals as goal

pub loop-edit-init : goal.loop-edit-init
loop-edit-init g c =
    (λ clean. clean, λ base m h. (m, h, refl), λ clean. ([], refl), λ base m h. no_calls (state g.S.Store c.args.conn.now), λ clean live. live, λ times h. h)

pub loop-edit-preserved : goal.loop-edit-preserved
loop-edit-preserved g c = (
  λ clean. c.loop-edit.invariant.0 (c.make_edit.ensures.honest clean),
  λ base m h.
      let was = c.loop-edit.invariant.1 base m h in
      (after_edit c.edit-item.result was.0, c.in_ok-make_edit.ensures.ok base was.0 was.1, step_after c.args.edits.now c.loop-edit.edit-index c.edit-item.result was.0 (omega arith) c.edit-item.is ∙ was.2),
  λ clean.
      joined (state g.S.Store) {mid = c.loop-edit.conn} (c.loop-edit.invariant.2 (c.make_edit.ensures.honest clean)) (c.in_ok-make_edit.ensures.asks clean),
  λ base m h.
      let was = c.loop-edit.invariant.1 base m h in
      let mid = state g.S.Store c.loop-edit.conn in
      let last = state g.S.Store c.make_edit.new.conn in
      nothing_then (state g.S.Store c.args.conn.now) mid last c.make_edit.ensures.honest (c.loop-edit.invariant.3 base m h) (nothing_ok mid last _ (c.in_ok-make_edit.ensures.left base was.0 was.1)),
  λ clean live. c.loop-edit.invariant.4 (c.make_edit.ensures.honest clean) (c.make_edit.ensures.was_open clean live),
  λ times h. c.loop-edit.invariant.5 times (c.make_edit.ensures.lasts times h),
)

pub returns-in_err-make_edit-clause-err : goal.returns-in_err-make_edit-clause-err
returns-in_err-make_edit-clause-err g c base m h =
    let was = c.loop-edit.invariant.1 base m h in
    on_err {P = GoesBackTo (state g.S.Store c.make_edit.new.conn) base} c.from_residual.result (c.in_err-make_edit.ensures.err base was.0 was.1)

pub returns-in_err-make_edit-clause-honest : goal.returns-in_err-make_edit-clause-honest
returns-in_err-make_edit-clause-honest g c clean = c.loop-edit.invariant.0 (c.make_edit.ensures.honest clean)

pub returns-clause-ok : goal.returns-clause-ok
returns-clause-ok g c base m h =
    let was = c.loop-edit.invariant.1 base m h in
    let all : was.0 ≡ after c.args.edits.now m = sym (all_after c.args.edits.now c.loop-edit.edit-index was.0 (omega arith)) ∙ was.2 in
    subst (λ (n : Items). IsWithin (state g.S.Store c.loop-edit.conn) base n) all was.1

pub returns-in_err-make_edit-clause-asks : goal.returns-in_err-make_edit-clause-asks
returns-in_err-make_edit-clause-asks g c clean =
    let p = err_from_is_err_and c.from_residual.result c.from_residual.ensures.1 in
    rw (p.1, p.2) (λ cause. late (state g.S.Store) c.in_err-make_edit.field-0.0 (c.loop-edit.invariant.2 (c.make_edit.ensures.honest clean)) (c.in_err-make_edit.ensures.asks clean cause))

pub returns-clause-asks : goal.returns-clause-asks
returns-clause-asks g c clean = c.loop-edit.invariant.2 clean

pub returns-in_err-make_edit-clause-left : goal.returns-in_err-make_edit-clause-left
returns-in_err-make_edit-clause-left g c base m h =
    let was = c.loop-edit.invariant.1 base m h in
    let first = state g.S.Store c.args.conn.now in
    let mid = state g.S.Store c.loop-edit.conn in
    let last = state g.S.Store c.make_edit.new.conn in
    let p = err_from_is_err_and c.from_residual.result c.from_residual.ensures.1 in
    err_on first last (λ _. ⊥) (λ _. ⊥) c.from_residual.result _ p.0 p.1 (λ db none. none)
    (leaves_then first mid last (λ _. ⊥) _ c.make_edit.ensures.honest (c.loop-edit.invariant.3 base m h) (c.in_err-make_edit.ensures.left base was.0 was.1))

pub returns-in_err-make_edit-clause-was_open : goal.returns-in_err-make_edit-clause-was_open
returns-in_err-make_edit-clause-was_open g c clean live = c.loop-edit.invariant.4 (c.make_edit.ensures.honest clean) (c.make_edit.ensures.was_open clean live)

pub returns-clause-left : goal.returns-clause-left
returns-clause-left g c base m h clean live =
    let it = c.loop-edit.invariant.3 base m h clean live in record { live = it.live; ended = tt; left = λ db may. inl (it.left db may) }

pub returns-clause-was_open : goal.returns-clause-was_open
returns-clause-was_open g c = c.loop-edit.invariant.4

pub returns-in_err-make_edit-clause-lasts : goal.returns-in_err-make_edit-clause-lasts
returns-in_err-make_edit-clause-lasts g c times h = c.loop-edit.invariant.5 times (c.make_edit.ensures.lasts times h)

pub returns-clause-lasts : goal.returns-clause-lasts
returns-clause-lasts g c = c.loop-edit.invariant.5
