use Rattle.std.proofs.Common.{inl, inr, refl}
use Rattle.std.proofs.lemmas.Result.{IfErr-weaker, err_from_is_err_and}
use Rattle.sqlite.specs.Held.{state}
use Rattle.item_store.proofs.Asking.{at_once, late, one}
use Rattle.item_store.proofs.items.read_items.Goals as goal

pub returns-in_err-answers-clause-asks : goal.returns-in_err-answers-clause-asks
returns-in_err-answers-clause-asks g c m h clean live =
    let p = err_from_is_err_and c.from_residual.result c.from_residual.ensures.1 in
    rw (p.1, p.2) (λ cause. at_once (state g.S.Store) c.in_err-answers.field-0.0 (c.in_err-answers.ensures.asks clean))

pub returns-clause-asks : goal.returns-clause-asks
returns-clause-asks g c m h clean live =
    let view = state g.S.Store in
    IfErr-weaker c.read_answering.result _ _ (λ e refused cause. late view {mid = c.answers.new.conn} e (one view (c.in_ok-answers.ensures.asks (c.read_answering.ensures.honest clean))) (refused cause)) (c.read_answering.ensures.asks m (c.in_ok-answers.ensures.same m h) clean (c.in_ok-answers.ensures.live (c.read_answering.ensures.honest clean)).1)

pub returns-in_err-answers-clause-left : goal.returns-in_err-answers-clause-left
returns-in_err-answers-clause-left g c m h clean live db may = inl (c.in_err-answers.ensures.left clean db may)

pub returns-clause-left : goal.returns-clause-left
returns-clause-left g c m h clean live db may =
    let was = c.read_answering.ensures.honest clean in
    elim (c.read_answering.ensures.left m (c.in_ok-answers.ensures.same m h) clean (c.in_ok-answers.ensures.live was).1 db may) [ inl mid ↦ inl (c.in_ok-answers.ensures.left was db mid) | inr is ↦ inr is ]

pub returns-in_err-answers-clause-shut : goal.returns-in_err-answers-clause-shut
returns-in_err-answers-clause-shut g c clean shut =
    let p = err_from_is_err_and c.from_residual.result c.from_residual.ensures.1 in
    (rw p.1 refl, λ db may. c.in_err-answers.ensures.left clean db may)

pub returns-clause-shut : goal.returns-clause-shut
returns-clause-shut g c clean shut = absurd (let live = (c.in_ok-answers.ensures.live (c.read_answering.ensures.honest clean)).0 in cc)

pub returns-clause-lasts : goal.returns-clause-lasts
returns-clause-lasts g c times h = c.answers.ensures.lasts times (c.read_answering.ensures.lasts times h)

pub returns-clause-items : goal.returns-clause-items
returns-clause-items g c m h = c.read_answering.ensures.items m (c.in_ok-answers.ensures.same m h)

pub returns-clause-same : goal.returns-clause-same
returns-clause-same g c m h = c.read_answering.ensures.same m (c.in_ok-answers.ensures.same m h)
