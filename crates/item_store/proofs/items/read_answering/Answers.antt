use Rattle.std.proofs.Common.{take, ◌∙◌}
use Rattle.std.proofs.lemmas.Result.{IfErr-weaker, err_from_is_err_and}
use Rattle.sqlite.specs.Held.{state}
use Rattle.item_store.proofs.Asking.{late, at_once}
use Rattle.item_maps.specs.Items.{listed}
use Rattle.std.proofs.Common.{inl, inr}
use Rattle.item_store.proofs.items.read_answering.Goals as goal

pub returns-in_err-rows-clause-same : goal.returns-in_err-rows-clause-same
returns-in_err-rows-clause-same g c m h = c.select.ensures.same m (c.in_ok-make.ensures.ok m h)

pub returns-clause-items : goal.returns-clause-items
returns-clause-items g c m h clean =
    c.items_of.ensures.value (take c.args.limit (listed c.args.area c.args.from.now c.args.to.now m)) (c.as_slice.ensures.value ∙ c.in_ok-rows.ensures.rows m (c.in_ok-make.ensures.ok m h) clean)

pub returns-clause-same : goal.returns-clause-same
returns-clause-same g c m h = c.select.ensures.same m (c.in_ok-make.ensures.ok m h)

pub returns-in_err-make-clause-asks : goal.returns-in_err-make-clause-asks
returns-in_err-make-clause-asks g c m h clean live =
    let p = err_from_is_err_and c.from_residual.result c.from_residual.ensures.1 in
    rw (p.1, p.2) (c.in_err-make.ensures.asks clean)

pub returns-in_err-rows-clause-asks : goal.returns-in_err-rows-clause-asks
returns-in_err-rows-clause-asks g c m h clean live =
    let view = state g.S.Store in
    let p = err_from_is_err_and c.from_residual-in_err-rows.result c.from_residual-in_err-rows.ensures.1 in
    rw (p.1, p.2) (λ cause. late view {mid = c.make.new.conn} c.in_err-rows.field-0.0 (c.in_ok-make.ensures.asks (c.select.ensures.honest clean)) (at_once view c.in_err-rows.field-0.0 (c.in_err-rows.ensures.asks clean)))

pub returns-clause-asks : goal.returns-clause-asks
returns-clause-asks g c m h clean live =
    IfErr-weaker c.items_of.result _ _ (λ e never cause. absurd (never cause))
    (c.items_of.ensures.memory (take c.args.limit (listed c.args.area c.args.from.now c.args.to.now m)) (c.as_slice.ensures.value ∙ c.in_ok-rows.ensures.rows m (c.in_ok-make.ensures.ok m h) clean))

pub returns-in_err-make-clause-left : goal.returns-in_err-make-clause-left
returns-in_err-make-clause-left g c m h clean live db may = (c.in_err-make.ensures.left m h clean live).left db may

pub returns-in_err-rows-clause-left : goal.returns-in_err-rows-clause-left
returns-in_err-rows-clause-left g c m h clean live db may =
    let made = c.in_ok-make.ensures.left m h (c.select.ensures.honest clean) live in
    elim ((c.select.ensures.left m (c.in_ok-make.ensures.ok m h) clean made.live).left db may) [ inl mid ↦ made.left db mid | inr none ↦ absurd none ]

pub returns-clause-left : goal.returns-clause-left
returns-clause-left g c m h clean live db may =
    let made = c.in_ok-make.ensures.left m h (c.select.ensures.honest clean) live in
    elim ((c.select.ensures.left m (c.in_ok-make.ensures.ok m h) clean made.live).left db may) [ inl mid ↦ made.left db mid | inr none ↦ absurd none ]

pub returns-in_err-rows-clause-was_open : goal.returns-in_err-rows-clause-was_open
returns-in_err-rows-clause-was_open g c clean live = c.make.ensures.was_open (c.select.ensures.honest clean) (c.select.ensures.was_open clean live)

pub returns-clause-was_open : goal.returns-clause-was_open
returns-clause-was_open g c clean live = c.make.ensures.was_open (c.select.ensures.honest clean) (c.select.ensures.was_open clean live)

pub returns-in_err-rows-clause-lasts : goal.returns-in_err-rows-clause-lasts
returns-in_err-rows-clause-lasts g c times h = c.make.ensures.lasts times (c.select.ensures.lasts times h)

pub returns-clause-lasts : goal.returns-clause-lasts
returns-clause-lasts g c times h = c.make.ensures.lasts times (c.select.ensures.lasts times h)
