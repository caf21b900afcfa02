use Rattle.keeper_memory.specs.copy.Changes.{copy_after}
use Rattle.keeper_sqlite.proofs.HubKeepingLemmas.{keeps_on, on_any}
use Rattle.keeper_sqlite.proofs.CopyKeepingLemmas.{keeps_either, keeps_or_new, some_keeps}
use Rattle.std.proofs.Common.{inl, inr, refl}
use Rattle.std.proofs.lemmas.Result.{err_from_is_err_and, on_err_weaker}
use Rattle.keeper_sqlite.proofs.HoldingLemmas.{became_more, nothing_became}
use Rattle.copy_format.specs.Format.{Keep}
use Rattle.keeper_sqlite.specs.copy.Keeping.{KeepEither, KeepOrNew}
use Rattle.keeper_sqlite.proofs.copy.commit.commit_to.Goals as goal

pub returns-clause-ok : goal.returns-clause-ok
returns-clause-ok g c copy this can sure =
    let ready = c.in_ok-prepare.ensures.ok copy this (c.commit_ready.ensures.trust sure) in
    c.commit_ready.ensures.ok copy ready can sure

pub returns-clause-err : goal.returns-clause-err
returns-clause-err g c copy this sure =
    let ready = c.in_ok-prepare.ensures.ok copy this (c.commit_ready.ensures.trust sure) in
    on_err_weaker c.commit_ready.result (keeps_or_new (g.S.StoredItems.stands_for c.commit_ready.new.store) copy) (c.commit_ready.ensures.err copy ready)

pub returns-in_err-prepare-clause-err : goal.returns-in_err-prepare-clause-err
returns-in_err-prepare-clause-err g c copy this sure =
    on_any c.from_residual.result (keeps_on KeepOrNew (g.S.StoredItems.stands_for c.args.store.now) (g.S.StoredItems.stands_for c.prepare.new.store) copy this (c.in_err-prepare.ensures.err this.items this.stands))

pub returns-clause-whole : goal.returns-clause-whole
returns-clause-whole g c copy this sure =
    let s = g.S.StoredItems.stands_for in
    let ready = c.in_ok-prepare.ensures.ok copy (some_keeps (s c.args.store.now) copy this) (c.commit_ready.ensures.trust sure) in
    on_err_weaker c.commit_ready.result (keeps_either (s c.commit_ready.new.store) copy) (c.commit_ready.ensures.err copy ready)

pub returns-in_err-prepare-clause-whole : goal.returns-in_err-prepare-clause-whole
returns-in_err-prepare-clause-whole g c copy this sure =
    on_any c.from_residual.result (keeps_on KeepEither (g.S.StoredItems.stands_for c.args.store.now) (g.S.StoredItems.stands_for c.prepare.new.store) copy this (c.in_err-prepare.ensures.err this.items this.stands))

pub returns-in_err-prepare-clause-made : goal.returns-in_err-prepare-clause-made
returns-in_err-prepare-clause-made g c n held =
    let p = err_from_is_err_and c.from_residual.result c.from_residual.ensures.1 in
    elim (c.in_err-prepare.ensures.made n held) [
      | inl was ↦ inl (rw p.1 refl, was)
      | inr came ↦ inr (came.0, λ state this can. nothing_became KeepOrNew (copy_after c.args.change) c.from_residual.result state n (rw p.1 refl) (came.1 state this))
    ]

pub returns-clause-made : goal.returns-clause-made
returns-clause-made g c n held = elim (c.commit_ready.ensures.made n held) [
  | inl was ↦ elim (c.in_ok-prepare.ensures.made n was.1) [
    | inl there ↦ inl (was.0, there)
    | inr came ↦ inr (came.0, λ state this can. nothing_became KeepOrNew (copy_after c.args.change) c.commit_ready.result state n was.0 (came.1 state this))
  ]
  | inr came ↦ inr (
    c.in_ok-prepare.ensures.trust came.0,
    λ state this can.
        became_more Keep (copy_after c.args.change) KeepOrNew (λ m s kept. inl kept) c.commit_ready.result state n (came.1 state (c.in_ok-prepare.ensures.ok state this came.0) can),
  )
]
