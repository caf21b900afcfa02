use Rattle.copy_format.specs.Format.{Keep}
use Rattle.keeper_sqlite.proofs.HubKeepingLemmas.{keeps_on, on_any}
use Rattle.std.proofs.Common.{sym, subst, inl, inr, refl}
use Rattle.keeper_sqlite.specs.copy.Keeping.{AreEditsOf}
use Rattle.keeper_sqlite.proofs.CopyKeepingLemmas.{change_keeps, changed, copy_of}
use Rattle.std.proofs.lemmas.Result.{err_from_is_err_and, on_err_weaker, on_ok_weaker}
use Rattle.keeper_sqlite.proofs.HoldingLemmas.{became}
use Rattle.keeper_memory.specs.copy.Changes.{copy_after}
use Rattle.keeper_sqlite.proofs.copy.commit.commit_ready.Goals as goal

pub returns-clause-ok : goal.returns-clause-ok
returns-clause-ok g c copy this can sure =
    let old = g.S.StoredItems.stands_for c.args.store.now in
    let change = c.args.change in
    let are = c.in_ok-edits.ensures.edits this.kept.side copy (copy_of old copy this) can (c.commit.ensures.trust sure) in
    on_ok_weaker c.commit.result (changed old (g.S.StoredItems.stands_for c.commit.new.self) copy change this c.as_slice.result.now can (subst (AreEditsOf this.kept.side copy change) (sym c.as_slice.ensures.value) are))
    (c.commit.ensures.ok this.items (c.in_ok-edits.ensures.same this.items this.stands))

pub returns-in_err-edits-clause-err : goal.returns-in_err-edits-clause-err
returns-in_err-edits-clause-err g c copy this =
    on_any c.from_residual.result (keeps_on Keep (g.S.StoredItems.stands_for c.args.store.now) (g.S.StoredItems.stands_for c.edits_for.new.store) copy this (c.edits_for.ensures.same this.items this.stands))

pub returns-clause-err : goal.returns-clause-err
returns-clause-err g c copy this =
    on_err_weaker c.commit.result (keeps_on Keep (g.S.StoredItems.stands_for c.args.store.now) (g.S.StoredItems.stands_for c.commit.new.self) copy this)
    (c.commit.ensures.err this.items (c.in_ok-edits.ensures.same this.items this.stands))

pub returns-in_err-edits-clause-made : goal.returns-in_err-edits-clause-made
returns-in_err-edits-clause-made g c n held =
    let p = err_from_is_err_and c.from_residual.result c.from_residual.ensures.1 in inl (rw p.1 refl, c.edits_for.ensures.held n held)

pub returns-clause-made : goal.returns-clause-made
returns-clause-made g c n held = elim (c.commit.ensures.made n held) [
  | inl was ↦ inl (was.0, c.in_ok-edits.ensures.held n was.1)
  | inr came ↦ inr (
    c.in_ok-edits.ensures.trust came.0,
    λ state this can.
        let are = c.in_ok-edits.ensures.edits this.kept.side state (copy_of (g.S.StoredItems.stands_for c.args.store.now) state this) can came.0 in
        became Keep (copy_after c.args.change) c.commit.result c.as_slice.result.now this.items n state this.kept (change_keeps this.items state c.args.change this.kept c.as_slice.result.now can (subst (AreEditsOf this.kept.side state c.args.change) (sym c.as_slice.ensures.value) are))
        (came.1 this.items (c.in_ok-edits.ensures.same this.items this.stands)),
  )
]
