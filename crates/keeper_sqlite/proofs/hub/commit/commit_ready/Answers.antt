use Rattle.std.proofs.Common.{◌∙◌, inl, inr, refl}
use Rattle.span_format.specs.Format.{KeepSpans}
use Rattle.keeper_sqlite.proofs.HubKeepingLemmas.{can_here, commit_keeps, committed, keeps_on, on_any, spans_of}
use Rattle.std.proofs.lemmas.Result.{err_from_is_err_and, on_err_weaker, on_ok_weaker}
use Rattle.keeper_sqlite.proofs.HoldingLemmas.{became}
use Rattle.keeper_memory.specs.Commits.{with_commit}
use Rattle.keeper_sqlite.proofs.hub.commit.commit_ready.Goals as goal

pub returns-clause-ok : goal.returns-clause-ok
returns-clause-ok g c state this can sure =
    let old = g.S.StoredItems.stands_for c.args.store.now in
    let commit = c.args.commit.now in
    let is = c.in_ok-edits.ensures.edits this.kept.tables (spans_of old state this) (can_here old state commit this can) (c.commit.ensures.trust sure) in
    on_ok_weaker c.commit.result (committed old (g.S.StoredItems.stands_for c.commit.new.self) state commit this c.as_slice.result.now can c.in_ok-edits.ensures.fits (c.as_slice.ensures.value ∙ is))
    (c.commit.ensures.ok this.items (c.in_ok-edits.ensures.same this.items this.stands))

pub returns-in_err-edits-clause-err : goal.returns-in_err-edits-clause-err
returns-in_err-edits-clause-err g c state this =
    on_any c.from_residual.result (keeps_on KeepSpans (g.S.StoredItems.stands_for c.args.store.now) (g.S.StoredItems.stands_for c.edits_for.new.store) state this (c.edits_for.ensures.same this.items this.stands))

pub returns-clause-err : goal.returns-clause-err
returns-clause-err g c state this =
    on_err_weaker c.commit.result (keeps_on KeepSpans (g.S.StoredItems.stands_for c.args.store.now) (g.S.StoredItems.stands_for c.commit.new.self) state this)
    (c.commit.ensures.err this.items (c.in_ok-edits.ensures.same this.items this.stands))

pub returns-in_err-edits-clause-made : goal.returns-in_err-edits-clause-made
returns-in_err-edits-clause-made g c n held =
    let p = err_from_is_err_and c.from_residual.result c.from_residual.ensures.1 in inl (rw p.1 refl, c.edits_for.ensures.held n held)

pub returns-clause-made : goal.returns-clause-made
returns-clause-made g c n held = elim (c.commit.ensures.made n held) [
  | inl was ↦ inl (was.0, c.in_ok-edits.ensures.held n was.1)
  | inr came ↦ inr (
    c.in_ok-edits.ensures.trust came.0,
    λ state this can.
        let goes = c.in_ok-edits.ensures.edits this.kept.tables (spans_of (g.S.StoredItems.stands_for c.args.store.now) state this) (can_here (g.S.StoredItems.stands_for c.args.store.now) state c.args.commit.now this can) came.0 in
        became KeepSpans (λ state. with_commit state c.args.commit.now) c.commit.result c.as_slice.result.now this.items n state this.kept (commit_keeps this.items state c.args.commit.now this.kept c.as_slice.result.now can c.in_ok-edits.ensures.fits (c.as_slice.ensures.value ∙ goes))
        (came.1 this.items (c.in_ok-edits.ensures.same this.items this.stands)),
  )
]
