use Rattle.std.proofs.Common.{◌∙◌, inl, inr}
use Rattle.std.proofs.lemmas.Result.{on_ok_weaker}
use Rattle.keeper_sqlite.specs.hub.Keeping.{KeepEither}
use Rattle.keeper_sqlite.proofs.HubKeepingLemmas.{made_turned, on_any, rows_in_areas, turned_keeps}
use Rattle.keeper_sqlite.proofs.HoldingLemmas.{made_either}
use Rattle.keeper_sqlite.proofs.hub.prepare.turn.Goals as goal

pub returns-clause-ok : goal.returns-clause-ok
returns-clause-ok g c state this sure =
    let s = g.S.StoredItems.stands_for in
    let read = c.in_ok-tables.ensures.tables this.kept.tables (rows_in_areas (s c.args.store.now) state this) (c.commit.ensures.trust sure) in
    on_ok_weaker c.commit.result
    (made_turned (s c.commit.new.self) state c.as_slice.result.now this.items this.kept c.in_ok-tables.tables read (c.as_slice.ensures.value ∙ c.in_ok-edits.ensures.edits) c.in_ok-edits.ensures.plain)
    (c.commit.ensures.ok this.items (c.in_ok-tables.ensures.same this.items this.stands))

pub returns-clause-err : goal.returns-clause-err
returns-clause-err g c m stands = c.commit.ensures.err m (c.in_ok-tables.ensures.same m stands)

pub returns-in_err-tables-clause-err : goal.returns-in_err-tables-clause-err
returns-in_err-tables-clause-err g c m stands = on_any c.from_residual.result (c.tables_from.ensures.same m stands)

pub returns-in_err-edits-clause-err : goal.returns-in_err-edits-clause-err
returns-in_err-edits-clause-err g c m stands = on_any c.from_residual-in_err-edits.result (c.in_ok-tables.ensures.same m stands)

pub returns-in_err-tables-clause-made : goal.returns-in_err-tables-clause-made
returns-in_err-tables-clause-made g c n held = inl (c.tables_from.ensures.held n held)

pub returns-in_err-edits-clause-made : goal.returns-in_err-edits-clause-made
returns-in_err-edits-clause-made g c n held = inl (c.in_ok-tables.ensures.held n held)

pub returns-clause-made : goal.returns-clause-made
returns-clause-made g c n held = elim (c.commit.ensures.made n held) [
  | inl was ↦ inl (c.in_ok-tables.ensures.held n was.1)
  | inr came ↦ inr (
    c.in_ok-tables.ensures.trust came.0,
    λ state this.
        let s = g.S.StoredItems.stands_for in
        let read = c.in_ok-tables.ensures.tables this.kept.tables (rows_in_areas (s c.args.store.now) state this) came.0 in
        made_either KeepEither c.commit.result c.as_slice.result.now this.items n state (inr this.kept)
        (inl (turned_keeps state c.as_slice.result.now this.items this.kept c.in_ok-tables.tables read (c.as_slice.ensures.value ∙ c.in_ok-edits.ensures.edits) c.in_ok-edits.ensures.plain))
        (came.1 this.items (c.in_ok-tables.ensures.same this.items this.stands)),
  )
]
