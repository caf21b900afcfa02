use Rattle.std.proofs.Common.{◌∙◌, inl, inr}
use Rattle.std.proofs.lemmas.Result.{on_ok_weaker}
use Rattle.keeper_sqlite.specs.copy.Keeping.{KeepEither}
use Rattle.keeper_sqlite.proofs.HubKeepingLemmas.{on_any}
use Rattle.keeper_sqlite.proofs.CopyKeepingLemmas.{made_turned, turned_keeps}
use Rattle.keeper_sqlite.proofs.HoldingLemmas.{made_either}
use Rattle.keeper_sqlite.proofs.copy.prepare.turn.Goals as goal

pub returns-clause-ok : goal.returns-clause-ok
returns-clause-ok g c copy this =
    on_ok_weaker c.commit.result
    (made_turned (g.S.StoredItems.stands_for c.commit.new.self) copy c.as_slice.result.now this.items (c.as_slice.ensures.value ∙ c.in_ok-edits.ensures) this.kept)
    (c.commit.ensures.ok this.items (c.in_ok-stored_root.ensures.same this.items this.stands))

pub returns-clause-err : goal.returns-clause-err
returns-clause-err g c m stands = c.commit.ensures.err m (c.in_ok-stored_root.ensures.same m stands)

pub returns-in_err-stored_root-clause-err : goal.returns-in_err-stored_root-clause-err
returns-in_err-stored_root-clause-err g c m stands = on_any c.from_residual.result (c.in_err-stored_root.ensures.same m stands)

pub returns-in_err-edits-clause-err : goal.returns-in_err-edits-clause-err
returns-in_err-edits-clause-err g c m stands = on_any c.from_residual-in_err-edits.result (c.in_ok-stored_root.ensures.same m stands)

pub returns-in_err-stored_root-clause-made : goal.returns-in_err-stored_root-clause-made
returns-in_err-stored_root-clause-made g c n held = inl (c.in_err-stored_root.ensures.held n held)

pub returns-in_err-edits-clause-made : goal.returns-in_err-edits-clause-made
returns-in_err-edits-clause-made g c n held = inl (c.in_ok-stored_root.ensures.held n held)

pub returns-clause-made : goal.returns-clause-made
returns-clause-made g c n held = elim (c.commit.ensures.made n held) [
  | inl was ↦ inl (c.in_ok-stored_root.ensures.held n was.1)
  | inr came ↦ inr (
    c.in_ok-stored_root.ensures.trust came.0,
    λ state this.
        made_either KeepEither c.commit.result c.as_slice.result.now this.items n state (inr this.kept)
        (inl (turned_keeps state c.as_slice.result.now this.items (c.as_slice.ensures.value ∙ c.in_ok-edits.ensures) this.kept))
        (came.1 this.items (c.in_ok-stored_root.ensures.same this.items this.stands)),
  )
]
