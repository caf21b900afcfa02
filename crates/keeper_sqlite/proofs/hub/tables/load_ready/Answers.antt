use Rattle.std.proofs.Common.{◌≡◌, ap, sym, ◌∙◌}
use Rattle.std.proofs.lemmas.Result.{IfOk-weaker}
use Rattle.keeper_memory.specs.Kept.{kept_by}
use Rattle.keeper_sqlite.proofs.HubKeepingLemmas.{rows_in_spans, spans_of}
use Rattle.keeper_sqlite.proofs.hub.tables.load_ready.Goals as goal

pub returns-clause-shown : goal.returns-clause-shown
returns-clause-shown g c state this sure =
    let s = g.S.StoredItems.stands_for in
    let t = this.kept.tables in
    let rows = rows_in_spans (s c.args.store.now) t (spans_of (s c.args.store.now) state this) in
    IfOk-weaker c.tables_from.result (λ tables. tables ≡ t) (λ tables. state ≡ kept_by tables) (λ tables is. this.kept.same ∙ ap kept_by (sym is)) (c.tables_from.ensures.tables t rows sure)
