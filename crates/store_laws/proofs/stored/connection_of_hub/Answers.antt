use Rattle.std.proofs.Common.{sym, subst, ap, ◌∙◌}
use Rattle.sqlite.specs.Held.{Held, state}
use Rattle.item_store.specs.Stands.{StandsFor}
use Rattle.keeper_sqlite.specs.hub.Keeping.{KeepOrNew, Keeps}
use Rattle.keeper_sqlite.proofs.HoldingLemmas.{stored_stands}
use Rattle.store_laws.proofs.stored.connection_of_hub.Goals as goal

pub returns : goal.returns
returns g c sure kept tells =
    let view = state g.S.Store in
    let now = c.args.keeper.0 in
    let stands = stored_stands (KeepOrNew c.args.keeper.2) (StandsFor (view c.args.keeper.1.store.connection)) (view now.store.connection) now.lost kept sure (c.keeps.ensures tells.first sure) tells in
    subst (λ (x : Held g.row.S.Denot). Keeps (KeepOrNew c.args.keeper.2) (StandsFor (view x)) kept) (sym (c.release-2.ensures ∙ ap (λ items. items.store.connection) c.release.ensures)) stands
