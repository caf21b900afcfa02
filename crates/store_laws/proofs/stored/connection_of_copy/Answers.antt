use Rattle.std.proofs.Common.{sym, subst, ap, ◌∙◌}
use Rattle.sqlite.specs.Held.{Held, state}
use Rattle.item_store.specs.Stands.{StandsFor}
use Rattle.keeper_sqlite.specs.copy.Keeping.{KeepOrNew}
use Rattle.keeper_sqlite.specs.hub.Keeping.{Keeps}
use Rattle.keeper_sqlite.proofs.HoldingLemmas.{stored_stands}
use Rattle.store_laws.proofs.stored.connection_of_copy.Goals as goal

pub returns : goal.returns
returns g c sure copy tells =
    let view = state g.S.Store in
    let now = c.args.copy.0 in
    let stands = stored_stands KeepOrNew (StandsFor (view c.args.copy.1.store.connection)) (view now.store.connection) now.lost copy sure (c.keeps.ensures tells.first sure) tells in
    subst (λ (x : Held g.row.S.Denot). Keeps KeepOrNew (StandsFor (view x)) copy) (sym (c.release-2.ensures ∙ ap (λ items. items.store.connection) c.release.ensures)) stands
