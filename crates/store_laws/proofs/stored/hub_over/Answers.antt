use Rattle.std.proofs.Common.{sym, subst}
use Rattle.sqlite.specs.Held.{Held, state}
use Rattle.item_store.specs.Stands.{StandsFor}
use Rattle.keeper_sqlite.specs.hub.Keeping.{KeepOrNew, Keeps}
use Rattle.keeper_sqlite.specs.Trust.{IsTrusted}
use Rattle.store_laws.proofs.stored.hub_over.Goals as goal

pub returns-clause-tells : goal.returns-clause-tells
returns-clause-tells g c sure kept this =
    let view = state g.S.Store in
    let same = sym c.adopt.ensures.connection in
    c.adopt-2.ensures.tells kept (subst (λ (x : Held g.row.S.Denot). IsTrusted (view x)) same sure) (subst (λ (x : Held g.row.S.Denot). Keeps (KeepOrNew c.args.keep) (StandsFor (view x)) kept) same this)
