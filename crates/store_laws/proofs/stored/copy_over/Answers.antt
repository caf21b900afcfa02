use Rattle.std.proofs.Common.{sym, subst}
use Rattle.sqlite.specs.Held.{Held, state}
use Rattle.item_store.specs.Stands.{StandsFor}
use Rattle.keeper_sqlite.specs.copy.Keeping.{KeepOrNew}
use Rattle.keeper_sqlite.specs.hub.Keeping.{Keeps}
use Rattle.keeper_sqlite.specs.Trust.{IsTrusted}
use Rattle.store_laws.proofs.stored.copy_over.Goals as goal

pub returns-clause-tells : goal.returns-clause-tells
returns-clause-tells g c sure copy this =
    let view = state g.S.Store in
    let same = sym c.adopt.ensures.connection in
    c.adopt-2.ensures.tells copy (subst (λ (x : Held g.row.S.Denot). IsTrusted (view x)) same sure) (subst (λ (x : Held g.row.S.Denot). Keeps KeepOrNew (StandsFor (view x)) copy) same this)
