use Rattle.std.proofs.Common.{sym, subst}
use Rattle.sqlite.specs.Held.{state}
use Rattle.item_store.specs.Stands.{StandsFor}
use Rattle.keeper_sqlite.specs.hub.Keeping.{KeepOrNew}
use Rattle.keeper_sqlite.specs.hub.Telling.{KeepSome}
use Rattle.store_laws.proofs.ToldLemmas.{both_told, told_after}
use Rattle.store_laws.proofs.stored.publish_stored.Goals as goal

pub returns-clause-found : goal.returns-clause-found
returns-clause-found g c after stands =
    let (before, standing, was, made) = c.publish-published.ensures.told after (c.publish-published.ensures.fits after stands) in (before, was stands, made)

pub returns-clause-published : goal.returns-clause-published
returns-clause-published g c quiet =
    let view = state g.S.Store in
    let old = c.args.keeper.now in
    let new = c.publish-published.new.keeper in
    let leads = c.publish-published.ensures.leads in
    let first = subst (λ items. KeepSome (KeepOrNew new.2) (StandsFor (view items.store.connection))) (sym leads.0) (subst (λ keep. KeepSome (KeepOrNew keep) (StandsFor (view old.1.store.connection))) (sym leads.1) c.requires.sound.0) in
    both_told (told_after (KeepOrNew new.2) (view new.1.store.connection) (view old.0.store.connection) (view new.0.store.connection) new.0.lost first c.requires.sound.1 quiet leads.2 c.keeps.ensures) (returns-clause-found g c)
