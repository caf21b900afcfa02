use Rattle.std.proofs.Common.{refl, sym, subst}
use Rattle.sqlite.specs.Held.{state}
use Rattle.item_store.specs.Stands.{StandsFor}
use Rattle.exchange_link.specs.Exchanges.{LinkState}
use Rattle.exchange_link.specs.Agreement.{StageAgrees}
use Rattle.exchange_link.specs.Synchronised.{HeldTold, Synchronised}
use Rattle.exchange_link.specs.declared.answer.SyncAnswer.{SyncAnswer}
use Rattle.keeper_sqlite.specs.copy.Keeping.{KeepOrNew}
use Rattle.keeper_sqlite.specs.hub.Telling.{KeepSome}
use Rattle.sync_world.specs.Links.{link_state}
use Rattle.store_laws.proofs.ToldLemmas.{both_told, told_after}
use Rattle.store_laws.proofs.stored.sync_stored.Goals as goal

pub returns-clause-found : goal.returns-clause-found
returns-clause-found g c after stands =
    let link = link_state c.sync-answer.new.link in
    let (before, told, was, tells, done) = c.sync-answer.ensures.told (λ copy t stands tells. subst (StageAgrees copy) (sym tells.0) (c.requires.agree copy stands)) after link stands (refl, c.faults.ensures.hub) in
    (before, was, subst (λ (t : LinkState). Synchronised c.args.token.now c.sync-answer.result before t after link) tells.0 done)

pub returns-clause-synchronised : goal.returns-clause-synchronised
returns-clause-synchronised g c quiet =
    let view = state g.S.Store in
    let old = c.args.copy.now in
    let new = c.sync-answer.new.copy in
    let leads = c.sync-answer.ensures.copy_leads in
    let first = subst (λ items. KeepSome KeepOrNew (StandsFor (view items.store.connection))) (sym leads.0) c.requires.sound.0 in
    both_told (told_after KeepOrNew (view new.1.store.connection) (view old.0.store.connection) (view new.0.store.connection) new.0.lost first c.requires.sound.1 quiet leads.1 c.keeps.ensures) (returns-clause-found g c)

pub returns-clause-exact : goal.returns-clause-exact
returns-clause-exact g c version is after stands =
    let link = link_state c.sync-answer.new.link in
    let (before, told, was, tells, done) = c.sync-answer.ensures.told (λ copy t stands tells. subst (StageAgrees copy) (sym tells.0) (c.requires.agree copy stands)) after link stands (refl, c.faults.ensures.hub) in
    (subst (λ (a : SyncAnswer). HeldTold c.args.token.now a before told after link) is done.held).held
