use Rattle.std.proofs.Common.{refl, sym, subst}
use Rattle.sqlite.specs.Held.{state}
use Rattle.item_store.specs.Stands.{StandsFor}
use Rattle.exchange_link.specs.Exchanges.{LinkState}
use Rattle.exchange_link.specs.Marks.{Agree}
use Rattle.exchange_link.specs.SentTold.{WasSent}
use Rattle.keeper_sqlite.specs.copy.Keeping.{KeepOrNew}
use Rattle.keeper_sqlite.specs.hub.Telling.{KeepSome}
use Rattle.sync_world.specs.Links.{link_state}
use Rattle.store_laws.proofs.ToldLemmas.{both_told, told_after}
use Rattle.store_laws.proofs.stored.send_stored.Goals as goal

pub returns-clause-found : goal.returns-clause-found
returns-clause-found g c after stands =
    let link = link_state c.send-answer.new.link in
    let (before, told, was, tells, done) = c.send-answer.ensures.told (λ copy t stands tells. subst (Agree copy) (sym tells.0) (c.requires.agree copy stands)) after link stands (refl, c.faults.ensures.hub) in
    (before, was, subst (λ (t : LinkState). WasSent c.args.token.now c.send-answer.result before t after link) tells.0 done)

pub returns-clause-sent : goal.returns-clause-sent
returns-clause-sent g c quiet =
    let view = state g.S.Store in
    let old = c.args.copy.now in
    let new = c.send-answer.new.copy in
    let leads = c.send-answer.ensures.copy_leads in
    let first = subst (λ items. KeepSome KeepOrNew (StandsFor (view items.store.connection))) (sym leads.0) c.requires.sound.0 in
    both_told (told_after KeepOrNew (view new.1.store.connection) (view old.0.store.connection) (view new.0.store.connection) new.0.lost first c.requires.sound.1 quiet leads.1 c.keeps.ensures) (returns-clause-found g c)
