use Rattle.std.proofs.Common.{◌≡◌, refl}
use Rattle.keeper_memory.specs.Kept.{kept_by}
use Rattle.keeper_sqlite.proofs.ReadLemmas.{each_shown, still_kept, told_before}
use Rattle.keeper_sqlite.proofs.HubKeepingLemmas.{one_state}
use Rattle.keeper_sqlite.proofs.hub.item_hub.ItemHubHubKeeper.load.Goals as goal

pub invariant_of-self : goal.invariant_of-self
invariant_of-self g c = still_kept c.self.invariant c.load_from.ensures.trust c.load_from.ensures.kept

pub returns-clause-same : goal.returns-clause-same
returns-clause-same g c =
    let s = g.S.StoredItems in
    let old = c.self.inside in
    rw (← c.self.view_is) (told_before c.self.invariant (s.may_hold old.store) (s.may_hold c.load_from.new.store) (one_state old.keep) (g.met.S.StoredItems.holds old.store) c.load_from.ensures.made)

pub returns-clause-shown : goal.returns-clause-shown
returns-clause-shown g c =
    let s = g.S.StoredItems in
    let old = c.self.inside in
    each_shown c.self.invariant c.load_from.ensures.trust c.load_from.ensures.kept (s.may_hold c.load_from.new.store) (one_state old.keep) (g.met.S.StoredItems.alone c.load_from.new.store) (λ state tables. state ≡ kept_by tables) c.load_from.result
    (λ n held. c.load_from.ensures.live (g.met.S.StoredItems.clean c.load_from.new.store n held)) c.load_from.ensures.shown

pub returns-clause-leads : goal.returns-clause-leads
returns-clause-leads g c = rw (← c.self.view_is) (refl, refl, c.load_from.ensures.signs)

pub returns-clause-turned : goal.returns-clause-turned
returns-clause-turned g c = rw (← c.self.view_is) c.load_from.ensures.turned

pub returns-clause-whole : goal.returns-clause-whole
returns-clause-whole g c = rw (← c.self.view_is) c.load_from.ensures.whole
