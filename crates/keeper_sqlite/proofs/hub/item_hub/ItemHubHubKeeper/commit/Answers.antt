use Rattle.std.proofs.Common.{refl}
use Rattle.std.proofs.lemmas.Result.{on_ok_weaker}
use Rattle.keeper_memory.specs.Commits.{CanCommit, with_commit}
use Rattle.keeper_sqlite.specs.hub.Keeping.{KeepOrNew}
use Rattle.keeper_sqlite.proofs.HubKeepingLemmas.{keeps_or_new, one_state}
use Rattle.keeper_sqlite.proofs.TellingLemmas.{hub_came, still_keep, told_back}
use Rattle.keeper_sqlite.proofs.hub.item_hub.ItemHubHubKeeper.commit.Goals as goal

pub invariant_of-self : goal.invariant_of-self
invariant_of-self g c =
    let s = g.S.StoredItems in
    let old = c.self.inside in
    let commit = c.args.commit.now in
    still_keep (KeepOrNew old.keep) (s.stands_for old.origin.value) (s.stands_for old.store) (s.stands_for c.commit_to.new.store) (s.may_hold old.store) (s.is_trusted old.store)
    (λ state. CanCommit state commit) (λ state. with_commit state commit) c.self.invariant (g.met.S.StoredItems.holds old.store) (rw (← c.self.view_is) at c.requires) c.commit_to.result
    (s.is_trusted c.commit_to.new.store) c.commit_to.ensures.trust
    (λ state this can sure. on_ok_weaker c.commit_to.result (keeps_or_new old.keep (s.stands_for c.commit_to.new.store) (with_commit state commit)) (c.commit_to.ensures.ok state this can sure)) c.commit_to.ensures.err

pub returns-clause-told : goal.returns-clause-told
returns-clause-told g c =
    let s = g.S.StoredItems in
    let old = c.self.inside in
    let commit = c.args.commit.now in
    rw (← c.self.view_is) (λ now tells.
    let back = told_back (KeepOrNew old.keep) (s.stands_for old.origin.value) (s.stands_for old.store) (s.stands_for c.commit_to.new.store) (s.may_hold old.store) (s.is_trusted old.store)
    (λ state. CanCommit state commit) (λ state. with_commit state commit) c.self.invariant (g.met.S.StoredItems.holds old.store) (rw (← c.self.view_is) at c.requires) c.commit_to.result
    (one_state old.keep) (s.may_hold c.commit_to.new.store) c.commit_to.ensures.made now tells in
    (back.0, back.1, hub_came commit c.commit_to.result back.0 now back.2))

pub returns-clause-leads : goal.returns-clause-leads
returns-clause-leads g c = rw (← c.self.view_is) (refl, refl, c.commit_to.ensures.signs)

pub returns-clause-turned : goal.returns-clause-turned
returns-clause-turned g c = rw (← c.self.view_is) c.commit_to.ensures.ok

pub returns-clause-whole : goal.returns-clause-whole
returns-clause-whole g c = rw (← c.self.view_is) c.commit_to.ensures.whole
