use Rattle.std.proofs.Common.{◌≡◌, ◌∙◌, inl, refl, sym, true}
use Rattle.hub_shared.proofs.Calls.{asked_reloads, busy_reloads}
use Rattle.hub_shared.proofs.Stands.{added_stands, asked_outcome}
use Rattle.hub_shared.proofs.steps.reload.Goals as goal
use Rattle.hub_shared.proofs.steps.reload.Goals.{else-done, then-done}

pub returns-clause-standing : goal.returns-clause-standing
returns-clause-standing g c =
    let before = c.args.hub.now in
    let after = c.ready-asked.new.self in
    let k = g.H.HubKeeper.fault_count c.args.keeper.now in
    let k' = g.H.HubKeeper.fault_count c.ready-asked.new.keeper in
    let asked = c.ready-asked.ensures in
    let left : before.commit_open ≡ true = sym c.has_open_commit.ensures.is ∙ c.if-not-has_open_commit.false in
    let outcome = asked_outcome c.ready-asked.result before after k k' c.if-is_out_of_memory.ensures left (c.has_open_commit.ensures.left c.if-not-has_open_commit.false) (asked.told after.kept (inl refl)).0 asked.last asked.keeps asked.settled asked.err asked.cause asked.refused in
    rw c.settle-publisher.ensures.hub
    (added_stands g.N.Naming.opening g.N.Naming.count g.N.Naming.stood c.args.publisher before (g.H.HubKeeper.stands_for c.args.keeper.now) k c.requires.standing after (g.H.HubKeeper.stands_for c.ready-asked.new.keeper) k' asked.fits
    (λ now here. (now, (asked.told now (asked.fits now here)).1 here))
    c.settle-publisher.result.0 c.settle-publisher.result.1 outcome c.settle-publisher.ensures.pushed)

pub returns-clause-reloads : goal.returns-clause-reloads
returns-clause-reloads g c =
    let before = c.args.hub.now in
    let after = c.ready-asked.new.self in
    let k = g.H.HubKeeper.fault_count c.args.keeper.now in
    let k' = g.H.HubKeeper.fault_count c.ready-asked.new.keeper in
    let asked = c.ready-asked.ensures in
    let left : before.commit_open ≡ true = sym c.has_open_commit.ensures.is ∙ c.if-not-has_open_commit.false in
    let outcome = asked_outcome c.ready-asked.result before after k k' c.if-is_out_of_memory.ensures left (c.has_open_commit.ensures.left c.if-not-has_open_commit.false) (asked.told after.kept (inl refl)).0 asked.last asked.keeps asked.settled asked.err asked.cause asked.refused in
    let put = c.settle-publisher in
    elim c.if-done.branch [
      | then-done w ↦ rw w.told-is (asked_reloads c.args.publisher put.result.0 c.requires.none left asked.last put.result.1 outcome put.ensures.pushed c.ready-asked.result c.if-is_out_of_memory.ensures asked.settled asked.refused w.if-done.true put.ensures.hub)
      | else-done w ↦ rw w.told-is (busy_reloads c.args.publisher put.result.0 c.requires.none left asked.last put.result.1 outcome put.ensures.pushed put.new.hub)
    ]
