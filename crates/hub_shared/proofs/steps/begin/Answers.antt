use Rattle.std.proofs.Common.{◌≡◌, rules}
use Rattle.hub_shared.proofs.Calls.{same_reloads}
use Rattle.hub_shared.proofs.steps.begin.Goals as goal

pub returns-then-not-done-clause-reloads : goal.returns-then-not-done-clause-reloads
returns-then-not-done-clause-reloads g c =
    let same : c.publish-publisher.result.0 ≡ c.args.publisher = search rules in
    same_reloads c.args.publisher c.publish-publisher.result.0 c.args.hub.now c.args.hub.now (g.H.HubKeeper.fault_count c.args.keeper.now) (g.H.HubKeeper.fault_count c.args.keeper.now) same
