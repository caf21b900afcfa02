use Rattle.hub_core.specs.Standing.{KeeperFits}
use Rattle.provider_tests.proofs.streams.assert_all.Given as goal

abbrev pub invariant-loop-at : goal.invariant-loop-at
invariant-loop-at g l = KeeperFits (g.H.HubKeeper.stands_for l.keeper) l.hub
