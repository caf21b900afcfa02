use Rattle.hub_core.specs.Standing.{KeeperFits}
use Rattle.version_tests.proofs.runs.take_all.Given as goal

abbrev pub invariant-loop-turn : goal.invariant-loop-turn
invariant-loop-turn g l = KeeperFits (g.H.HubKeeper.stands_for l.keeper) l.hub
