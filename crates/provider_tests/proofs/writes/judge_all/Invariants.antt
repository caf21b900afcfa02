use Rattle.hub_core.specs.Standing.{KeeperFits}
use Rattle.provider_tests.proofs.writes.judge_all.Given as goal

abbrev pub invariant-loop-asked : goal.invariant-loop-asked
invariant-loop-asked g l = KeeperFits (g.H.HubKeeper.stands_for l.keeper) l.hub
