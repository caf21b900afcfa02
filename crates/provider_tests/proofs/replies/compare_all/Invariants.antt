use Rattle.hub_core.specs.Standing.{KeeperFits}
use Rattle.provider_tests.proofs.replies.compare_all.Given as goal

abbrev pub invariant-loop-case : goal.invariant-loop-case
invariant-loop-case g l = KeeperFits (g.H.HubKeeper.stands_for l.keeper) l.hub
