use Rattle.std.proofs.Common.{length}
use Rattle.sync_world.proofs.TrafficLemmas.{SoPassed}
use Rattle.sync_world.specs.Walks.{Walks}
use Rattle.sync_world.proofs.traffic.come_to_pass.Given as goal

abbrev pub invariant-events : goal.invariant-events
invariant-events l = record {
  walks : Walks l.fn.world l.world;
  so : SoPassed l.past l.at l.exchange l.fn.events.items l.events.items l.fn.world l.world l.fn.said.items l.said.items;
}

abbrev pub decreases-events : goal.decreases-events
decreases-events l = length l.events.items
