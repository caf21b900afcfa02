use Rattle.std.proofs.Common.{◌≡◌, drop}
use Rattle.sync_world.specs.Planned.{past_at}
use Rattle.sync_world.proofs.past.request_at.Given as goal

abbrev pub invariant-loop-made : goal.invariant-loop-made
invariant-loop-made l = past_at l.exchange l.past ≡ past_at l.exchange (drop l.made-index l.past)
