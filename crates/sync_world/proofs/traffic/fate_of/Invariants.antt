use Rattle.std.proofs.Common.{◌≡◌, drop}
use Rattle.sync_world.specs.Planned.{fate_at, fate_from}
use Rattle.sync_world.proofs.traffic.fate_of.Given as goal

abbrev pub invariant-loop-plan : goal.invariant-loop-plan
invariant-loop-plan l = fate_from l.fate (drop l.plan-index l.planned) l.exchange ≡ fate_at l.planned l.exchange
