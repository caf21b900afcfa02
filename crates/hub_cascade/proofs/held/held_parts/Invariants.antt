use Rattle.std.proofs.Common.{◌≡◌, map, take}
use Rattle.hub_cascade.specs.Steps.{AreHeldParts, held_part}
use Rattle.keeper_memory.specs.copy.Copies.{Copy}
use Rattle.hub_cascade.proofs.held.held_parts.Given as goal

-- the parts of the kinds so far
abbrev pub invariant-loop-kind : goal.invariant-loop-kind
invariant-loop-kind g l = record {
  are : AreHeldParts (take l.kind-index l.kinds) l.parts;
  held : (c : Copy) → g.C.CopyKeeper.stands_for l.copy c → l.parts ≡ map (held_part c) (take l.kind-index l.kinds);
  same : (c : Copy) → g.C.CopyKeeper.stands_for l.copy c → g.C.CopyKeeper.stands_for l.fn.copy c;
  leads : g.C.CopyKeeper.leads l.fn.copy l.copy;
  count : g.C.CopyKeeper.fault_count l.copy ≡ g.C.CopyKeeper.fault_count l.fn.copy;
}
