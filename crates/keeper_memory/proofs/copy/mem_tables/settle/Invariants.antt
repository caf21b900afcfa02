use Rattle.std.proofs.Common.{◌≡◌, ◌++◌, take, drop}
use Rattle.keeper_memory.specs.copy.Changes.{settled_first}
use Rattle.keeper_memory.proofs.copy.mem_tables.settle.Given as goal

abbrev pub invariant-loop-place : goal.invariant-loop-place
invariant-loop-place l = record {
  same : l.entries ≡ l.fn.entries;
  before : settled_first l.settled l.fn.entries ≡ take l.place l.fn.entries ++ settled_first l.settled (drop l.place l.fn.entries);
}
