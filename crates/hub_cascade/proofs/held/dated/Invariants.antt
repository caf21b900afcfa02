use Rattle.std.proofs.Common.{◌≡◌, ◌++◌, length, map}
use Rattle.std.specs.Vec.Iter.{into_iter_items, into_iter_len}
use Rattle.hub_cascade.specs.Steps.{dated}
use Rattle.hub_cascade.proofs.held.dated.Given as goal

-- the rows so far, each with its date
abbrev pub invariant-loop-row : goal.invariant-loop-row
invariant-loop-row l = record {
  whole : l.yielded ++ into_iter_items l.row-iterator ≡ l.fn.rows;
  listed : l.listed ≡ map dated l.yielded;
  left : into_iter_len l.row-iterator ≡ length (into_iter_items l.row-iterator);
}
