use Rattle.std.proofs.Common.{◌≡◌, ◌+◌, ◌++◌, length}
use Rattle.std.specs.List.{AllByRecursion}
use Rattle.hub_format.specs.Pieces.{IsSized, all_sized}
use Rattle.hub_format.proofs.read_grants.ids_at.Given as goal

abbrev pub invariant-loop-left : goal.invariant-loop-left
invariant-loop-left l = record {
  ids : l.bytes ≡ all_sized l.ids.items ++ l.rest;
  count : length l.ids.items + l.left ≡ l.count;
  small : AllByRecursion IsSized l.ids.items;
}

abbrev pub decreases-loop-left : goal.decreases-loop-left
decreases-loop-left l = l.left
