use Rattle.std.proofs.Common.{◌≡◌, ◌++◌, take}
use Rattle.std.specs.List.{AllByRecursion}
use Rattle.hub_format.specs.Pieces.{IsSized, all_sized}
use Rattle.hub_format.proofs.pieces.push_ids.Given as goal

abbrev pub invariant-loop-id : goal.invariant-loop-id
invariant-loop-id l = record {
  bytes : l.to.items ≡ l.fn.to.items ++ all_sized (take l.id-index l.ids);
  fits : AllByRecursion IsSized (take l.id-index l.ids);
}
