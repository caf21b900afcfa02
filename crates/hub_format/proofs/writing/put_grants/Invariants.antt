use Rattle.std.proofs.Common.{◌≡◌, ◌++◌, take}
use Rattle.std.specs.List.{AllByRecursion}
use Rattle.hub_format.specs.Areas.{grants_area}
use Rattle.hub_format.specs.Edits.{puts}
use Rattle.hub_format.specs.Format.{FitsGrant, grants_under}
use Rattle.hub_format.proofs.writing.put_grants.Given as goal

abbrev pub invariant-loop-row : goal.invariant-loop-row
invariant-loop-row l = record {
  edits : l.edits.items ≡ l.fn.edits.items ++ puts grants_area (grants_under l.version (take l.row-index l.grants));
  fits : AllByRecursion FitsGrant (take l.row-index l.grants);
}
