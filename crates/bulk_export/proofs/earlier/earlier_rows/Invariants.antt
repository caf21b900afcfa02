use Rattle.std.proofs.Common.{◌≡◌, map, take}
use Rattle.bulk_export.specs.Steps.{set_row}
use Rattle.bulk_export.proofs.earlier.earlier_rows.Given as goal

abbrev pub invariant-loop-listed : goal.invariant-loop-listed
invariant-loop-listed l = map set_row l.earlier.items ≡ take l.listed-index l.rows
