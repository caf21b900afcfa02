use Rattle.std.proofs.Common.{◌≡◌, List, map, take}
use Rattle.std.specs.List.{AllByRecursion}
use Rattle.keeper_memory.specs.copy.Lists.{IsList}
use Rattle.item_maps.specs.Edits.{entry_of}
use Rattle.roster_types.specs.Records.{Record}
use Rattle.copy_format.specs.Format.{IsRowOf, rows_under}
use Rattle.copy_format.proofs.read_rows.rows_of.Given as goal

abbrev pub invariant-loop-item : goal.invariant-loop-item
invariant-loop-item l = ((rows : List Record) → AllByRecursion (IsRowOf l.kind) rows → map entry_of l.items ≡ rows_under rows → l.found.items ≡ take l.item-index rows) × IsList l.kind l.found.items
