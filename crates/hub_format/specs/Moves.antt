-- Items of one version that become those of another.
use Rattle.std.specs.Prelude.{◌==◌, ℕ, List, [], ◌++◌, drop, map, if◌then◌else◌}
use Rattle.item_maps.specs.declared.item.Edit.{Edit}
use Rattle.hub_format.specs.Areas.{grants_area}
use Rattle.hub_format.specs.Edits.{puts}
use Rattle.hub_format.specs.Format.{Entry}
use Rattle.hub_format.specs.Pieces.{number, number_size}

-- behind another prefix, in place of a version's number
abbrev pub moved_to : List ℕ → Entry → Entry
moved_to prefix entry = (prefix ++ drop number_size entry.0, entry.1)

abbrev pub all_moved : List ℕ → List Entry → List Entry
all_moved prefix entries = map (moved_to prefix) entries

-- the base's grants go along where the version has none of its own
abbrev pub grants_moved : ℕ → ℕ → List Entry → List Edit
grants_moved flag version grants = if flag == 0 then puts grants_area (all_moved (number version) grants) else []
