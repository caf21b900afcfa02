-- The edits of which those of a commit are made.
use Rattle.std.specs.Prelude.{ℕ, ◌+◌, List, [], ◌∷◌, Option, None, Some, map}
use Rattle.item_maps.specs.declared.item.Edit.{Edit}
use Rattle.item_maps.specs.declared.item.Edit.TheVariants.{Clear, Put}
use Rattle.version_core.specs.declared.grant_row.GrantRow.{GrantRow}
use Rattle.version_core.specs.declared.mark.MarkRow.{MarkRow}
use Rattle.hub_format.specs.Areas.{grants_area, marks_area}
use Rattle.hub_format.specs.Format.{Entry, grants_under, mark_entry}
use Rattle.hub_format.specs.Pieces.{number}

abbrev pub put_at : ℕ → Entry → Edit
put_at area entry = Put area entry.0 entry.1

abbrev pub puts : ℕ → List Entry → List Edit
puts area entries = map (put_at area) entries

-- takes away what stands behind a version's number
abbrev pub clear_version : ℕ → ℕ → Edit
clear_version area version = Clear area (number version) (number (version + 1))

-- the grants of the base go to the next version, where they stay its grants
abbrev pub moved : ℕ → List GrantRow → Option (List GrantRow) → List Edit
moved version grants None = puts grants_area (grants_under version grants)
moved version grants (Some others) = []

abbrev pub mark_edits : Option MarkRow → List Edit
mark_edits None = []
mark_edits (Some mark) = put_at marks_area (mark_entry mark) ∷ []
