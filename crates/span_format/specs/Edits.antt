-- The edits of a commit in format 2, and those by which a store of format 1 becomes one.
use Rattle.std.specs.Prelude.{ℕ, List, [], ◌∷◌, ◌++◌, Option, None, Some, drop, map, length, nat_lt, if◌then◌else◌}
use Rattle.item_maps.specs.declared.item.Edit.{Edit}
use Rattle.item_maps.specs.declared.item.Edit.TheVariants.{Clear}
use Rattle.keeper_memory.specs.declared.hub_commit.HubCommit.{HubCommit}
use Rattle.version_core.specs.Changes.{change_key}
use Rattle.version_core.specs.Order.{overlaid}
use Rattle.version_core.specs.Version.{after, empty_version}
use Rattle.version_core.specs.declared.change.BaseVersion.{BaseVersion}
use Rattle.version_core.specs.declared.change.Change.{Change}
use Rattle.version_core.specs.declared.hub_tables.HubTables.{HubTables}
use Rattle.version_core.specs.declared.row_change.RowChange.{RowChange}
use Rattle.hub_format.specs.Areas.{base_rows_area, change_rows_area, format_area, grants_area, names_area, spans_area}
use Rattle.hub_format.specs.Areas.{state_area, versions_area}
use Rattle.hub_format.specs.Edits.{clear_version, mark_edits, moved, put_at, puts}
use Rattle.hub_format.specs.Format.{Entry, format_entry, own_grants, state_entry, version_entry, written_format}
use Rattle.hub_format.specs.Pieces.{key_label, labels_end, number, number_size}
use Rattle.span_format.specs.Format.{Span, own_names, own_spans, span_entry, span_key, spans_from}

-- the format, and the state of version 0
abbrev pub first_edits : ℕ → List Edit
first_edits keep =
    put_at format_area (format_entry written_format) ∷ put_at state_area (state_entry keep empty_version) ∷ []

-- one change more
abbrev pub added : Change → List Edit
added change = put_at versions_area (version_entry change) ∷ puts spans_area (own_spans change)
    ++ puts names_area (own_names change) ++ puts grants_area (own_grants change)

-- takes away what the key of this label had before a version
abbrev pub hidden_under : ℕ → List ℕ → Edit
hidden_under version key = Clear spans_area (key ++ 0 ∷ number 0) (key ++ 0 ∷ number version)

abbrev pub hidden_by : ℕ → RowChange → Edit
hidden_by version row = hidden_under version (key_label (change_key row))

-- the same for keys that stand behind a version's number
abbrev pub hidden_names : ℕ → List Entry → List Edit
hidden_names version names = map (λ e. hidden_under version (drop number_size e.0)) names

-- the oldest change goes into the base: no row is put anew
abbrev pub folded : ℕ → BaseVersion → Change → List Edit
folded keep base oldest =
    put_at state_area (state_entry keep (after base oldest))
    ∷ map (hidden_by oldest.version) oldest.rows
    ++ moved oldest.version base.grants oldest.grants
    ++ clear_version versions_area oldest.version ∷ clear_version names_area oldest.version
    ∷ clear_version grants_area base.number ∷ []

-- the spans of the base once that change is in it
abbrev pub spans_after : List Span → Change → List Span
spans_after base oldest = overlaid span_key base (spans_from oldest.version oldest.rows)

abbrev pub let_go : ℕ → BaseVersion → List Change → List Edit
let_go keep base [] = []
let_go keep base (oldest ∷ changes) = if nat_lt keep (length (oldest ∷ changes)) then folded keep base oldest else []

abbrev pub change_edits : HubTables → Option Change → List Edit
change_edits t None = []
change_edits t (Some change) = added change ++ let_go t.keep t.base (t.changes ++ change ∷ [])

abbrev pub edits : HubTables → HubCommit → List Edit
edits t commit = change_edits t commit.change ++ mark_edits commit.mark

-- the spans and the names of changes, the oldest first
abbrev pub brought : List Change → List Edit
brought [] = []
brought (change ∷ changes) =
    (puts spans_area (own_spans change) ++ puts names_area (own_names change)) ++ brought changes

-- a store of format 1 becomes one of format 2: the base's rows came with the base, and the areas that held rows are
-- left empty
abbrev pub turn_edits : HubTables → List Edit
turn_edits t =
    put_at format_area (format_entry written_format)
    ∷ Clear base_rows_area [] labels_end ∷ Clear change_rows_area [] labels_end
    ∷ puts spans_area (map span_entry (spans_from t.base.number t.base.rows)) ++ brought t.changes
