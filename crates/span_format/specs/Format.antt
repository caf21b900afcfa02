-- The items of a hub's state in format 2: each row from the version in which it came until the next one of its kind and
-- id.
use Rattle.std.specs.Prelude.{◌≡◌, ◌≤◌, ◌==◌, ℕ, List, [], ◌∷◌, ◌++◌, map, if◌then◌else◌}
use Rattle.std.specs.FinMap.{from_entries}
use Rattle.std.specs.List.{AllByRecursion}
use Rattle.std.specs.Option.{ForSome}
use Rattle.item_maps.specs.Items.{Items}
use Rattle.keeper_memory.specs.Kept.{KeptState, kept_by}
use Rattle.keeper_memory.specs.declared.hub_commit.HubCommit.{HubCommit}
use Rattle.roster_types.specs.Keys.{Key}
use Rattle.version_core.specs.Changes.{change_key}
use Rattle.version_core.specs.Tables.{AreTables}
use Rattle.version_core.specs.declared.change.BaseVersion.{BaseVersion}
use Rattle.version_core.specs.declared.change.Change.{Change}
use Rattle.version_core.specs.declared.hub_tables.HubTables.{HubTables}
use Rattle.version_core.specs.declared.row_change.RowChange.{RowChange}
use Rattle.hub_format.specs.Areas.{format_area, grants_area, marks_area, names_area, spans_area, state_area}
use Rattle.hub_format.specs.Areas.{versions_area}
use Rattle.hub_format.specs.Format.{Entry, Fit, FitsCommit, format_entry, grants_under, mark_entry, of_changes}
use Rattle.hub_format.specs.Format.{own_grants, own_version, state_entry, written_format}
use Rattle.hub_format.specs.Pieces.{HasNoZero, key_label, number, row_body}

-- a row, and the number of the version in which it came
pub record Span : Type 0 where
  pub first : ℕ
  pub change : RowChange

abbrev pub span_key : Span → Key
span_key s = change_key s.change

-- a kind, an id and a 0, then that number
abbrev pub span_label : Key → ℕ → List ℕ
span_label key first = key_label key ++ 0 ∷ number first

abbrev pub span_entry : Span → Entry
span_entry s = (span_label (span_key s) s.first, row_body s.change)

-- what a row has in the area of spans, where it came in this version
abbrev pub row_span : ℕ → RowChange → Entry
row_span first row = (span_label (change_key row) first, row_body row)

abbrev pub spans_from : ℕ → List RowChange → List Span
spans_from first rows = map (λ row. record { first = first; change = row }) rows

-- what a change has in the area of spans, and in that of its rows' names
abbrev pub own_spans : Change → List Entry
own_spans change = map span_entry (spans_from change.version change.rows)

abbrev pub name_entry : ℕ → RowChange → Entry
name_entry version row = (number version ++ key_label (change_key row), [])

abbrev pub own_names : Change → List Entry
own_names change = map (name_entry change.version) change.rows

-- the entries of each area, by the spans of the base's rows
abbrev pub area_in : List Span → HubTables → ℕ → List Entry
area_in base t area =
    if area == format_area then format_entry written_format ∷ []
    else if area == state_area then state_entry t.keep t.base ∷ []
    else if area == versions_area then of_changes own_version t.changes
    else if area == grants_area then of_changes own_grants t.changes ++ grants_under t.base.number t.base.grants
    else if area == marks_area then map mark_entry t.marks
    else if area == spans_area then of_changes own_spans t.changes ++ map span_entry base
    else if area == names_area then of_changes own_names t.changes
    else []

abbrev pub items_in : List Span → HubTables → Items
items_in base t area = from_entries (area_in base t area)

-- spans of the rows of a version, none of which came later
pub record AreSpans (spans : List Span) (version : BaseVersion) : Type 0 where
  pub rows : map (λ s. s.change) spans ≡ version.rows
  pub firsts : AllByRecursion (λ s. s.first ≤ version.number) spans

-- ids have no 0, so labels stand in the order of kinds and ids
abbrev pub HasPlainId : RowChange → Type 0
HasPlainId row = HasNoZero row.row.id

abbrev pub HasPlainIds : Change → Type 0
HasPlainIds change = AllByRecursion HasPlainId change.rows

pub record FitSpans (t : HubTables) : Type 0 where
  pub base : AllByRecursion HasPlainId t.base.rows
  pub changes : AllByRecursion HasPlainIds t.changes

pub record FitsSpanCommit (commit : HubCommit) : Type 0 where
  pub fits : FitsCommit commit
  pub plain : ForSome commit.change HasPlainIds

-- items that keep a state, in format 2
pub record KeepSpans (items : Items) (state : KeptState) : Type 0 where
  pub tables : HubTables
  pub base : List Span
  pub stored : items ≡ items_in base tables
  pub spans : AreSpans base tables.base
  pub same : state ≡ kept_by tables
  pub are : AreTables tables
  pub fit : Fit tables
  pub plain : FitSpans tables
