-- Stores that stand for the items of tables, and where these have their rows.
use Rattle.std.specs.Prelude.{◌≡◌, ◌<◌, ℕ, List, [], map, unwrap_or}
use Rattle.std.specs.BTreeMap.{BTreeMap, get}
use Rattle.std.specs.List.{AllByRecursion}
use Rattle.std.specs.Ordering.{nat_cmp}
use Rattle.item_maps.specs.Edits.{entry_of}
use Rattle.item_maps.specs.Items.{Items, listed}
use Rattle.item_maps.specs.declared.item.Item.{Item}
use Rattle.version_core.specs.Tables.{AreTables}
use Rattle.version_core.specs.declared.change.BaseVersion.{BaseVersion}
use Rattle.version_core.specs.declared.change.Change.{Change}
use Rattle.version_core.specs.declared.hub_tables.HubTables.{HubTables}
use Rattle.version_core.specs.declared.row_change.RowChange.{RowChange}
use Rattle.hub_format.specs.Areas.{base_rows_area, change_rows_area, grants_area, marks_area, spans_area, state_area}
use Rattle.hub_format.specs.Areas.{versions_area}
use Rattle.hub_format.specs.Format.{Entry, Fit, items_of, listed_of, own_rows, rows_under, where_label}
use Rattle.hub_format.specs.Pieces.{labels_end}
use Rattle.span_format.specs.Format.{AreSpans, FitSpans, Span, items_in, own_spans, span_entry}
use Rattle.span_format.specs.Reading.{FitsSpan, came_within}
use Rattle.keeper_sqlite.specs.declared.hub.rows.ChangeRows.{ChangeRows}
use Rattle.keeper_sqlite.specs.declared.hub.rows.ChangeRows.TheVariants.{Area, Laid}
use Rattle.keeper_sqlite.specs.declared.hub.rows.StoredRows.{StoredRows}
use Rattle.keeper_sqlite.specs.declared.hub.rows.StoredRows.TheVariants.{Areas, Spans}

-- a store that stands for items which, but for the format and the rows, are those of these tables
pub record HasTables (stand : Items → Type 0) (t : HubTables) : Type 0 where
  pub items : Items
  pub stands : stand items
  pub state : items state_area ≡ items_of t state_area
  pub versions : items versions_area ≡ items_of t versions_area
  pub grants : items grants_area ≡ items_of t grants_area
  pub marks : items marks_area ≡ items_of t marks_area
  pub are : AreTables t
  pub fit : Fit t

-- a store that stands for the items of these tables in format 2
pub record HasSpans (stand : Items → Type 0) (t : HubTables) : Type 0 where
  pub base : List Span
  pub stands : stand (items_in base t)
  pub spans : AreSpans base t.base
  pub are : AreTables t
  pub fit : Fit t
  pub plain : FitSpans t

-- the rows of a base: the items of their area, or the spans that came up to its version
abbrev pub TellBase : StoredRows → Items → BaseVersion → Type 0
TellBase Areas m base = listed base_rows_area [] labels_end m ≡ rows_under [] base.rows
TellBase Spans m base = (spans : List Span)
    × (where_label (came_within 0 base.number) (listed spans_area [] labels_end m) ≡ map span_entry spans)
    × AreSpans spans base

-- the rows of a change: the items behind its version in their area, or the spans that came in it
abbrev pub TellChange : StoredRows → Items → Change → Type 0
TellChange Areas m change = listed_of change_rows_area change.version m ≡ own_rows change
TellChange Spans m change =
    where_label (came_within change.version change.version) (listed spans_area [] labels_end m) ≡ own_spans change

-- the rows of the spans among these entries that came up to a version
abbrev pub AreMade : ℕ → List Entry → List RowChange → Type 0
AreMade base entries rows = (spans : List Span) → AllByRecursion FitsSpan spans
    → where_label (came_within 0 base) entries ≡ map span_entry spans → rows ≡ map (λ s. s.change) spans

-- the items that are laid out under a version
abbrev pub laid_at : BTreeMap ℕ (List Item) → ℕ → List Item
laid_at laid version = unwrap_or (get nat_cmp laid version) []

-- under each version behind the base lie the items that came in it
abbrev pub AreLaid : ℕ → List Entry → BTreeMap ℕ (List Item) → Type 0
AreLaid base entries laid = (v : ℕ) → base < v
    → where_label (came_within v v) (map entry_of (laid_at laid v)) ≡ where_label (came_within v v) entries

-- what is read of these entries of spans: the rows of the base, and the items that came behind it
pub record AreRead (base : ℕ) (entries : List Entry) (made : List RowChange)
    (laid : BTreeMap ℕ (List Item)) : Type 0 where
  pub rows : AreMade base entries made
  pub later : AreLaid base entries laid

-- the rows of a change, once the base's are read: as before, or among the items under its version
abbrev pub TellLater : ChangeRows → Items → Change → Type 0
TellLater Area m change = TellChange Areas m change
TellLater (Laid laid) m change =
    where_label (came_within change.version change.version) (map entry_of (laid_at laid change.version))
    ≡ own_spans change

-- a store that stands for items of these tables, in which each change's rows are told so
pub record HasChanges (stand : Items → Type 0) (tell : Items → Change → Type 0) (t : HubTables) : Type 0 where
  pub tables : HasTables stand t
  pub rows : AllByRecursion (tell tables.items) t.changes

-- a store that stands for items of these tables, which has their rows there
pub record HasRows (stand : Items → Type 0) (stored : StoredRows) (t : HubTables) : Type 0 where
  pub changes : HasChanges stand (TellChange stored) t
  pub base : TellBase stored changes.tables.items t.base
