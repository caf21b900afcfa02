-- The items in which a hub's state is kept.
use Rattle.std.specs.Prelude.{◌≡◌, ◌<◌, ◌==◌, ◌^◌, ◌+◌, ℕ, Bool, List, [], ◌∷◌, ◌++◌, Option, None, Some, filter, map}
use Rattle.std.specs.Prelude.{if◌then◌else◌}
use Rattle.std.specs.FinMap.{from_entries}
use Rattle.std.specs.Int.{w64}
use Rattle.std.specs.Int.RustNames.{FitsSigned}
use Rattle.std.specs.List.{AllByRecursion}
use Rattle.std.specs.Option.{ForSome}
use Rattle.item_maps.specs.Items.{Items, listed}
use Rattle.keeper_memory.specs.Kept.{KeptState, kept_by}
use Rattle.keeper_memory.specs.declared.hub_commit.HubCommit.{HubCommit}
use Rattle.version_core.specs.Changes.{change_key}
use Rattle.version_core.specs.Marks.{mark_key}
use Rattle.version_core.specs.Tables.{AreTables}
use Rattle.version_core.specs.Version.{empty_version}
use Rattle.version_core.specs.declared.change.BaseVersion.{BaseVersion}
use Rattle.version_core.specs.declared.change.Change.{Change}
use Rattle.version_core.specs.declared.grant_row.GrantRow.{GrantRow}
use Rattle.version_core.specs.declared.hub_tables.HubTables.{HubTables}
use Rattle.version_core.specs.declared.mark.MarkRow.{MarkRow}
use Rattle.version_core.specs.declared.row_change.RowChange.{RowChange}
use Rattle.hub_format.specs.Areas.{base_rows_area, change_rows_area, format_area, grants_area, marks_area, state_area}
use Rattle.hub_format.specs.Areas.{versions_area}
use Rattle.hub_format.specs.Pieces.{AreSized, HasNoZero, IsReadBack, IsSized, caller_label, change_body, grant_body}
use Rattle.hub_format.specs.Pieces.{StaysBelowEnd, key_label, mark_body, mark_label, moment, number, row_body}

-- version 0 alone
abbrev pub new_tables : ℕ → HubTables
new_tables keep = record { keep = keep; base = empty_version; changes = []; marks = [] }

-- a label and the body under it
abbrev pub Entry : Type 0
Entry = List ℕ × List ℕ

-- the entries whose labels pass a test
abbrev pub where_label : (List ℕ → Bool) → List Entry → List Entry
where_label test entries = filter (λ e. test e.0) entries

-- what is listed behind a version's number in an area
abbrev pub listed_of : ℕ → ℕ → Items → List Entry
listed_of area version m = listed area (number version) (number (version + 1)) m

-- the format that older programs wrote, and the one in which stores are written now
abbrev pub first_format : ℕ
first_format = 1

abbrev pub written_format : ℕ
written_format = 2

-- the number of a format
abbrev pub format_entry : ℕ → Entry
format_entry n = ([], number n)

abbrev pub state_entry : ℕ → BaseVersion → Entry
state_entry keep base = ([], number keep ++ number base.number ++ moment base.moment)

-- a row behind a prefix: none in the base, and the version in a change
abbrev pub row_entry : List ℕ → RowChange → Entry
row_entry prefix change = (prefix ++ key_label (change_key change), row_body change)

abbrev pub grant_entry : ℕ → GrantRow → Entry
grant_entry version row = (number version ++ caller_label row.caller, grant_body row.grant)

abbrev pub version_entry : Change → Entry
version_entry change = (number change.version, change_body change)

abbrev pub mark_entry : MarkRow → Entry
mark_entry mark = (mark_label (mark_key mark), mark_body mark)

abbrev pub rows_under : List ℕ → List RowChange → List Entry
rows_under prefix rows = map (row_entry prefix) rows

abbrev pub grants_under : ℕ → List GrantRow → List Entry
grants_under version grants = map (grant_entry version) grants

-- the entries of a change: one for itself, its rows, and its grants where it has any
abbrev pub own_version : Change → List Entry
own_version change = version_entry change ∷ []

abbrev pub own_rows : Change → List Entry
own_rows change = rows_under (number change.version) change.rows

abbrev pub some_grants : ℕ → Option (List GrantRow) → List Entry
some_grants version None = []
some_grants version (Some grants) = grants_under version grants

abbrev pub own_grants : Change → List Entry
own_grants change = some_grants change.version change.grants

-- what the changes have in an area: the newest change first
abbrev pub of_changes : (Change → List Entry) → List Change → List Entry
of_changes own [] = []
of_changes own (change ∷ changes) = of_changes own changes ++ own change

-- the entries of each area
abbrev pub area_of : HubTables → ℕ → List Entry
area_of t area =
    if area == format_area then format_entry first_format ∷ []
    else if area == state_area then state_entry t.keep t.base ∷ []
    else if area == base_rows_area then rows_under [] t.base.rows
    else if area == versions_area then of_changes own_version t.changes
    else if area == change_rows_area then of_changes own_rows t.changes
    else if area == grants_area then of_changes own_grants t.changes ++ grants_under t.base.number t.base.grants
    else if area == marks_area then map mark_entry t.marks
    else []

abbrev pub items_of : HubTables → Items
items_of t area = from_entries (area_of t area)

-- what is asked of values beyond what their types keep, for them to be found again
pub record FitsGrant (row : GrantRow) : Type 0 where
  pub caller : HasNoZero row.caller
  pub token : IsSized row.grant.token
  pub schools : AreSized row.grant.schools
  pub since : row.grant.since < 2 ^ 64

pub record FitsChange (change : Change) : Type 0 where
  pub moment : FitsSigned w64 change.moment
  pub rows : AllByRecursion IsReadBack change.rows
  pub grants : ForSome change.grants (AllByRecursion FitsGrant)

pub record FitsMark (mark : MarkRow) : Type 0 where
  pub caller : HasNoZero mark.caller
  pub below : StaysBelowEnd mark.caller
  pub number : mark.number < 2 ^ 64
  pub id : IsSized mark.write.id
  pub body : IsSized mark.write.body
  pub version : mark.kept.version < 2 ^ 64

pub record FitsCommit (commit : HubCommit) : Type 0 where
  pub change : ForSome commit.change FitsChange
  pub mark : ForSome commit.mark FitsMark

pub record Fit (t : HubTables) : Type 0 where
  pub keep : t.keep < 2 ^ 64
  pub moment : FitsSigned w64 t.base.moment
  pub rows : AllByRecursion IsReadBack t.base.rows
  pub grants : AllByRecursion FitsGrant t.base.grants
  pub changes : AllByRecursion FitsChange t.changes
  pub marks : AllByRecursion FitsMark t.marks

-- items that keep a state
pub record Keep (items : Items) (state : KeptState) : Type 0 where
  pub tables : HubTables
  pub stored : items ≡ items_of tables
  pub same : state ≡ kept_by tables
  pub are : AreTables tables
  pub fit : Fit tables
