-- What the items of tables tell, version by version.
use Rattle.std.proofs.Common.{◌≡◌, ◌+◌, ◌≤◌, ◌<◌, ◌^◌, ℕ, List, [], ◌∷◌, ◌++◌, map, true, Option, None, Some, refl, ap}
use Rattle.std.proofs.Common.{◌∙◌, subst, append-nil, append_assoc, arith}
use Rattle.std.specs.FinMap.{is_sorted}
use Rattle.std.specs.List.{AllByRecursion}
use Rattle.std.specs.Option.{ForSome}
use Rattle.item_maps.specs.Items.{Items, bytes_cmp, is_between, listed}
use Rattle.roster_base.specs.Order.{RiseBy}
use Rattle.roster_values.specs.Kinds.{place_of_kind}
use Rattle.roster_values.specs.declared.kind.Kind.{Kind}
use Rattle.roster_values.specs.declared.kind.Kind.TheVariants.{Orgs}
use Rattle.version_core.specs.Changes.{AreChanges}
use Rattle.version_core.specs.Grants.{caller_of}
use Rattle.version_core.specs.Table.{LeadOn}
use Rattle.version_core.specs.Tables.{AreTables}
use Rattle.version_core.specs.Version.{IsVersion, after, last_version, versions_from}
use Rattle.version_core.specs.declared.change.BaseVersion.{BaseVersion}
use Rattle.version_core.specs.declared.change.Change.{Change}
use Rattle.version_core.specs.declared.grant_row.GrantRow.{GrantRow}
use Rattle.version_core.specs.declared.row_change.RowChange.{RowChange}
use Rattle.version_core.specs.declared.hub_tables.HubTables.{HubTables}
use Rattle.version_core.specs.declared.mark.MarkRow.{MarkRow}
use Rattle.version_core.proofs.TableLemmas.{base_meets}
use Rattle.version_core.proofs.VersionLemmas.{AllByRecursion-push}
use Rattle.hub_format.specs.Areas.{base_rows_area, change_rows_area, format_area, grants_area, marks_area, state_area, versions_area}
use Rattle.hub_format.specs.Format.{Entry, Fit, FitsChange, FitsGrant, FitsMark, first_format, format_entry, grants_under, items_of}
use Rattle.hub_format.specs.Format.{listed_of, mark_entry, of_changes, own_grants, own_rows, own_version, rows_under}
use Rattle.hub_format.specs.Format.{some_grants, state_entry, where_label}
use Rattle.hub_format.specs.Pieces.{HasNoZero, StaysBelowEnd, end_byte, labels_end, mark_label, number}
use Rattle.hub_format.proofs.Encodes.{rise_of}
use Rattle.hub_format.proofs.Endings.{grants_rise, marks_rise}
use Rattle.hub_format.proofs.EntryMaps.{where-append, where_all, where_none}
use Rattle.hub_format.proofs.Folding.{IsOf, grants_are_of, own_are_of, rows_are_of}
use Rattle.hub_format.proofs.Listing.{all_of, listed_where, none_of, none_there, one_there, rows_rise}
use Rattle.hub_format.proofs.Orders.{less_is}

-- what passes behind a version's number
abbrev pub behind_version : ℕ → List Entry → List Entry
behind_version version es = where_label (is_between (number version) (number (version + 1))) es

-- the number of the newest version
abbrev pub newest_from : ℕ → List Change → ℕ
newest_from n [] = n
newest_from n (change ∷ changes) = newest_from change.version changes

abbrev pub AreSmall : List Change → Type 0
AreSmall changes = AllByRecursion (λ change. change.version ≤ last_version) changes

-- none of the changes is of this version
abbrev AreOthers : ℕ → List Change → Type 0
AreOthers version changes = AllByRecursion (λ other. (other.version < 2 ^ 64) × (other.version ≡ version → ⊥)) changes

later_others : (version n : ℕ) (changes : List Change) → version ≤ n → LeadOn n changes → AreSmall changes → AreOthers version changes
later_others version n [] le lead small = tt
later_others version n (change ∷ changes) le lead small =
    let next = lead.0 in
    let fits = small.0 in
    ((omega (arith, fits), λ same. absurd (omega (arith, le, next, same))), later_others version change.version changes (omega (arith, le, next)) lead.1 small.1)

earlier_others : (version n : ℕ) (changes : List Change) → n < version → n ≤ last_version → AllByRecursion (λ change. change.version ≤ n) changes → AreOthers version changes
earlier_others version n [] lt le small = tt
earlier_others version n (change ∷ changes) lt le small =
    let here = small.0 in
    ((omega (arith, here, le), λ same. absurd (omega (arith, here, lt, same))), earlier_others version n changes lt le small.1)

up_to : (m n : ℕ) (changes : List Change) → m ≤ n → AllByRecursion (λ change. change.version ≤ m) changes → AllByRecursion (λ change. change.version ≤ n) changes
up_to m n [] le all = tt
up_to m n (change ∷ changes) le all = let here = all.0 in (omega (arith, here, le), up_to m n changes le all.1)

-- the versions of changes are no greater than the newest
all_up_to : (n : ℕ) (changes : List Change) → LeadOn n changes → (n ≤ newest_from n changes) × AllByRecursion (λ change. change.version ≤ newest_from n changes) changes
all_up_to n [] lead = (omega arith, tt)
all_up_to n (change ∷ changes) lead =
    let next = lead.0 in
    let rest = all_up_to change.version changes lead.1 in
    let le = rest.0 in
    (omega (arith, next, le), (le, rest.1))

small_newest : (n : ℕ) (changes : List Change) → n ≤ last_version → AreSmall changes → newest_from n changes ≤ last_version
small_newest n [] le small = le
small_newest n (change ∷ changes) le small = small_newest change.version changes small.0 small.1

-- each change has what stands behind its version
module _ (own : Change → List Entry) (is_of : (change : Change) → AllByRecursion (IsOf change.version) (own change)) where
  pub each_there : (before changes : List Change) (n : ℕ) → AllByRecursion (λ change. change.version ≤ n) before → n ≤ last_version → LeadOn n changes → AreSmall changes
      → AllByRecursion (λ change. behind_version change.version (of_changes own (before ++ changes)) ≡ own change) changes
  each_there before [] n low le lead small = tt
  each_there before (change ∷ changes) n low le lead small =
      let next = lead.0 in
      let fits = small.0 in
      let lower = AllByRecursion-push (λ other. other.version ≤ change.version) before change (up_to n change.version before (omega (arith, next)) low) (omega arith) in
      let rest = each_there (before ++ change ∷ []) changes change.version lower fits lead.1 small.1 in (
        one_there own is_of before changes change (omega (arith, fits)) (earlier_others change.version n before (omega (arith, next)) le low) (later_others change.version change.version changes (omega arith) lead.1 small.1),
        subst (λ all. AllByRecursion (λ other. behind_version other.version (of_changes own all) ≡ own other) changes) (append_assoc before (change ∷ []) changes) rest,
      )

-- a change is told by what is listed behind its version
pub record IsToldBy (m : Items) (change : Change) : Type 0 where
  pub version : listed_of versions_area change.version m ≡ own_version change
  pub rows : listed_of change_rows_area change.version m ≡ own_rows change
  pub grants : listed_of grants_area change.version m ≡ own_grants change

pub small_from : (base : BaseVersion) (changes : List Change) → AllByRecursion IsVersion (versions_from base changes) → AreSmall changes
small_from base [] are = tt
small_from base (change ∷ changes) are = ((base_meets IsVersion (after base change) changes are.1).number, small_from (after base change) changes are.1)

rising_from : (base : BaseVersion) (changes : List Change) → AllByRecursion IsVersion (versions_from base changes) → AllByRecursion (λ change. ForSome change.grants (RiseBy caller_of)) changes
rising_from base [] are = tt
rising_from base (change ∷ changes) are =
    (rise_of change.grants base.grants (base_meets IsVersion (after base change) changes are.1).grants.rise, rising_from (after base change) changes are.1)

callers_of : (grants : List GrantRow) → AllByRecursion FitsGrant grants → AllByRecursion (λ row. HasNoZero row.caller) grants
callers_of [] fits = tt
callers_of (row ∷ grants) fits = (fits.0.caller, callers_of grants fits.1)

some_rise : (version : ℕ) (grants : Option (List GrantRow)) → ForSome grants (AllByRecursion FitsGrant) → ForSome grants (RiseBy caller_of) → is_sorted bytes_cmp (some_grants version grants) ≡ true
some_rise version None fits rise = refl
some_rise version (Some grants) fits rise = grants_rise version grants (callers_of grants (fits grants refl)) (rise grants refl)

-- the tables' items
module _ (t : HubTables) (are : AreTables t) (fit : Fit t) where
  small : AreSmall t.changes
  small = small_from t.base t.changes are.versions

  base_small : t.base.number ≤ last_version
  base_small = (base_meets IsVersion t.base t.changes are.versions).number

  there : (own : Change → List Entry) → ((change : Change) → AllByRecursion (IsOf change.version) (own change)) → AllByRecursion (λ change. behind_version change.version (of_changes own t.changes) ≡ own change) t.changes
  there own is_of = each_there own is_of [] t.changes t.base.number tt base_small are.lead small

  abbrev base_grants : List Entry
  base_grants = grants_under t.base.number t.base.grants

  -- behind the base's number stand the base's grants
  base_alone : behind_version t.base.number (of_changes own_grants t.changes ++ base_grants) ≡ base_grants
  base_alone =
      let le = base_small in
      where-append (is_between (number t.base.number) (number (t.base.number + 1))) (of_changes own_grants t.changes) base_grants
      ∙ ap (λ es. es ++ behind_version t.base.number base_grants) (none_there own_grants (λ change. own_are_of change.version change.grants) t.base.number (omega (arith, le)) t.changes (later_others t.base.number t.base.number t.changes (omega arith) are.lead small))
      ∙ where_all (is_between (number t.base.number) (number (t.base.number + 1))) base_grants (all_of own_grants (λ change. own_are_of change.version change.grants) t.base.number (omega (arith, le)) base_grants (grants_are_of t.base.number t.base.grants))

  pub base_grants_told : listed_of grants_area t.base.number (items_of t) ≡ base_grants
  base_grants_told =
      listed_where (is_between (number t.base.number) (number (t.base.number + 1))) (of_changes own_grants t.changes ++ base_grants) base_grants base_alone
      (grants_rise t.base.number t.base.grants (callers_of t.base.grants fit.grants) (base_meets IsVersion t.base t.changes are.versions).grants.rise)

  -- behind the number of a change nothing of the base
  without_base : (change : Change) → t.base.number < change.version → change.version ≤ last_version → behind_version change.version (of_changes own_grants t.changes) ≡ own_grants change
      → behind_version change.version (of_changes own_grants t.changes ++ base_grants) ≡ own_grants change
  without_base change lt le is =
      where-append (is_between (number change.version) (number (change.version + 1))) (of_changes own_grants t.changes) base_grants
      ∙ ap (λ es. es ++ behind_version change.version base_grants) is
      ∙ ap (λ es. own_grants change ++ es) (where_none (is_between (number change.version) (number (change.version + 1))) base_grants
      (none_of own_grants (λ other. own_are_of other.version other.grants) change.version t.base.number (omega (arith, le)) (omega (arith, lt, le)) (λ same. absurd (omega (arith, lt, same))) base_grants (grants_are_of t.base.number t.base.grants)))
      ∙ append-nil (own_grants change)

  one_told : (change : Change) → t.base.number < change.version → change.version ≤ last_version → AreChanges change.rows → ForSome change.grants (RiseBy caller_of) → FitsChange change
      → behind_version change.version (of_changes own_version t.changes) ≡ own_version change → behind_version change.version (of_changes own_rows t.changes) ≡ own_rows change
      → behind_version change.version (of_changes own_grants t.changes) ≡ own_grants change → IsToldBy (items_of t) change
  one_told change lt le are_rows rise fits version rows grants = record {
    version = listed_where (is_between (number change.version) (number (change.version + 1))) (of_changes own_version t.changes) (own_version change) version refl;
    rows = listed_where (is_between (number change.version) (number (change.version + 1))) (of_changes own_rows t.changes) (own_rows change) rows (rows_rise (number change.version) change.rows are_rows);
    grants = listed_where (is_between (number change.version) (number (change.version + 1))) (of_changes own_grants t.changes ++ base_grants) (own_grants change) (without_base change lt le grants) (some_rise change.version change.grants fits.grants rise);
  }

  each_told : (n : ℕ) (changes : List Change) → t.base.number ≤ n → LeadOn n changes → AreSmall changes → AllByRecursion (λ change. AreChanges change.rows) changes
      → AllByRecursion (λ change. ForSome change.grants (RiseBy caller_of)) changes → AllByRecursion FitsChange changes
      → AllByRecursion (λ change. behind_version change.version (of_changes own_version t.changes) ≡ own_version change) changes
      → AllByRecursion (λ change. behind_version change.version (of_changes own_rows t.changes) ≡ own_rows change) changes
      → AllByRecursion (λ change. behind_version change.version (of_changes own_grants t.changes) ≡ own_grants change) changes
      → AllByRecursion (IsToldBy (items_of t)) changes
  each_told n [] le lead fits each rise fit_each versions rows grants = tt
  each_told n (change ∷ changes) le lead fits each rise fit_each versions rows grants =
      let next = lead.0 in
      (one_told change (omega (arith, le, next)) fits.0 each.0 rise.0 fit_each.0 versions.0 rows.0 grants.0, each_told change.version changes (omega (arith, le, next)) lead.1 fits.1 each.1 rise.1 fit_each.1 versions.1 rows.1 grants.1)

  pub changes_told : AllByRecursion (IsToldBy (items_of t)) t.changes
  changes_told =
      each_told t.base.number t.changes (omega arith) are.lead small are.changes (rising_from t.base t.changes are.versions) fit.changes
      (there own_version (λ change. (([], refl), tt))) (there own_rows (λ change. rows_are_of change.version change.rows)) (there own_grants (λ change. own_are_of change.version change.grants))

  -- behind the number after the newest stands nothing
  pub none_told : listed_of versions_area (newest_from t.base.number t.changes + 1) (items_of t) ≡ []
  none_told =
      let newest = newest_from t.base.number t.changes in
      let le = small_newest t.base.number t.changes base_small small in
      listed_where (is_between (number (newest + 1)) (number (newest + 1 + 1))) (of_changes own_version t.changes) []
      (none_there own_version (λ change. (([], refl), tt)) (newest + 1) (omega (arith, le)) t.changes (earlier_others (newest + 1) newest t.changes (omega arith) le (all_up_to t.base.number t.changes are.lead).1)) refl

-- the format and the state stand alone in their areas
pub format_told : (t : HubTables) → listed format_area [] (0 ∷ []) (items_of t) ≡ format_entry first_format ∷ []
format_told t = listed_where (is_between [] (0 ∷ [])) (format_entry first_format ∷ []) (format_entry first_format ∷ []) refl refl

pub state_told : (t : HubTables) → listed state_area [] (0 ∷ []) (items_of t) ≡ state_entry t.keep t.base ∷ []
state_told t = listed_where (is_between [] (0 ∷ [])) (state_entry t.keep t.base ∷ []) (state_entry t.keep t.base ∷ []) refl refl

-- the rows of the base lie below 255, where no kind has its place
pub row_below : (kind : Kind) (id : List ℕ) → is_between [] labels_end (place_of_kind kind ∷ id) ≡ true
row_below Orgs id = refl
row_below _ id = refl

rows_below : (rows : List RowChange) → AllByRecursion (λ e. is_between [] labels_end e.0 ≡ true) (rows_under [] rows)
rows_below [] = tt
rows_below (row ∷ rows) = (row_below row.row.kind row.row.id, rows_below rows)

pub base_rows_told : (t : HubTables) → AreTables t → listed base_rows_area [] labels_end (items_of t) ≡ rows_under [] t.base.rows
base_rows_told t are =
    listed_where (is_between [] labels_end) (rows_under [] t.base.rows) (rows_under [] t.base.rows) (where_all (is_between [] labels_end) (rows_under [] t.base.rows) (rows_below t.base.rows))
    (rows_rise [] t.base.rows (base_meets IsVersion t.base t.changes are.versions).rows)

-- the marks lie below 255, where no caller begins
mark_below : (caller : List ℕ) (n : ℕ) → StaysBelowEnd caller → is_between [] labels_end (mark_label (caller, n)) ≡ true
mark_below [] n below = refl
mark_below (b ∷ caller) n below = rw (less_is b end_byte below.0) refl

marks_below : (marks : List MarkRow) → AllByRecursion FitsMark marks → AllByRecursion (λ e. is_between [] labels_end e.0 ≡ true) (map mark_entry marks)
marks_below [] fits = tt
marks_below (mark ∷ marks) fits = (mark_below mark.caller mark.number fits.0.below, marks_below marks fits.1)

pub marks_told : (t : HubTables) → AreTables t → Fit t → listed marks_area [] labels_end (items_of t) ≡ map mark_entry t.marks
marks_told t are fit =
    listed_where (is_between [] labels_end) (map mark_entry t.marks) (map mark_entry t.marks) (where_all (is_between [] labels_end) (map mark_entry t.marks) (marks_below t.marks fit.marks))
    (marks_rise t.marks fit.marks are.marks.rise)
