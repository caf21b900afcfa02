-- Items are those of one state at most.
use Rattle.std.proofs.Common.{◌≡◌, ◌<◌, ◌^◌, ◌+◌, ◌++◌, ◌∷◌, [], ℕ, List, Bool, true, false, map, None, Ok, Option}
use Rattle.std.proofs.Common.{Some, Result, drop, refl, sym, ap, ◌∙◌, subst, arith}
use Rattle.std.specs.FinMap.{entries}
use Rattle.std.specs.List.{AllByRecursion}
use Rattle.std.specs.Option.{ForSome}
use Rattle.item_maps.specs.Items.{Items}
use Rattle.keeper_memory.specs.Kept.{KeptState, kept_by}
use Rattle.roster_types.specs.Records.{Record}
use Rattle.row_json.specs.Json.{single_text}
use Rattle.row_json.specs.Reading.{row_of}
use Rattle.row_json.specs.declared.fault.JsonFault.{JsonFault}
use Rattle.std.specs.Prelude.{slice_index_or}
use Rattle.version_core.specs.Changes.{change_key}
use Rattle.version_core.specs.Marks.{mark_key}
use Rattle.version_core.specs.Table.{LeadOn}
use Rattle.version_core.specs.Tables.{AreTables}
use Rattle.version_core.specs.Version.{IsVersion}
use Rattle.version_core.specs.declared.change.Change.{Change}
use Rattle.version_core.specs.declared.grant_row.GrantRow.{GrantRow}
use Rattle.version_core.specs.declared.hub_tables.HubTables.{HubTables}
use Rattle.version_core.specs.declared.mark.MarkRow.{MarkRow}
use Rattle.version_core.specs.declared.row_change.RowChange.{RowChange}
use Rattle.version_core.proofs.TableLemmas.{base_meets}
use Rattle.hub_format.specs.Areas.{base_rows_area, change_rows_area, grants_area, marks_area, state_area, versions_area}
use Rattle.hub_format.specs.Format.{Entry, Fit, FitsChange, FitsGrant, FitsMark, Keep, grant_entry, grants_under}
use Rattle.hub_format.specs.Format.{items_of, listed_of, mark_entry, own_grants, own_rows, own_version, row_entry}
use Rattle.hub_format.specs.Format.{rows_under, some_grants, state_entry, version_entry}
use Rattle.hub_format.specs.Pieces.{IsReadBack, caller_label, change_body, flag, grant_body, has_grants, key_label}
use Rattle.hub_format.specs.Pieces.{mark_body, mark_label, number, row_body, schools_bytes, sized}
use Rattle.roster_values.proofs.KindLaws.{kind_from_place}
use Rattle.hub_format.proofs.Decoding.{moment_back, owner_back, same_ends, schools_back, sized_back, state_back}
use Rattle.hub_format.proofs.Endings.{marks_rise}
use Rattle.hub_format.proofs.Labels.{same_caller}
use Rattle.hub_format.proofs.Listing.{listed_sorted, rows_rise}
use Rattle.hub_format.proofs.Marking.{same_parts}
use Rattle.hub_format.proofs.Orders.{same_number}
use Rattle.hub_format.proofs.TableListings.{IsToldBy, base_grants_told, changes_told, newest_from, none_told}

-- lists whose entries are equal are equal, where each is
pub same_list : {X : Type 0} (entry : X → Entry) (P : X → Type 0) → ((x y : X) → P x → P y → entry x ≡ entry y → x ≡ y)
    → (xs ys : List X) → AllByRecursion P xs → AllByRecursion P ys → map entry xs ≡ map entry ys → xs ≡ ys
same_list entry P one [] [] fits_x fits_y same = refl
same_list entry P one [] (y ∷ ys) fits_x fits_y same = absurd cc
same_list entry P one (x ∷ xs) [] fits_x fits_y same = absurd cc
same_list entry P one (x ∷ xs) (y ∷ ys) fits_x fits_y same =
    let head : entry x ≡ entry y = cc in
    let tail : map entry xs ≡ map entry ys = cc in
    let first = one x y fits_x.0 fits_y.0 head in
    λ i. first i ∷ same_list entry P one xs ys fits_x.1 fits_y.1 tail i

first_of : List ℕ → ℕ
first_of xs = slice_index_or xs 0 0

same_row : (prefix : List ℕ) (x y : RowChange) → IsReadBack x → IsReadBack y → row_entry prefix x ≡ row_entry prefix y → x ≡ y
unfolding first_of
same_row prefix x y back_x back_y same =
    let labels : prefix ++ key_label (change_key x) ≡ prefix ++ key_label (change_key y) = ap (λ (e : Entry). e.0) same in
    let bodies : row_body x ≡ row_body y = ap (λ (e : Entry). e.1) same in
    let keys = (same_ends prefix prefix (key_label (change_key x)) (key_label (change_key y)) refl labels).1 in
    let kinds = kind_from_place x.row.kind y.row.kind (ap first_of keys) in
    let owners = owner_back x.owner y.owner (sized (single_text None x.row)) (sized (single_text None y.row)) back_x.owner back_y.owner bodies in
    let texts = sized_back (single_text None x.row) (single_text None y.row) [] [] back_x.text back_y.text (ap (λ xs. xs ++ []) owners.1) in
    let rows : ◌≡◌ {A = Result Record JsonFault} (Ok x.row) (Ok y.row) = sym back_x.row ∙ ap (row_of x.row.kind) texts.0 ∙ ap (λ k. row_of k (single_text None y.row)) kinds ∙ back_y.row in
    let row : x.row ≡ y.row = cc in
    λ i. record { row = row i; owner = owners.0 i }

same_rows : (prefix : List ℕ) (xs ys : List RowChange) → AllByRecursion IsReadBack xs → AllByRecursion IsReadBack ys → rows_under prefix xs ≡ rows_under prefix ys → xs ≡ ys
same_rows prefix = same_list (row_entry prefix) IsReadBack (same_row prefix)

pub same_grant : (version : ℕ) (x y : GrantRow) → FitsGrant x → FitsGrant y → grant_entry version x ≡ grant_entry version y → x ≡ y
same_grant version x y fits_x fits_y same =
    let labels : number version ++ caller_label x.caller ≡ number version ++ caller_label y.caller = ap (λ (e : Entry). e.0) same in
    let callers = same_caller x.caller y.caller (same_ends (number version) (number version) (caller_label x.caller) (caller_label y.caller) refl labels).1 in
    let bodies : grant_body x.grant ≡ grant_body y.grant = ap (λ (e : Entry). e.1) same in
    let tokens = sized_back x.grant.token y.grant.token (x.grant.scopes ∷ (schools_bytes x.grant.schools ++ number x.grant.since)) (y.grant.scopes ∷ (schools_bytes y.grant.schools ++ number y.grant.since)) fits_x.token fits_y.token bodies in
    let scopes : x.grant.scopes ≡ y.grant.scopes = let rest = tokens.1 in cc in
    let schools = schools_back x.grant.schools y.grant.schools (number x.grant.since) (number y.grant.since) fits_x.schools fits_y.schools (ap (drop 1) tokens.1) in
    let since = same_number x.grant.since y.grant.since fits_x.since fits_y.since schools.1 in
    λ i. record { caller = callers i; grant = record { token = tokens.0 i; scopes = scopes i; schools = schools.0 i; since = since i } }

same_grants : (version : ℕ) (xs ys : List GrantRow) → AllByRecursion FitsGrant xs → AllByRecursion FitsGrant ys → grants_under version xs ≡ grants_under version ys → xs ≡ ys
same_grants version = same_list (grant_entry version) FitsGrant (same_grant version)

pub same_flag : (a b : Bool) → flag a ≡ flag b → a ≡ b
same_flag true true same = refl
same_flag true false same = absurd cc
same_flag false true same = absurd cc
same_flag false false same = refl

pub same_mark_row : (x y : MarkRow) → FitsMark x → FitsMark y → mark_entry x ≡ mark_entry y → x ≡ y
same_mark_row x y fits_x fits_y same =
    let labels : mark_label (mark_key x) ≡ mark_label (mark_key y) = ap (λ (e : Entry). e.0) same in
    let parts = same_parts x.caller y.caller (0 ∷ number x.number) (0 ∷ number y.number) refl labels in
    let numbers = same_number x.number y.number fits_x.number fits_y.number (ap (drop 1) parts.1) in
    let bodies : mark_body x ≡ mark_body y = ap (λ (e : Entry). e.1) same in
    let flags = same_flag x.write.delete y.write.delete (ap (λ xs. slice_index_or xs 0 0) bodies) in
    let kinds = kind_from_place x.write.kind y.write.kind (ap (λ xs. slice_index_or xs 1 0) bodies) in
    let ids = sized_back x.write.id y.write.id (sized x.write.body ++ (x.kept.outcome ∷ number x.kept.version)) (sized y.write.body ++ (y.kept.outcome ∷ number y.kept.version)) fits_x.id fits_y.id (ap (drop 2) bodies) in
    let texts = sized_back x.write.body y.write.body (x.kept.outcome ∷ number x.kept.version) (y.kept.outcome ∷ number y.kept.version) fits_x.body fits_y.body ids.1 in
    let outcomes : x.kept.outcome ≡ y.kept.outcome = let rest = texts.1 in cc in
    let versions = same_number x.kept.version y.kept.version fits_x.version fits_y.version (ap (drop 1) texts.1) in
    λ i. record {
      caller = parts.0 i;
      number = numbers i;
      write = record { delete = flags i; kind = kinds i; id = ids.0 i; body = texts.0 i };
      kept = record { outcome = outcomes i; version = versions i };
    }

same_some : (version : ℕ) (xs ys : Option (List GrantRow)) → has_grants xs ≡ has_grants ys → ForSome xs (AllByRecursion FitsGrant) → ForSome ys (AllByRecursion FitsGrant) → some_grants version xs ≡ some_grants version ys → xs ≡ ys
same_some version None None flags fits_x fits_y same = refl
same_some version None (Some ys) flags fits_x fits_y same = absurd cc
same_some version (Some xs) None flags fits_x fits_y same = absurd cc
same_some version (Some xs) (Some ys) flags fits_x fits_y same = ap Some (same_grants version xs ys (fits_x xs refl) (fits_y ys refl) same)

-- changes of one version that one map of items tells
same_change : (m : Items) (x y : Change) → x.version ≡ y.version → IsToldBy m x → IsToldBy m y → FitsChange x → FitsChange y → x ≡ y
same_change m x y numbers told_x told_y fits_x fits_y =
    let versions : own_version x ≡ own_version y = sym told_x.version ∙ ap (λ v. listed_of versions_area v m) numbers ∙ told_y.version in
    let entry : version_entry x ≡ version_entry y = cc in
    let bodies : change_body x ≡ change_body y = ap (λ (e : Entry). e.1) entry in
    let moments = moment_back x.moment y.moment (has_grants x.grants ∷ []) (has_grants y.grants ∷ []) fits_x.moment fits_y.moment bodies in
    let flags : has_grants x.grants ≡ has_grants y.grants = let rest = moments.1 in cc in
    let rows_there : own_rows x ≡ rows_under (number x.version) y.rows = sym told_x.rows ∙ ap (λ v. listed_of change_rows_area v m) numbers ∙ told_y.rows ∙ ap (λ v. rows_under (number v) y.rows) (sym numbers) in
    let rows = same_rows (number x.version) x.rows y.rows fits_x.rows fits_y.rows rows_there in
    let grants_there : own_grants x ≡ some_grants x.version y.grants = sym told_x.grants ∙ ap (λ v. listed_of grants_area v m) numbers ∙ told_y.grants ∙ ap (λ v. some_grants v y.grants) (sym numbers) in
    let grants = same_some x.version x.grants y.grants flags fits_x.grants fits_y.grants grants_there in
    λ i. record { version = numbers i; moment = moments.0 i; rows = rows i; grants = grants i }

-- no change stands where the map has none
not_more : (m : Items) (n : ℕ) (change : Change) → listed_of versions_area (n + 1) m ≡ [] → change.version ≡ n + 1 → IsToldBy m change → ⊥
not_more m n change none next told = let same : [] ≡ own_version change = sym none ∙ ap (λ v. listed_of versions_area v m) (sym next) ∙ told.version in cc

same_changes : (m : Items) (n : ℕ) (xs ys : List Change) → LeadOn n xs → LeadOn n ys → AllByRecursion (IsToldBy m) xs → AllByRecursion (IsToldBy m) ys → AllByRecursion FitsChange xs → AllByRecursion FitsChange ys
    → listed_of versions_area (newest_from n xs + 1) m ≡ [] → listed_of versions_area (newest_from n ys + 1) m ≡ [] → xs ≡ ys
same_changes m n [] [] lead_x lead_y told_x told_y fits_x fits_y end_x end_y = refl
same_changes m n [] (y ∷ ys) lead_x lead_y told_x told_y fits_x fits_y end_x end_y = absurd (not_more m n y end_x lead_y.0 told_y.0)
same_changes m n (x ∷ xs) [] lead_x lead_y told_x told_y fits_x fits_y end_x end_y = absurd (not_more m n x end_y lead_x.0 told_x.0)
same_changes m n (x ∷ xs) (y ∷ ys) lead_x lead_y told_x told_y fits_x fits_y end_x end_y =
    let numbers = lead_x.0 ∙ sym lead_y.0 in
    let first = same_change m x y numbers told_x.0 told_y.0 fits_x.0 fits_y.0 in
    let rest = same_changes m x.version xs ys lead_x.1 (subst (λ v. LeadOn v ys) (sym numbers) lead_y.1) told_x.1 told_y.1 fits_x.1 fits_y.1 end_x (subst (λ v. listed_of versions_area (newest_from v ys + 1) m ≡ []) (sym numbers) end_y) in
    λ i. first i ∷ rest i

pub number_fits : (u : HubTables) → AreTables u → u.base.number < 2 ^ 64
number_fits u are = let le = (base_meets IsVersion u.base u.changes are.versions).number in omega (arith, le)

module _ (s t : HubTables) (are_s : AreTables s) (are_t : AreTables t) (fit_s : Fit s) (fit_t : Fit t) (same : items_of s ≡ items_of t) where
  state_entries : state_entry s.keep s.base ≡ state_entry t.keep t.base
  state_entries =
      let both : state_entry s.keep s.base ∷ [] ≡ state_entry t.keep t.base ∷ [] =
      sym (listed_sorted (state_entry s.keep s.base ∷ []) refl) ∙ ap (λ (m : Items). entries (m state_area)) same ∙ listed_sorted (state_entry t.keep t.base ∷ []) refl in
      cc

  states : (s.keep ≡ t.keep) × (s.base.number ≡ t.base.number) × (s.base.moment ≡ t.base.moment)
  states = state_back s.keep t.keep s.base t.base fit_s.keep fit_t.keep (number_fits s are_s) (number_fits t are_t) fit_s.moment fit_t.moment state_entries

  base_rows : s.base.rows ≡ t.base.rows
  base_rows =
      same_rows [] s.base.rows t.base.rows fit_s.rows fit_t.rows
      (sym (listed_sorted (rows_under [] s.base.rows) (rows_rise [] s.base.rows (base_meets IsVersion s.base s.changes are_s.versions).rows)) ∙ ap (λ (m : Items). entries (m base_rows_area)) same
      ∙ listed_sorted (rows_under [] t.base.rows) (rows_rise [] t.base.rows (base_meets IsVersion t.base t.changes are_t.versions).rows))

  base_grants : s.base.grants ≡ t.base.grants
  base_grants =
      let numbers = states.1 in
      same_grants s.base.number s.base.grants t.base.grants fit_s.grants fit_t.grants
      (sym (base_grants_told s are_s fit_s) ∙ ap (listed_of grants_area s.base.number) same ∙ ap (λ v. listed_of grants_area v (items_of t)) numbers ∙ base_grants_told t are_t fit_t ∙ ap (λ v. grants_under v t.base.grants) (sym numbers))

  all_changes : s.changes ≡ t.changes
  all_changes =
      let numbers = states.1 in
      same_changes (items_of t) s.base.number s.changes t.changes are_s.lead (subst (λ v. LeadOn v t.changes) (sym numbers) are_t.lead)
      (subst (λ (m : Items). AllByRecursion (IsToldBy m) s.changes) same (changes_told s are_s fit_s)) (changes_told t are_t fit_t) fit_s.changes fit_t.changes
      (subst (λ (m : Items). listed_of versions_area (newest_from s.base.number s.changes + 1) m ≡ []) same (none_told s are_s fit_s))
      (subst (λ v. listed_of versions_area (newest_from v t.changes + 1) (items_of t) ≡ []) (sym numbers) (none_told t are_t fit_t))

  all_marks : s.marks ≡ t.marks
  all_marks =
      same_list mark_entry FitsMark same_mark_row s.marks t.marks fit_s.marks fit_t.marks
      (sym (listed_sorted (map mark_entry s.marks) (marks_rise s.marks fit_s.marks are_s.marks.rise)) ∙ ap (λ (m : Items). entries (m marks_area)) same ∙ listed_sorted (map mark_entry t.marks) (marks_rise t.marks fit_t.marks are_t.marks.rise))

  pub same_tables : s ≡ t
  same_tables = λ i. record {
    keep = states.0 i;
    base = record { number = states.1 i; moment = states.2 i; rows = base_rows i; grants = base_grants i };
    changes = all_changes i;
    marks = all_marks i;
  }

-- items keep one state at most
pub kept_once : (items : Items) (kept other : KeptState) → Keep items kept → Keep items other → kept ≡ other
kept_once items kept other p q = p.same ∙ ap kept_by (same_tables p.tables q.tables p.are q.are p.fit q.fit (sym p.stored ∙ q.stored)) ∙ sym q.same
