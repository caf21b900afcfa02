-- What every list of a cut meets: it has no more rows than a kind may have, and they ascend by their ids.
use Rattle.std.proofs.Common.{◌≡◌, ℕ, zero, suc, ◌<◌, ◌≤◌, Bool, true, false, cond, List, [], ◌∷◌, filter, get_or}
use Rattle.std.proofs.Common.{length, map, Option, None, Some, refl, ap, ◌∙◌, arith}
use Rattle.std.proofs.lemmas.Bool.{and_from}
use Rattle.std.proofs.lemmas.List.{length-map}
use Rattle.std.proofs.lemmas.List.Sums.{length-filter}
use Rattle.std.specs.FinMap.Entries as entries
use Rattle.std.specs.Option.{option_map_or}
use Rattle.std.specs.Ordering.{is_lt}
use Rattle.keeper_memory.specs.copy.Lists.{ascends, kind_count}
use Rattle.grant_scopes.specs.Opens.{opens}
use Rattle.grant_scopes.specs.declared.access.Access.TheVariants.{Read}
use Rattle.grant_scopes.specs.declared.grant.Grant.{Grant}
use Rattle.hub_spec.proofs.Versions.{some_version, version_is}
use Rattle.hub_spec.specs.rules.Checks.{version_at}
use Rattle.hub_spec.specs.rules.States.{IsHub}
use Rattle.hub_spec.proofs.Below.{and_first, and_second, ids_less, less_from_is_lt}
use Rattle.hub_spec.proofs.ListLemmas.{are_of_kept, ascends_kept, same_place}
use Rattle.hub_spec.specs.views.Cuts.{cut, cut_of, kind_cut, no_rows}
use Rattle.hub_spec.specs.views.Seen.{sees_row}
use Rattle.hub_spec.specs.Below.Deltas.{AreOf}
use Rattle.roster_types.specs.Keys.{Ascends, count_of, is_after, is_of_kind, key_cmp, keyed, row_key}
use Rattle.roster_types.specs.Records.{Record}
use Rattle.roster_values.specs.Kinds.{all_kinds}
use Rattle.roster_values.specs.declared.kind.Kind.{Kind}
use Rattle.version_core.proofs.RowsOf.{is_sorted-rows_of}
use Rattle.version_core.specs.Changes.{AreChanges, rows_of}
use Rattle.version_core.specs.Grants.{grant_of}
use Rattle.version_core.specs.HubStates.{HubState}
use Rattle.version_core.specs.Version.{row_limit}
use Rattle.version_core.specs.declared.change.BaseVersion.{BaseVersion}
use Rattle.version_core.specs.declared.grant_row.GrantRow.{GrantRow}
use Rattle.version_core.specs.declared.row_change.RowChange.{RowChange}
use Rattle.exchange_link.specs.Sayings.{list_at}

-- the first of some rows, where there is one, is above an id
abbrev pub First : Option (List ℕ) → List Record → Type 0
First last [] = Unit {0}
First last (row ∷ rows) = is_after last row.id ≡ true

next_first : (kind : Kind) (row : Record) (rows : List Record) → is_of_kind kind row ≡ true → AreOf kind rows → entries.below_all key_cmp (row_key row) (keyed row_key rows) ≡ true → First (Some row.id) rows
next_first kind row [] is are below = tt
next_first kind row (other ∷ rows) is are below = ap is_lt (ids_less _ _ row.id other.id (same_place kind row other is are.0) (less_from_is_lt _ (and_first _ _ below)))

-- rows of one kind in order are in order of id
pub rows_ascend : (kind : Kind) (last : Option (List ℕ)) (rows : List Record) → AreOf kind rows → Ascends row_key rows → First last rows → ascends last rows ≡ true
rows_ascend kind last [] are up first = refl
rows_ascend kind last (row ∷ rows) are up first =
    and_from _ _ first (rows_ascend kind (Some row.id) rows are.1 (and_second _ _ up) (next_first kind row rows are.0 are.1 (and_first _ _ up)))

pub any_first : (rows : List Record) → First None rows
any_first [] = tt
any_first (row ∷ rows) = refl

-- a list as a hub has it
pub record IsGood (l : List Record) : Type 0 where
  pub few : length l ≤ row_limit
  pub ordered : ascends None l ≡ true

no_row_good : IsGood []
no_row_good = record { few = omega arith; ordered = refl }

few_kept : (p q : Record → Bool) (rows : List Record) → length (filter q (filter p rows)) ≤ length (filter q rows)
few_kept p q [] = omega arith
few_kept p q (row ∷ rows) =
    elim (p row) as (λ b. length (filter q (cond b (row ∷ filter p rows) (filter p rows))) ≤ length (filter q (row ∷ rows))) [
      | true ↦ one (q row) row (filter q (filter p rows)) (filter q rows) (few_kept p q rows)
      | false ↦ skip (q row) row (filter q rows) (length (filter q (filter p rows))) (few_kept p q rows)
    ]
  where
    one : (b : Bool) (row : Record) (some all : List Record) → length some ≤ length all → length (cond b (row ∷ some) some) ≤ length (cond b (row ∷ all) all)
    one true row some all le = omega (arith, le)
    one false row some all le = le

    skip : (b : Bool) (row : Record) (all : List Record) (n : ℕ) → n ≤ length all → n ≤ length (cond b (row ∷ all) all)
    skip true row all n le = omega (arith, le)
    skip false row all n le = le

chosen_good : (b : Bool) (l : List Record) → IsGood l → IsGood (cond b l [])
chosen_good true l x = x
chosen_good false l x = no_row_good

kind_good : (grant : Grant) (changes : List RowChange) (kind : Kind) → AreChanges changes → count_of kind (rows_of changes) ≤ row_limit → IsGood (kind_cut grant (rows_of changes) kind)
unfolding kind_cut
kind_good grant changes kind up few =
    let rows = rows_of changes in
    let p = sees_row grant.schools rows in
    let le = few_kept p (is_of_kind kind) rows in
    chosen_good (opens grant.scopes kind Read) (filter (is_of_kind kind) (filter p rows)) (record {
      few = omega (arith, le, length-filter (is_of_kind kind) rows, few);
      ordered = rows_ascend kind None _ (are_of_kept kind (filter p rows)) (ascends_kept (is_of_kind kind) (filter p rows) (ascends_kept p rows (is_sorted-rows_of changes ∙ up))) (any_first _);
    })

good_at : (f : Kind → List Record) (kinds : List Kind) (place : ℕ) → ((kind : Kind) → IsGood (f kind)) → IsGood (get_or (map f kinds) place [])
good_at f [] place each = no_row_good
good_at f (kind ∷ kinds) zero each = each kind
good_at f (kind ∷ kinds) (suc place) each = good_at f kinds place each

-- whoever has the token, or nobody
for_good : (by : Option GrantRow) (changes : List RowChange) (place : ℕ) → AreChanges changes → ((kind : Kind) → count_of kind (rows_of changes) ≤ row_limit)
    → IsGood (get_or (option_map_or (λ (row : GrantRow). cut_of row.grant (rows_of changes)) by no_rows) place [])
for_good None changes place up few = good_at (λ kind. []) all_kinds place (λ kind. no_row_good)
for_good (Some by) changes place up few = good_at (kind_cut by.grant (rows_of changes)) all_kinds place (λ kind. kind_good by.grant changes kind up (few kind))

whole : (by : Option GrantRow) (rows : List Record) → length (option_map_or (λ (row : GrantRow). cut_of row.grant rows) by no_rows) ≡ kind_count
whole None rows = let none : Kind → List Record = λ kind. [] in length-map all_kinds none
whole (Some by) rows = length-map all_kinds (kind_cut by.grant rows)

-- a cut has a list for each kind
pub cut_whole : (version : BaseVersion) (token : List ℕ) → length (cut version token) ≡ kind_count
cut_whole version token = whole (grant_of token version.grants) (rows_of version.rows)

pub list_good : (state : HubState) → IsHub state → (v : ℕ) (token : List ℕ) (place : ℕ) → v < length state.published → IsGood (list_at (version_at state v) token place)
list_good state hub v token place lt =
    let version = version_at state v in
    let is = version_is state hub.state v (omega (arith, lt)) in
    for_good (grant_of token version.grants) version.rows place is.rows is.few

pub begun : (state : HubState) → IsHub state → 0 < length state.published
begun state hub = some_version state hub.state
