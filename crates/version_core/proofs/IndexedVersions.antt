-- Versions whose rows are indexed.
use Rattle.std.proofs.Common.{◌≡◌, ℕ, ℤ, suc, ◌+◌, ◌≤◌, Bool, true, false, ◌||◌, cond, if◌then◌else◌, leb, List, []}
use Rattle.std.proofs.Common.{◌∷◌, ◌++◌, None, Some, length, option_map, refl, sym, ap, subst, ◌∙◌, arith}
use Rattle.std.proofs.lemmas.List.Folds.{list_any-append}
use Rattle.std.proofs.lemmas.List.Sorted.{list_any-IsPermutation}
use Rattle.std.specs.List.{AllByRecursion, AllWithin, list_any}
use Rattle.std.specs.List.Sorted.{IsPermutation}
use Rattle.std.specs.Option.{option_or, option_to_list}
use Rattle.std.specs.Ordering.{is_eq}
use Rattle.roster_types.specs.Keys.{Key, key_cmp, look_up, row_key}
use Rattle.roster_types.specs.Records.{Record}
use Rattle.roster_values.specs.Kinds.{place_of_kind}
use Rattle.version_core.specs.Changes.{change_key, rows_of}
use Rattle.version_core.specs.Order.{overlaid}
use Rattle.version_core.specs.History.{Past, past_of, pasts_of, rows_at}
use Rattle.version_core.specs.Since.{standing}
use Rattle.version_core.specs.RefIndex.{AreIndexed, ArePastsIndexed, IsIndexed, Keeps, StayIndexed, is_entry_of}
use Rattle.version_core.specs.VersionLog.{IsVersionIndexed, versions_at}
use Rattle.version_core.specs.declared.change.BaseVersion.{BaseVersion}
use Rattle.version_core.specs.declared.grant_row.GrantRow.{GrantRow}
use Rattle.version_core.specs.declared.history.History.{History}
use Rattle.version_core.specs.declared.ref_index.RefEntry.{RefEntry}
use Rattle.version_core.specs.declared.row_change.RowChange.{RowChange}
use Rattle.version_core.specs.declared.since.Since.{Since}
use Rattle.version_core.proofs.OrderLemmas.{look_up-overlaid}
use Rattle.version_core.proofs.RoomLemmas.{all_weaken}
use Rattle.version_core.proofs.RowsOf.{look_up-rows_of}

-- what holds of the rows of changes holds of the one that is looked up
found_row : (P : Record → Type 0) (k : Key) (changes : List RowChange) (row : Record) → AllWithin (λ change. P change.row) changes 0 (length changes) → look_up row_key k (rows_of changes) ≡ Some row → P row
found_row P k [] row all at = cc
found_row P k (x ∷ changes) row all at =
    elim (is_eq (key_cmp k (change_key x))) as (λ b. cond b (Some x.row) (look_up row_key k (rows_of changes)) ≡ Some row → P row) [
      | true ↦ λ same. let is : x.row ≡ row = cc in subst P is (all 0 x (omega arith) (omega arith))
      | false ↦ λ later. found_row P k changes row (λ i d low lt. all (suc i) d (omega arith) (omega arith)) later
    ] at

-- a row of an overlaid list is one of the changes or of the base
overlaid_row : (P : Record → Type 0) (k : Key) (base changes : List RowChange) (row : Record) → (look_up row_key k (rows_of base) ≡ Some row → P row) → AllWithin (λ change. P change.row) changes 0 (length changes) → look_up row_key k (rows_of (overlaid change_key base changes)) ≡ Some row → P row
overlaid_row P k base changes row from_base all at =
    elim (look_up change_key k changes) as (λ o. look_up change_key k changes ≡ o → option_map (λ (c : RowChange). c.row) (option_or o (look_up change_key k base)) ≡ Some row → P row) [
      | None ↦ λ _ later. from_base (look_up-rows_of k base ∙ later)
      | Some change ↦ λ found same. found_row P k changes row all (look_up-rows_of k changes ∙ ap (option_map (λ (c : RowChange). c.row)) found ∙ same)
    ] refl (sym (look_up-rows_of k (overlaid change_key base changes) ∙ ap (option_map (λ (c : RowChange). c.row)) (look_up-overlaid change_key k base changes)) ∙ at)

module _ (runs : List (List RefEntry)) where
  pub overlaid_indexed : (base changes : List RowChange) → AreIndexed runs (rows_of base) → AllWithin (λ change. IsIndexed runs change.row) changes 0 (length changes) → AreIndexed runs (rows_of (overlaid change_key base changes))
  overlaid_indexed base changes are all = λ row stands. overlaid_row (IsIndexed runs) (row_key row) base changes row (are row) all stands

-- what holds of all entries of a past holds of the one that stands
standing_row : (P : RowChange → Type 0) (version : ℕ) (past : Past) (change : RowChange) → AllWithin (λ entry. P entry.value) past 0 (length past) → standing version past ≡ Some change → P change
standing_row P version [] change all at = cc
standing_row P version (entry ∷ past) change all at =
    elim (standing version past) as (λ o. standing version past ≡ o → option_or o (if leb entry.version version then Some entry.value else None) ≡ Some change → P change) [
      | Some x ↦ λ found same. standing_row P version past change (λ i d low lt. all (suc i) d (omega arith) (omega arith)) (found ∙ same)
      | None ↦ λ _ here. first (leb entry.version version) here
    ] refl at
  where
    first : (b : Bool) → (if b then Some entry.value else None) ≡ Some change → P change
    first true is = let one : entry.value ≡ change = cc in subst P one (all 0 entry (omega arith) (omega arith))
    first false is = cc

module _ (runs : List (List RefEntry)) where
  pasts_indexed : (version : ℕ) (histories : List History) → ArePastsIndexed runs histories → (k : Key) (row : Record) → look_up row_key k (rows_of (rows_at version (pasts_of histories))) ≡ Some row → IsIndexed runs row
  pasts_indexed version [] all k row at = cc
  pasts_indexed version (history ∷ histories) all k row at =
      let rest = pasts_indexed version histories (λ i d low lt. all (suc i) d (omega arith) (omega arith)) k row in
      elim (standing version (past_of history)) as (λ o. standing version (past_of history) ≡ o → look_up row_key k (rows_of (option_to_list o ++ rows_at version (pasts_of histories))) ≡ Some row → IsIndexed runs row) [
        | None ↦ λ _. rest
        | Some change ↦ λ stands. elim (is_eq (key_cmp k (change_key change))) as (λ b. cond b (Some change.row) (look_up row_key k (rows_of (rows_at version (pasts_of histories)))) ≡ Some row → IsIndexed runs row) [
          | true ↦ λ same.
              let is : change.row ≡ row = cc in
              subst (IsIndexed runs) is (standing_row (λ c. IsIndexed runs c.row) version (past_of history) change (all 0 history (omega arith) (omega arith)) stands)
          | false ↦ rest
        ]
      ] refl at

  -- versions that are read from histories whose rows are all indexed
  pub said_versions : (histories : List History) → ArePastsIndexed runs histories → (grants : List (Since (List GrantRow))) (number : ℕ) (moments : List ℤ) → AllByRecursion (IsVersionIndexed runs) (versions_at number moments (pasts_of histories) grants)
  said_versions histories all grants number [] = tt
  said_versions histories all grants number (moment ∷ moments) = ((λ row stands. pasts_indexed number histories all (row_key row) row stands), said_versions histories all grants (number + 1) moments)

module _ (old new : List (List RefEntry)) (keeps : Keeps old new) where
  rows_stay : (rows : List Record) → AreIndexed old rows → AreIndexed new rows
  rows_stay rows are = λ row stands name target place at named. keeps (is_entry_of (place_of_kind row.kind, place, target) row.id) (are row stands name target place at named)

  pub versions_stay : (versions : List BaseVersion) → AllByRecursion (IsVersionIndexed old) versions → AllByRecursion (IsVersionIndexed new) versions
  versions_stay versions all = all_weaken (IsVersionIndexed old) (IsVersionIndexed new) versions (λ v. rows_stay (rows_of v.rows)) all

-- versions that are read from pasts, from the oldest on
pub kept_versions_stay : (oldest : ℕ) (old new : List (List RefEntry)) (pasts : List Past) → StayIndexed oldest pasts old new → (grants : List (Since (List GrantRow))) (number : ℕ) (moments : List ℤ) → oldest ≤ number
    → AllByRecursion (IsVersionIndexed old) (versions_at number moments pasts grants) → AllByRecursion (IsVersionIndexed new) (versions_at number moments pasts grants)
kept_versions_stay oldest old new pasts stay grants number [] le all = tt
kept_versions_stay oldest old new pasts stay grants number (moment ∷ moments) le all = (stay number le all.0, kept_versions_stay oldest old new pasts stay grants (number + 1) moments (omega (arith, le)) all.1)

-- one run more
pub keeps_push : (runs : List (List RefEntry)) (run : List RefEntry) → Keeps runs (runs ++ run ∷ [])
keeps_push runs run = λ p any. list_any-append (list_any p) runs (run ∷ []) ∙ ap (λ b. b || list_any (list_any p) (run ∷ [])) any

or_none : (b : Bool) → (b || (false || false)) ≡ b
or_none true = refl
or_none false = refl

or_end : (b c : Bool) → (b || (c || false)) ≡ (b || c)
or_end true c = refl
or_end false true = refl
or_end false false = refl

-- one run of the entries of two, in another order
pub keeps_all : (one other all new : List RefEntry) → all ≡ one ++ other → IsPermutation all new → Keeps (one ∷ other ∷ []) (new ∷ [] ∷ [])
keeps_all one other all new is moved = λ p any.
    or_none (list_any p new) ∙ sym (list_any-IsPermutation p all new moved) ∙ ap (list_any p) is ∙ list_any-append p one other ∙ sym (or_end (list_any p one) (list_any p other)) ∙ any
