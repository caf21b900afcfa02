-- Grants in the order of their callers.
use Rattle.std.proofs.Common.{◌≡◌, ◌+◌, ◌<◌, ◌∷◌, [], ℕ, List, None, Some, true, false, bytes_eq, get_or, length, map}
use Rattle.std.proofs.Common.{refl, sym, ap, ◌∙◌, arith, inl, inr}
use Rattle.std.proofs.lemmas.Bool.{cases_lt}
use Rattle.std.proofs.lemmas.Cmp.{nat_list_cmp_total, tied_itself}
use Rattle.std.proofs.lemmas.List.Recursion.{found_at, found_nowhere}
use Rattle.std.proofs.lemmas.List.Sorted.{searchable_from_sorted}
use Rattle.std.proofs.lemmas.Map.Keys.{Less-from_sorted}
use Rattle.std.proofs.lemmas.Map.Lookups.{exact_bytes}
use Rattle.std.proofs.lemmas.Slice.Eq.{bytes_eq-Decides}
use Rattle.std.specs.Cmp.Lexicographic.{slice_cmp}
use Rattle.std.specs.List.{AllByRecursion, AllWithin}
use Rattle.std.specs.List.Sorted.{IsNonDecreasingBy, IsStrictlySortedBy}
use Rattle.std.specs.Ordering.{is_eq, is_lt, nat_cmp, ordering_index, ordering_reverse}
use Rattle.std.specs.declared.cmp.Ordering.TheVariants.{Less, Equal, Greater}
use Rattle.roster_base.specs.Order.{RiseBy}
use Rattle.version_core.specs.Grants.{caller_of, grant_row_of}
use Rattle.version_core.specs.declared.grant_row.GrantRow.{GrantRow}

above_each : (caller : List ℕ) (rows : List GrantRow) → AllByRecursion (λ other. slice_cmp nat_cmp caller other ≡ Less) (map caller_of rows) → AllByRecursion (λ row. slice_cmp nat_cmp caller row.caller ≡ Less) rows
above_each caller [] all = tt
above_each caller (row ∷ rows) all = (all.0, above_each caller rows all.1)

sorted_by_caller : (rows : List GrantRow) → RiseBy caller_of rows → IsStrictlySortedBy (λ one other. slice_cmp nat_cmp (caller_of one) (caller_of other)) rows
unfolding IsStrictlySortedBy
sorted_by_caller [] rise = tt
sorted_by_caller (row ∷ rows) rise = (above_each row.caller rows rise.0, sorted_by_caller rows rise.1)

greater_from_less : (a b : List ℕ) → slice_cmp nat_cmp a b ≡ Less → slice_cmp nat_cmp b a ≡ Greater
greater_from_less a b less = nat_list_cmp_total.antisymm b a ∙ ap ordering_reverse less

-- a caller isn't another one
apart : (caller other : List ℕ) → is_eq (slice_cmp nat_cmp other caller) ≡ false → bytes_eq other caller ≡ false
apart caller other differ =
    elim (bytes_eq other caller) as (λ b. bytes_eq other caller ≡ b → b ≡ false) [
      | true ↦ λ same. let tied : slice_cmp nat_cmp other caller ≡ Equal = ap (slice_cmp nat_cmp other) (sym ((bytes_eq-Decides other caller).0 same)) ∙ tied_itself nat_list_cmp_total other in let e = ap is_eq tied in cc
      | false ↦ λ _. refl
    ] refl

module _ (rows : List GrantRow) (rise : RiseBy caller_of rows) where
  less_at : (i j : ℕ) (d : GrantRow) → i < j → j < length rows → slice_cmp nat_cmp (caller_of (get_or rows i d)) (caller_of (get_or rows j d)) ≡ Less
  less_at i j d lt len = Less-from_sorted (λ one other. slice_cmp nat_cmp (caller_of one) (caller_of other)) rows i j d (sorted_by_caller rows rise) lt len

  -- a binary search may look for a caller
  pub searchable : (caller : List ℕ) → IsNonDecreasingBy (λ row. ordering_index (slice_cmp nat_cmp row.caller caller)) rows
  searchable caller = searchable_from_sorted nat_list_cmp_total caller_of rows caller (λ m d low high. ap is_lt (greater_from_less (caller_of (get_or rows m d)) (caller_of (get_or rows (m + 1) d)) (less_at m (m + 1) d (omega arith) (omega arith))))

  -- the caller has the row at its place
  pub caller_at : (caller : List ℕ) (i : ℕ) (d : GrantRow) → i < length rows → slice_cmp nat_cmp (caller_of (get_or rows i d)) caller ≡ Equal → grant_row_of caller rows ≡ Some (get_or rows i d)
  caller_at caller i d lt here =
      let same = exact_bytes (caller_of (get_or rows i d)) caller here in
      found_at (grant_row_of caller) (λ row. bytes_eq row.caller caller) (λ row. Some row) None refl (λ row rows. refl) rows i d lt
      (λ j below. apart caller (caller_of (get_or rows j d)) (ap (λ other. is_eq (slice_cmp nat_cmp (caller_of (get_or rows j d)) other)) (sym same) ∙ ap is_eq (less_at j i d below lt)))
      ((bytes_eq-Decides (caller_of (get_or rows i d)) caller).1 same)

-- where each caller is below this one or above it, it has none
pub no_caller : (rows : List GrantRow) (caller : List ℕ) (place : ℕ) → AllWithin (λ row. slice_cmp nat_cmp row.caller caller ≡ Less) rows 0 place → AllWithin (λ row. slice_cmp nat_cmp row.caller caller ≡ Greater) rows place (length rows) → grant_row_of caller rows ≡ None
no_caller [] caller place below above = refl
no_caller (row ∷ rows) caller place below above =
    found_nowhere (grant_row_of caller) (λ row. bytes_eq row.caller caller) (λ row. Some row) None refl (λ row rows. refl) (row ∷ rows) row
    (λ i lt. apart caller (caller_of (get_or (row ∷ rows) i row)) (elim (cases_lt i place) [
      | inl before ↦ ap is_eq (below i row (omega arith) before)
      | inr from ↦ ap is_eq (above i row from lt)
    ]))
