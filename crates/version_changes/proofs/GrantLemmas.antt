-- Grants that were tested one by one.
use Rattle.std.proofs.Common.{◌≡◌, ◌+◌, ◌<◌, ◌≤◌, ℕ, Bool, List, [], ◌∷◌, true, false, cond, drop, get_or, length, map}
use Rattle.std.proofs.Common.{None, Some, refl, sym, subst, ◌∙◌, arith}
use Rattle.std.specs.Prelude.{bytes_eq, nat_le}
use Rattle.std.specs.Cmp.Lexicographic.{slice_cmp}
use Rattle.std.specs.List.{AllByRecursion, IsDistinct, list_all}
use Rattle.std.specs.Ordering.{nat_cmp}
use Rattle.std.specs.declared.cmp.Ordering.TheVariants.{Less}
use Rattle.std.proofs.lemmas.Bool.{false_from_ne_true}
use Rattle.std.proofs.lemmas.Bool.Decides.{nat_tests}
use Rattle.std.proofs.lemmas.Cmp.{nat_list_cmp_total}
use Rattle.std.proofs.lemmas.List.{drop_all, length-map}
use Rattle.std.proofs.lemmas.Map.Keys.{sorted_from_all_adjacent}
use Rattle.std.proofs.lemmas.Slice.Eq.{bytes_eq-Decides}
use Rattle.roster_base.specs.Order.{RiseBy}
use Rattle.version_core.specs.Grants.{caller_of, grant_of, token_of}
use Rattle.version_core.specs.declared.grant_row.GrantRow.{GrantRow}
use Rattle.version_core.proofs.GrantLemmas.{no_grants}
use Rattle.version_changes.proofs.AdjacentLemmas.{all_hold, drop_more, get_map}

pub callers_rise : (grants : List GrantRow) → ((k : ℕ) (d : GrantRow) → k + 1 < length grants → slice_cmp nat_cmp (get_or grants k d).caller (get_or grants (k + 1) d).caller ≡ Less) → RiseBy caller_of grants
callers_rise [] each = (no_grants 0).rise
callers_rise (row ∷ grants) each =
    sorted_from_all_adjacent nat_list_cmp_total (map caller_of (row ∷ grants)) (caller_of row) (λ k lt.
    let long = length-map (row ∷ grants) caller_of in
    let low = get_map caller_of (row ∷ grants) k row in
    let high = get_map caller_of (row ∷ grants) (k + 1) row in
    (λ i. slice_cmp nat_cmp (low i) (high i)) ∙ each k row (omega (arith, lt, long)))

swapped : (a b : List ℕ) → bytes_eq a b ≡ false → bytes_eq b a ≡ false
swapped a b differ = false_from_ne_true _ (λ same. let again = (bytes_eq-Decides a b).1 (sym ((bytes_eq-Decides b a).0 same)) in cc)

apart : (token : List ℕ) (grants : List GrantRow) → grant_of token grants ≡ None → AllByRecursion (λ other. bytes_eq token other ≡ false) (map token_of grants)
apart token [] none = tt
apart token (row ∷ grants) none = go (bytes_eq row.grant.token token) none (swapped row.grant.token token) (apart token grants)
  where
    go : (b : Bool) → cond b (Some row) (grant_of token grants) ≡ None → (b ≡ false → bytes_eq token row.grant.token ≡ false)
        → (grant_of token grants ≡ None → AllByRecursion (λ other. bytes_eq token other ≡ false) (map token_of grants)) → AllByRecursion (λ other. bytes_eq token other ≡ false) (map token_of (row ∷ grants))
    go true none away later = absurd cc
    go false none away later = (away refl, later none)

-- no two of all have one token where no two of those that are left have, and the next is alone among them
pub differ_more : (grants : List GrantRow) (k : ℕ) (row : GrantRow) → (IsDistinct bytes_eq (map token_of (drop k grants)) → IsDistinct bytes_eq (map token_of grants)) → k < length grants → row ≡ get_or grants k row
    → grant_of row.grant.token (drop (k + 1) grants) ≡ None → IsDistinct bytes_eq (map token_of (drop (k + 1) grants)) → IsDistinct bytes_eq (map token_of grants)
unfolding IsDistinct
differ_more grants k row so_far lt is alone rest =
    let split : drop k grants ≡ row ∷ drop (k + 1) grants = rw (drop_more grants k row lt, ← is) refl in
    so_far (subst (λ rows. IsDistinct bytes_eq (map token_of rows)) (sym split) (apart row.grant.token (drop (k + 1) grants) alone, rest))

pub differ_all : (grants : List GrantRow) (k : ℕ) → (IsDistinct bytes_eq (map token_of (drop k grants)) → IsDistinct bytes_eq (map token_of grants)) → length grants ≤ k → IsDistinct bytes_eq (map token_of grants)
unfolding IsDistinct
differ_all grants k so_far le = so_far (subst (λ rows. IsDistinct bytes_eq (map token_of rows)) (sym (drop_all k grants le)) tt)

small : (n m : ℕ) → nat_le n m ≡ true → n ≤ m
small n m le = grind (arith, nat_tests)

pub up_to : (number : ℕ) (grants : List GrantRow) → list_all (λ row. nat_le row.grant.since number) grants ≡ true → AllByRecursion (λ row. row.grant.since ≤ number) grants
up_to number grants all = all_hold (λ row. nat_le row.grant.since number) (λ row. row.grant.since ≤ number) grants (λ row le. small row.grant.since number le) all

pub since_from : (first : ℕ) (grants : List GrantRow) → list_all (λ row. nat_le first row.grant.since) grants ≡ true → AllByRecursion (λ row. first ≤ row.grant.since) grants
since_from first grants all = all_hold (λ row. nat_le first row.grant.since) (λ row. first ≤ row.grant.since) grants (λ row le. small first row.grant.since le) all
