-- Callers end with a 0, which none of them has.
use Rattle.std.proofs.Common.{◌≡◌, ◌<◌, ◌^◌, ℕ, List, [], ◌∷◌, ◌++◌, true, map, Less, Equal, refl, sym, ap, ◌∙◌}
use Rattle.std.specs.FinMap.{is_sorted}
use Rattle.std.specs.FinMap.Entries.{below_all}
use Rattle.std.specs.List.{AllByRecursion}
use Rattle.std.specs.List.Sorted.{IsStrictlySortedBy}
use Rattle.std.specs.Ordering.{is_lt, nat_cmp, ordering_then}
use Rattle.std.proofs.lemmas.Bool.{and_from}
use Rattle.item_maps.specs.Items.{bytes_cmp}
use Rattle.roster_base.specs.Order.{RiseBy}
use Rattle.version_core.specs.Grants.{caller_of}
use Rattle.version_core.specs.Marks.{mark_cmp, mark_key}
use Rattle.version_core.specs.declared.grant_row.GrantRow.{GrantRow}
use Rattle.version_core.specs.declared.mark.MarkRow.{MarkRow}
use Rattle.hub_format.specs.Format.{FitsMark, grants_under, mark_entry}
use Rattle.hub_format.specs.Pieces.{HasNoZero, caller_label, mark_label, number}
use Rattle.hub_format.proofs.Orders.{behind, greater_is, grouped, less_is, number_order}

pub ended : (a b x y : List ℕ) → HasNoZero a → HasNoZero b → bytes_cmp (a ++ 0 ∷ x) (b ++ 0 ∷ y) ≡ ordering_then (bytes_cmp a b) (bytes_cmp x y)
ended [] [] x y none_a none_b = refl
ended [] (c ∷ b) x y none_a none_b = ap (λ o. ordering_then o (bytes_cmp x (b ++ 0 ∷ y))) (less_is 0 c none_b.0)
ended (c ∷ a) [] x y none_a none_b = ap (λ o. ordering_then o (bytes_cmp (a ++ 0 ∷ x) y)) (greater_is c 0 none_a.0)
ended (c ∷ a) (d ∷ b) x y none_a none_b =
    ap (ordering_then (nat_cmp c d)) (ended a b x y none_a.1 none_b.1) ∙ sym (grouped (nat_cmp c d) (bytes_cmp a b) (bytes_cmp x y))

-- marks stand in the order of their labels
pub mark_order : (m n : MarkRow) → HasNoZero m.caller → HasNoZero n.caller → m.number < 2 ^ 64 → n.number < 2 ^ 64 → bytes_cmp (mark_label (mark_key m)) (mark_label (mark_key n)) ≡ mark_cmp m n
mark_order m n none_m none_n fits_m fits_n =
    ended m.caller n.caller (number m.number) (number n.number) none_m none_n
    ∙ ap (ordering_then (bytes_cmp m.caller n.caller)) (number_order m.number n.number fits_m fits_n)

caller_order : (a b : List ℕ) → HasNoZero a → HasNoZero b → bytes_cmp a b ≡ Less → bytes_cmp (caller_label a) (caller_label b) ≡ Less
caller_order a b none_a none_b less = ended a b [] [] none_a none_b ∙ ap (λ o. ordering_then o Equal) less

-- and so do grants
pub grants_rise : (version : ℕ) (grants : List GrantRow) → AllByRecursion (λ row. HasNoZero row.caller) grants → RiseBy caller_of grants → is_sorted bytes_cmp (grants_under version grants) ≡ true
unfolding IsStrictlySortedBy
grants_rise version [] none rise = refl
grants_rise version (row ∷ grants) none rise =
    and_from (below_all bytes_cmp (number version ++ caller_label row.caller) (grants_under version grants)) (is_sorted bytes_cmp (grants_under version grants)) (below grants none.1 rise.0) (grants_rise version grants none.1 rise.1)
  where
    below : (others : List GrantRow) → AllByRecursion (λ row. HasNoZero row.caller) others → AllByRecursion (λ caller. bytes_cmp row.caller caller ≡ Less) (map caller_of others)
        → below_all bytes_cmp (number version ++ caller_label row.caller) (grants_under version others) ≡ true
    below [] nones all = refl
    below (other ∷ others) nones all =
        and_from (is_lt (bytes_cmp (number version ++ caller_label row.caller) (number version ++ caller_label other.caller))) (below_all bytes_cmp (number version ++ caller_label row.caller) (grants_under version others))
        (ap is_lt (behind (number version) (caller_label row.caller) (caller_label other.caller) ∙ caller_order row.caller other.caller none.0 nones.0 all.0)) (below others nones.1 all.1)

-- and marks by their labels
pub marks_rise : (marks : List MarkRow) → AllByRecursion FitsMark marks → IsStrictlySortedBy mark_cmp marks → is_sorted bytes_cmp (map mark_entry marks) ≡ true
unfolding IsStrictlySortedBy
marks_rise [] fits rise = refl
marks_rise (mark ∷ marks) fits rise =
    and_from (below_all bytes_cmp (mark_label (mark_key mark)) (map mark_entry marks)) (is_sorted bytes_cmp (map mark_entry marks)) (below marks fits.1 rise.0) (marks_rise marks fits.1 rise.1)
  where
    below : (others : List MarkRow) → AllByRecursion FitsMark others → AllByRecursion (λ other. mark_cmp mark other ≡ Less) others → below_all bytes_cmp (mark_label (mark_key mark)) (map mark_entry others) ≡ true
    below [] each all = refl
    below (other ∷ others) each all =
        and_from (is_lt (bytes_cmp (mark_label (mark_key mark)) (mark_label (mark_key other)))) (below_all bytes_cmp (mark_label (mark_key mark)) (map mark_entry others))
        (ap is_lt (mark_order mark other fits.0.caller each.0.caller fits.0.number each.0.number ∙ all.0)) (below others each.1 all.1)
