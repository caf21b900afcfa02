use Rattle.std.proofs.Common.{◌≡◌, ◌+◌, ◌-◌, true, false, List, [], ◌∷◌, ℕ, get_or, map, refl, sym, subst, ap, ◌∙◌}
use Rattle.std.proofs.Common.{arith, inl, inr}
use Rattle.std.specs.Cmp.Lexicographic.{slice_cmp}
use Rattle.std.specs.List.Sorted.{IsStrictlySortedBy}
use Rattle.std.specs.Ordering.{is_lt, nat_cmp}
use Rattle.std.proofs.lemmas.Bool.{cases_eq}
use Rattle.std.proofs.lemmas.Cmp.{nat_list_cmp_total}
use Rattle.std.proofs.lemmas.List.{get_or_default}
use Rattle.std.proofs.lemmas.Map.Keys.{Less-from_sorted, sorted_from_all_adjacent}
use Rattle.roster_base.proofs.Rising.{is_less}
use Rattle.grant_scopes.proofs.schools.rise.Goals as goal

same_list : (ids : List (List ℕ)) → ids ≡ map (λ id. id) ids
same_list [] = refl
same_list (id ∷ ids) = ap (λ rest. id ∷ rest) (same_list ids)

pub loop-place-preserved : goal.loop-place-preserved
loop-place-preserved c = λ k d lt. elim (cases_eq (k + 1) c.loop-place.place) [
  | inl same ↦
      let ids = c.args.ids.now in
      let at : c.loop-place.place - 1 ≡ k = omega arith in
      let a = c.index-ids-place.result in
      let b = c.index-ids-place-in-loop-place.result in
      let low : a ≡ get_or ids k d = c.index-ids-place.is ∙ ap (λ i. get_or ids i a) at ∙ get_or_default ids k a d (omega (arith, c.loop-place-test.true)) in
      let high : b ≡ get_or ids (k + 1) d = c.index-ids-place-in-loop-place.is ∙ ap (λ i. get_or ids i b) (sym same) ∙ get_or_default ids (k + 1) b d (omega (arith, c.loop-place-test.true)) in
      let below : is_lt (slice_cmp nat_cmp a b) ≡ true = sym c.is_below.ensures ∙ c.if-not-is_below.false in
      is_less _ (rw (low, high) at below)
  | inr apart ↦ c.loop-place.invariant k d (omega arith)
]

pub returns-clause-yes : goal.returns-clause-yes
returns-clause-yes c = λ yes.
    let ids = c.args.ids.now in
    subst (IsStrictlySortedBy (slice_cmp nat_cmp)) (same_list ids)
    (sorted_from_all_adjacent nat_list_cmp_total ids [] (λ k lt. c.loop-place.invariant k [] (omega (arith, c.loop-place-test.false))))

pub returns-then-not-is_below-clause-no : goal.returns-then-not-is_below-clause-no
returns-then-not-is_below-clause-no c = λ _ rising.
    let ids = c.args.ids.now in
    let place = c.loop-place.place in
    let a = c.index-ids-place.result in
    let b = c.index-ids-place-in-loop-place.result in
    let low : a ≡ get_or ids (place - 1) [] = c.index-ids-place.is ∙ get_or_default ids (place - 1) a [] (omega (arith, c.loop-place-test.true)) in
    let high : b ≡ get_or ids place [] = c.index-ids-place-in-loop-place.is ∙ get_or_default ids place b [] (omega (arith, c.loop-place-test.true)) in
    let less = Less-from_sorted (slice_cmp nat_cmp) ids (place - 1) place [] (subst (IsStrictlySortedBy (slice_cmp nat_cmp)) (sym (same_list ids)) rising) (omega (arith, c.loop-place.auto.place)) (omega (arith, c.loop-place-test.true)) in
    let below : is_lt (slice_cmp nat_cmp a b) ≡ true = (λ i. is_lt (slice_cmp nat_cmp (low i) (high i))) ∙ ap is_lt less in
    let apart : is_lt (slice_cmp nat_cmp a b) ≡ false = sym c.is_below.ensures ∙ c.if-not-is_below.true in
    cc
