-- The first row over runs of entries.
use Rattle.std.proofs.Common.{◌≡◌, ℕ, ◌+◌, Bool, true, false, cond, List, Option, None, Some, get_or, refl, sym, ap}
use Rattle.std.proofs.Common.{subst, ◌∙◌, arith, inl, inr}
use Rattle.std.proofs.lemmas.Bool.{cases_lt}
use Rattle.std.proofs.lemmas.Cmp.{nat_list_cmp_total, upto}
use Rattle.std.specs.Cmp.Lexicographic.{slice_cmp}
use Rattle.std.specs.Ordering.{is_gt, is_lt, nat_cmp}
use Rattle.std.specs.declared.cmp.Ordering.{Ordering}
use Rattle.std.specs.declared.cmp.Ordering.TheVariants.{Less, Equal, Greater}
use Rattle.roster_types.specs.Records.{Record}
use Rattle.version_core.proofs.NamingLemmas.{gt_reverse}
use Rattle.version_core.specs.RefIndex.{AllOf, AllUpTo, Fails, FirstOf, IsNotBelow, Named, lesser}
use Rattle.version_core.specs.declared.ref_index.RefEntry.{RefEntry}

-- not below is at most, turned
gt_turned : (a b : List ℕ) → is_gt (slice_cmp nat_cmp a b) ≡ is_lt (slice_cmp nat_cmp b a)
gt_turned a b = ap is_gt (nat_list_cmp_total.antisymm a b) ∙ gt_reverse (slice_cmp nat_cmp b a)

-- what isn't below one isn't below a lesser or equal one
not_below_through : (id one other : List ℕ) → is_lt (slice_cmp nat_cmp id one) ≡ false → is_lt (slice_cmp nat_cmp one other) ≡ false → is_lt (slice_cmp nat_cmp id other) ≡ false
not_below_through id one other high low =
    sym (gt_turned other id) ∙ upto nat_list_cmp_total other one id (gt_turned other one ∙ low) (gt_turned one id ∙ high)

not_back : (a b : List ℕ) → is_lt (slice_cmp nat_cmp a b) ≡ true → is_lt (slice_cmp nat_cmp b a) ≡ false
not_back a b less = sym (gt_turned a b) ∙ not_both (slice_cmp nat_cmp a b) less
  where
    not_both : (o : Ordering) → is_lt o ≡ true → is_gt o ≡ false
    not_both Less e = refl
    not_both Equal e = cc
    not_both Greater e = cc

module _ (test : Record → Bool) (rows : List Record) (named : Named) where
  vacuous : (id : List ℕ) (entries : List RefEntry) → AllOf entries (Fails test rows named) → AllOf entries (IsNotBelow test rows named id)
  vacuous id entries fails k d low lt of passes = let impossible : true ≡ false = sym passes ∙ fails k d low lt of in cc

  lower : (id other : List ℕ) (entries : List RefEntry) → is_lt (slice_cmp nat_cmp id other) ≡ false → AllOf entries (IsNotBelow test rows named id) → AllOf entries (IsNotBelow test rows named other)
  lower id other entries le all k d low lt of passes = not_below_through (get_or entries k d).id id other (all k d low lt of passes) le

  module _ (runs : List (List RefEntry)) (i : ℕ) (run : List RefEntry) (here : (d : List RefEntry) → get_or runs i d ≡ run) where
    -- one run more
    more : (P Q R : RefEntry → Type 0) → ((entries : List RefEntry) → AllOf entries P → AllOf entries R) → ((entries : List RefEntry) → AllOf entries Q → AllOf entries R) → AllUpTo runs i P → AllOf run Q → AllUpTo runs (i + 1) R
    more P Q R from_P from_Q all one k d low lt = elim (cases_lt k i) [
      | inl before ↦ from_P (get_or runs k d) (all k d low before)
      | inr from ↦
          let same : k ≡ i = omega arith in
          subst (λ entries. AllOf entries R) (sym (ap (λ n. get_or runs n d) same ∙ here d)) (from_Q run one)
    ]

    pub first_more : (first next : Option Record) → FirstOf test rows named (AllUpTo runs i) first → FirstOf test rows named (AllOf run) next → FirstOf test rows named (AllUpTo runs (i + 1)) (lesser first next)
    first_more None None all one = more (Fails test rows named) (Fails test rows named) (Fails test rows named) (λ _ a. a) (λ _ a. a) all one
    first_more None (Some row) all one = record {
      stands = one.stands;
      passes = one.passes;
      least = more (Fails test rows named) (IsNotBelow test rows named row.id) (IsNotBelow test rows named row.id) (vacuous row.id) (λ _ a. a) all one.least;
    }
    first_more (Some row) None all one = record {
      stands = all.stands;
      passes = all.passes;
      least = more (IsNotBelow test rows named row.id) (Fails test rows named) (IsNotBelow test rows named row.id) (λ _ a. a) (vacuous row.id) all.least one;
    }
    first_more (Some row) (Some other) all one =
        elim (is_lt (slice_cmp nat_cmp other.id row.id)) as (λ b. is_lt (slice_cmp nat_cmp other.id row.id) ≡ b → FirstOf test rows named (AllUpTo runs (i + 1)) (cond b (Some other) (Some row))) [
          | true ↦ λ below. record {
            stands = one.stands;
            passes = one.passes;
            least = more (IsNotBelow test rows named row.id) (IsNotBelow test rows named other.id) (IsNotBelow test rows named other.id) (λ entries. lower row.id other.id entries (not_back other.id row.id below)) (λ _ a. a) all.least one.least;
          }
          | false ↦ λ not_below. record {
            stands = all.stands;
            passes = all.passes;
            least = more (IsNotBelow test rows named row.id) (IsNotBelow test rows named other.id) (IsNotBelow test rows named row.id) (λ _ a. a) (λ entries. lower other.id row.id entries not_below) all.least one.least;
          }
        ] refl
