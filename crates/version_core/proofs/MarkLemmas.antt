-- Marks in the order of callers and numbers.
use Rattle.std.proofs.Common.{◌≡◌, ◌+◌, ◌<◌, ◌≤◌, ◌∷◌, [], ℕ, zero, suc, Bool, List, None, Some, cond, true, false}
use Rattle.std.proofs.Common.{get_or, length, refl, sym, ap, subst, ◌∙◌, arith, inl, inr}
use Rattle.std.specs.Prelude.{◌==◌, bytes_eq}
use Rattle.std.proofs.lemmas.Bool.{and_from, cases_eq, cases_lt}
use Rattle.std.proofs.lemmas.Bool.Decides.{Decides-eqb}
use Rattle.std.proofs.lemmas.Cmp.{nat_cmp_total, nat_list_cmp_total, on_total, then_total, tied_itself}
use Rattle.std.proofs.lemmas.List.Recursion.{found_at, found_nowhere}
use Rattle.std.proofs.lemmas.List.Sorted.{searchable_from_sorted}
use Rattle.std.proofs.lemmas.List.Sums.{prefix_len_is}
use Rattle.std.proofs.lemmas.Map.Keys.{Less-from_sorted}
use Rattle.std.proofs.lemmas.Map.Lookups.{exact_pairs, exact_unsigned, exact_bytes}
use Rattle.std.proofs.lemmas.Slice.Eq.{bytes_eq-Decides}
use Rattle.std.specs.Cmp.{IsTotalOrder}
use Rattle.std.specs.Cmp.Lexicographic.{slice_cmp}
use Rattle.std.specs.List.{AllByRecursion, AllWithin, insert, prefix_len}
use Rattle.std.specs.List.Sorted.{IsNonDecreasingBy, IsPartitionedBy, IsStrictlySortedBy}
use Rattle.std.specs.Ordering.{is_eq, is_lt, nat_cmp, ordering_index, ordering_reverse}
use Rattle.std.specs.declared.cmp.Ordering.TheVariants.{Less, Equal, Greater}
use Rattle.version_core.specs.Marks.{AreMarks, CanMark, is_below, is_outcome, key_order, mark_at, mark_cmp, mark_key}
use Rattle.version_core.specs.Marks.{same_mark, with_mark}
use Rattle.version_core.specs.declared.mark.MarkRow.{MarkRow}
use Rattle.reference_rules.proofs.KeyOrder.{and_first, and_second, less_from_is_lt}

pub key_total : IsTotalOrder key_order
key_total = then_total (on_total (λ (k : List ℕ × ℕ). k.0) nat_list_cmp_total) (on_total (λ (k : List ℕ × ℕ). k.1) nat_cmp_total)

pub key_exact : (a b : List ℕ × ℕ) → key_order a b ≡ Equal → a ≡ b
key_exact = exact_pairs (slice_cmp nat_cmp) nat_cmp exact_bytes exact_unsigned

mark_total : IsTotalOrder mark_cmp
mark_total = on_total mark_key key_total

same_from : (a b : List ℕ × ℕ) → a ≡ b → same_mark a b ≡ true
same_from a b e = and_from (bytes_eq a.0 b.0) (a.1 == b.1) ((bytes_eq-Decides a.0 b.0).1 (ap (λ (k : List ℕ × ℕ). k.0) e)) ((Decides-eqb a.1 b.1).1 (ap (λ (k : List ℕ × ℕ). k.1) e))

pub from_same : (a b : List ℕ × ℕ) → same_mark a b ≡ true → a ≡ b
from_same a b e =
    let caller = (bytes_eq-Decides a.0 b.0).0 (and_first _ _ e) in
    let number = (Decides-eqb a.1 b.1).0 (and_second _ _ e) in
    λ i. (caller i, number i)

-- a mark has another key where its key is below or above
same_apart : (key other : List ℕ × ℕ) → is_eq (key_order other key) ≡ false → same_mark key other ≡ false
same_apart key other apart =
    elim (same_mark key other) as (λ b. same_mark key other ≡ b → b ≡ false) [
      | true ↦ λ same. let tied : key_order other key ≡ Equal = ap (key_order other) (from_same key other same) ∙ tied_itself key_total other in let e = ap is_eq tied in cc
      | false ↦ λ same. refl
    ] refl

same_tied : (key other : List ℕ × ℕ) → key_order other key ≡ Equal → same_mark key other ≡ true
same_tied key other tied = same_from key other (sym (key_exact other key tied))

greater_from_less : (a b : List ℕ × ℕ) → key_order a b ≡ Less → key_order b a ≡ Greater
greater_from_less a b e = key_total.antisymm b a ∙ ap ordering_reverse e

module _ (marks : List MarkRow) (rise : IsStrictlySortedBy mark_cmp marks) where
  -- a binary search may look for a key
  pub searchable : (key : List ℕ × ℕ) → IsNonDecreasingBy (λ mark. ordering_index (key_order (mark_key mark) key)) marks
  searchable key = searchable_from_sorted key_total mark_key marks key (λ m d low high. ap is_lt (greater_from_less (mark_key (get_or marks m d)) (mark_key (get_or marks (m + 1) d)) (Less-from_sorted mark_cmp marks m (m + 1) d rise (omega arith) (omega arith))))

  -- the mark that has the key is the one at its place
  pub mark_found : (key : List ℕ × ℕ) (i : ℕ) (d : MarkRow) → i < length marks → key_order (mark_key (get_or marks i d)) key ≡ Equal → mark_at key marks ≡ Some (get_or marks i d)
  mark_found key i d lt here =
      let same = sym (key_exact (mark_key (get_or marks i d)) key here) in
      found_at (mark_at key) (λ mark. same_mark key (mark_key mark)) (λ mark. Some mark) None refl (λ mark marks. refl) marks i d lt
      (λ j below. same_apart key (mark_key (get_or marks j d)) (ap (λ k. is_eq (key_order (mark_key (get_or marks j d)) k)) same ∙ ap is_eq (Less-from_sorted mark_cmp marks j i d rise below lt)))
      (same_tied key (mark_key (get_or marks i d)) here)

  -- those below a mark stand in front of the others
  pub parted : (mark : MarkRow) → IsPartitionedBy (is_below mark) marks
  parted mark i j d le len before = elim (cases_eq i j) [
    | inl same ↦ subst (λ k. is_below mark (get_or marks k d) ≡ true) (sym same) before
    | inr differ ↦ ap is_lt (mark_total.trans (get_or marks i d) (get_or marks j d) mark (Less-from_sorted mark_cmp marks i j d rise (omega arith) len) (less_from_is_lt _ before))
  ]

-- where each mark is below the key or above it none has it
pub mark_gap : (marks : List MarkRow) (key : List ℕ × ℕ) (place : ℕ) → AllWithin (λ mark. key_order (mark_key mark) key ≡ Less) marks 0 place → AllWithin (λ mark. key_order (mark_key mark) key ≡ Greater) marks place (length marks) → mark_at key marks ≡ None
mark_gap [] key place below above = refl
mark_gap (mark ∷ marks) key place below above =
    found_nowhere (mark_at key) (λ mark. same_mark key (mark_key mark)) (λ mark. Some mark) None refl (λ mark marks. refl) (mark ∷ marks) mark
    (λ i lt. same_apart key (mark_key (get_or (mark ∷ marks) i mark)) (elim (cases_lt i place) [
      | inl before ↦ ap is_eq (below i mark (omega arith) before)
      | inr from ↦ ap is_eq (above i mark from lt)
    ]))

pub place_is : (mark : MarkRow) (marks : List MarkRow) (place : ℕ) → place ≤ length marks → AllWithin (λ other. is_below mark other ≡ true) marks 0 place → AllWithin (λ other. is_below mark other ≡ false) marks place (length marks) → place ≡ prefix_len (is_below mark) marks
place_is mark marks place le below above = sym (prefix_len_is (is_below mark) marks place mark le (λ k lt. below k mark (omega arith) lt) (λ lt. above place mark (omega arith) lt))

AllByRecursion-insert : {X : Type 0} (P : X → Type 0) (xs : List X) (i : ℕ) (x : X) → AllByRecursion P xs → P x → AllByRecursion P (insert xs i x)
AllByRecursion-insert P xs zero x all here = (here, all)
AllByRecursion-insert P [] (suc i) x all here = (here, all)
AllByRecursion-insert P (y ∷ ys) (suc i) x all here = (all.0, AllByRecursion-insert P ys i x all.1 here)

all_above : (mark other : MarkRow) (marks : List MarkRow) → mark_cmp mark other ≡ Less → AllByRecursion (λ next. mark_cmp other next ≡ Less) marks → AllByRecursion (λ next. mark_cmp mark next ≡ Less) marks
all_above mark other [] less all = tt
all_above mark other (next ∷ marks) less all = (mark_total.trans mark other next less all.0, all_above mark other marks less all.1)

free_first : (mark other : MarkRow) (marks : List MarkRow) → mark_at (mark_key mark) (other ∷ marks) ≡ None → same_mark (mark_key mark) (mark_key other) ≡ false
free_first mark other marks free =
    elim (same_mark (mark_key mark) (mark_key other)) as (λ b. cond b (Some other) (mark_at (mark_key mark) marks) ≡ None → b ≡ false) [
      | true ↦ λ none. cc
      | false ↦ λ none. refl
    ] free

free_rest : (mark other : MarkRow) (marks : List MarkRow) → mark_at (mark_key mark) (other ∷ marks) ≡ None → mark_at (mark_key mark) marks ≡ None
free_rest mark other marks free = sym (ap (λ b. cond b (Some other) (mark_at (mark_key mark) marks)) (free_first mark other marks free)) ∙ free

-- the order stays
pub rise-with_mark : (mark : MarkRow) (marks : List MarkRow) → mark_at (mark_key mark) marks ≡ None → IsStrictlySortedBy mark_cmp marks → IsStrictlySortedBy mark_cmp (with_mark mark marks)
unfolding IsStrictlySortedBy
rise-with_mark mark [] free rise = (tt, tt)
rise-with_mark mark (other ∷ marks) free rise =
    elim (mark_cmp other mark) as (λ o. mark_cmp other mark ≡ o → IsStrictlySortedBy mark_cmp (insert (other ∷ marks) (cond (is_lt o) (1 + prefix_len (is_below mark) marks) 0) mark)) [
      | Less ↦ λ less.
          let place = prefix_len (is_below mark) marks in
          let one : suc place ≡ 1 + place = omega arith in
          subst (λ n. IsStrictlySortedBy mark_cmp (insert (other ∷ marks) n mark)) one
          (AllByRecursion-insert (λ next. mark_cmp other next ≡ Less) marks place mark rise.0 less, rise-with_mark mark marks (free_rest mark other marks free) rise.1)
      | Equal ↦ λ tied. let same = same_tied (mark_key mark) (mark_key other) tied in let apart = free_first mark other marks free in cc
      | Greater ↦ λ greater.
          let less : mark_cmp mark other ≡ Less = mark_total.antisymm mark other ∙ ap ordering_reverse greater in
          ((less, all_above mark other marks less rise.0), rise)
    ] refl

pub no_marks : (newest : ℕ) → AreMarks newest []
unfolding IsStrictlySortedBy
no_marks newest = record { outcomes = tt; versions = tt; rise = tt }

pub AreMarks-later : (newest later : ℕ) (marks : List MarkRow) → newest ≤ later → AreMarks newest marks → AreMarks later marks
AreMarks-later newest later marks le are = record { outcomes = are.outcomes; versions = later_all marks are.versions; rise = are.rise }
  where
    later_all : (marks : List MarkRow) → AllByRecursion (λ mark. mark.kept.version ≤ newest) marks → AllByRecursion (λ mark. mark.kept.version ≤ later) marks
    later_all [] all = tt
    later_all (mark ∷ marks) all = let here = all.0 in (omega (arith, here, le), later_all marks all.1)

pub AreMarks-with_mark : (newest : ℕ) (marks : List MarkRow) (mark : MarkRow) → AreMarks newest marks → CanMark newest marks mark → AreMarks newest (with_mark mark marks)
AreMarks-with_mark newest marks mark are can =
    let place = prefix_len (is_below mark) marks in
    record {
      outcomes = AllByRecursion-insert (λ mark. is_outcome mark.write.delete mark.kept.outcome ≡ true) marks place mark are.outcomes can.outcome;
      versions = AllByRecursion-insert (λ mark. mark.kept.version ≤ newest) marks place mark are.versions can.version;
      rise = rise-with_mark mark marks can.free are.rise;
    }

turned : {X : Type 0} (a b : Bool) (x y rest : X) → (a ≡ true → b ≡ true → ⊥) → cond a x (cond b y rest) ≡ cond b y (cond a x rest)
turned true true x y rest differ = absurd (differ refl refl)
turned true false x y rest differ = refl
turned false true x y rest differ = refl
turned false false x y rest differ = refl

-- the mark is found under its key, and under each other what was found before
pub mark_at-insert : (key : List ℕ × ℕ) (mark : MarkRow) (marks : List MarkRow) (place : ℕ) → mark_at (mark_key mark) marks ≡ None → mark_at key (insert marks place mark) ≡ cond (same_mark key (mark_key mark)) (Some mark) (mark_at key marks)
mark_at-insert key mark marks zero free = refl
mark_at-insert key mark [] (suc place) free = refl
mark_at-insert key mark (other ∷ marks) (suc place) free =
    ap (cond (same_mark key (mark_key other)) (Some other)) (mark_at-insert key mark marks place (free_rest mark other marks free))
    ∙ turned (same_mark key (mark_key other)) (same_mark key (mark_key mark)) (Some other) (Some mark) (mark_at key marks)
    (λ here there.
    let apart = free_first mark other marks free in
    let same = same_from (mark_key mark) (mark_key other) (sym (from_same key (mark_key mark) there) ∙ from_same key (mark_key other) here) in
    cc)
