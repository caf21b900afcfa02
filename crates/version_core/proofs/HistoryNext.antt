-- The next row of a kind, in histories.
use Rattle.std.proofs.Common.{◌≡◌, ℕ, suc, ◌+◌, ◌<◌, ◌≤◌, List, [], ◌∷◌, ◌++◌, Option, None, Some, Bool, true, false}
use Rattle.std.proofs.Common.{cond, not, ◌&&◌, eqb, length, take, drop, get_or, find, refl, sym, ap, subst, ◌∙◌, arith}
use Rattle.std.proofs.Common.{inl, inr}
use Rattle.std.proofs.lemmas.Bool.{cases_eq, cases_lt, false_from_ne_true, true_from_ne_false}
use Rattle.std.proofs.lemmas.Bool.Decides.{nat_tests}
use Rattle.std.proofs.lemmas.List.Folds.{find-append}
use Rattle.std.proofs.lemmas.List.{get_or_default, take_more}
use Rattle.std.specs.Cmp.Lexicographic.{slice_cmp}
use Rattle.std.specs.List.{AllByRecursion, AllWithin}
use Rattle.std.specs.List.Sorted.{IsPartitionedBy}
use Rattle.std.specs.Option.{option_or, option_to_list}
use Rattle.std.specs.Ordering.{is_gt, is_lt, nat_cmp, ordering_reverse}
use Rattle.std.specs.declared.cmp.Ordering.{Ordering}
use Rattle.std.specs.declared.cmp.Ordering.TheVariants.{Less, Equal, Greater}
use Rattle.reference_rules.proofs.KeyOrder.{and_first, and_second, key_exact, key_total, kind_le, less_from_is_lt}
use Rattle.reference_rules.proofs.KeyOrder.{same_kind}
use Rattle.roster_types.specs.Keys.{Ascends, Key, is_after, key_cmp}
use Rattle.version_core.specs.Changes.{change_key}
use Rattle.version_core.specs.History.{ArePasts, IsAt, IsGap, IsPast, history_key, is_beyond_key, past_key, past_of}
use Rattle.version_core.specs.History.{pasts_of, rows_at}
use Rattle.version_core.specs.Since.{standing}
use Rattle.version_core.specs.declared.history.History.{History}
use Rattle.version_core.specs.declared.row_change.RowChange.{RowChange}
use Rattle.version_core.proofs.HistoryLemmas.{Ascends-histories, all_at, all_before, all_drop, all_from, all_map}
use Rattle.version_core.proofs.HistoryLemmas.{all_take, all_unmap, drop_at, find_none, pasts_of-append, rows_at-append}
use Rattle.version_core.proofs.HistoryLemmas.{split_at, standing_keyed}
use Rattle.version_core.proofs.Places.{greater_from_less, less_at}

module _ (place : ℕ) (after : Option (List ℕ)) where
  abbrev pub is_next_key : Key → Bool
  is_next_key key = eqb key.0 place && is_after after key.1

turned : (o : Ordering) → is_gt o ≡ is_lt (ordering_reverse o)
turned Less = refl
turned Equal = refl
turned Greater = refl

beyond_lt : (place : ℕ) (after : List ℕ) (key : Key) → is_gt (key_cmp key (place, after)) ≡ is_lt (key_cmp (place, after) key)
beyond_lt place after key = turned (key_cmp key (place, after)) ∙ ap is_lt (sym (key_total.antisymm (place, after) key))

beyond_kind : (place : ℕ) (after : Option (List ℕ)) (key : Key) → is_beyond_key place after key ≡ true → place ≤ key.0
beyond_kind place None key e = grind (arith, nat_tests)
beyond_kind place (Some after) key e = kind_le (place, after) key (less_from_is_lt _ (sym (beyond_lt place after key) ∙ e))

beyond_from_next : (place : ℕ) (after : Option (List ℕ)) (key : Key) → is_next_key place after key ≡ true → is_beyond_key place after key ≡ true
beyond_from_next place None key e = let same : eqb key.0 place ≡ true = and_first _ _ e in grind (arith, nat_tests)
beyond_from_next place (Some after) key e =
    let same : key.0 ≡ place = let tested : eqb key.0 place ≡ true = and_first _ _ e in grind (arith, nat_tests) in
    beyond_lt place after key ∙ subst (λ k. is_lt (key_cmp (k, after) (key.0, key.1)) ≡ true) same (ap is_lt (same_kind key.0 after key.1) ∙ and_second _ _ e)

pub next_from_beyond : (place : ℕ) (after : Option (List ℕ)) (key : Key) → key.0 ≡ place → is_beyond_key place after key ≡ true → is_next_key place after key ≡ true
next_from_beyond place None key same e = grind (arith, nat_tests)
next_from_beyond place (Some after) key same e =
    let above : is_lt (slice_cmp nat_cmp after key.1) ≡ true = ap is_lt (sym (same_kind key.0 after key.1)) ∙ subst (λ k. is_lt (key_cmp (k, after) (key.0, key.1)) ≡ true) (sym same) (sym (beyond_lt place after key) ∙ e) in
    let tested : eqb key.0 place ≡ true = grind (arith, nat_tests) in
    ap (λ b. b && is_lt (slice_cmp nat_cmp after key.1)) tested ∙ above

beyond_more : (place : ℕ) (after : Option (List ℕ)) (key later : Key) → key_cmp key later ≡ Less → is_beyond_key place after key ≡ true → is_beyond_key place after later ≡ true
beyond_more place None key later less e = let le = kind_le key later less in grind (arith, nat_tests)
beyond_more place (Some after) key later less e =
    beyond_lt place after later ∙ ap is_lt (key_total.trans (place, after) key later (less_from_is_lt _ (sym (beyond_lt place after key) ∙ e)) less)

module _ (place : ℕ) (after : Option (List ℕ)) (histories : List History) (are : ArePasts (pasts_of histories)) where
  pub parted : IsPartitionedBy (λ history. not (is_beyond_key place after (history_key history))) histories
  parted i j d le len before = elim (cases_eq i j) [
    | inl same ↦ subst (λ k. not (is_beyond_key place after (history_key (get_or histories k d))) ≡ true) (sym same) before
    | inr differ ↦ true_from_ne_false _ (λ beyond. grind (arith, beyond_more place after (history_key (get_or histories i d)) (history_key (get_or histories j d)) (less_at history_key histories i j d (Ascends-histories histories are.ascend) (omega arith) len)))
  ]

module _ (version place : ℕ) (after : Option (List ℕ)) (histories : List History) (are : ArePasts (pasts_of histories)) where
  are_past : AllByRecursion (λ history. IsPast (past_of history)) histories
  are_past = all_unmap IsPast past_of histories are.all

  -- no row of histories whose keys aren't next is next
  none_of : (some : List History) → AllByRecursion (λ history. IsPast (past_of history)) some → AllByRecursion (λ history. is_next_key place after (history_key history) ≡ false) some → find (λ change. is_next_key place after (change_key change)) (rows_at version (pasts_of some)) ≡ None
  none_of some all none = find_none version (is_next_key place after) (pasts_of some) (all_map IsPast past_of some all) (all_map (λ past. is_next_key place after (past_key past) ≡ false) past_of some none)

  pub none_before : (n : ℕ) → n ≤ length histories → AllWithin (λ history. is_beyond_key place after (history_key history) ≡ false) histories 0 n → find (λ change. is_next_key place after (change_key change)) (rows_at version (pasts_of (take n histories))) ≡ None
  none_before n le before =
      none_of (take n histories) (all_take (λ history. IsPast (past_of history)) histories n are_past)
      (all_before (λ history. is_next_key place after (history_key history) ≡ false) histories n le (λ i d lt. false_from_ne_true _ (λ next. grind (arith, before i d (omega arith) lt, beyond_from_next place after (history_key (get_or histories i d)) next))))

  -- both parts
  find_parts : (n : ℕ) → n ≤ length histories → find (λ change. is_next_key place after (change_key change)) (rows_at version (pasts_of (take n histories))) ≡ None → find (λ change. is_next_key place after (change_key change)) (rows_at version (pasts_of histories)) ≡ find (λ change. is_next_key place after (change_key change)) (rows_at version (pasts_of (drop n histories)))
  find_parts n le none =
      ap (λ hs. find (λ change. is_next_key place after (change_key change)) (rows_at version (pasts_of hs))) (split_at histories n le)
      ∙ ap (λ ps. find (λ change. is_next_key place after (change_key change)) (rows_at version ps)) (pasts_of-append (take n histories) (drop n histories))
      ∙ ap (find (λ change. is_next_key place after (change_key change))) (rows_at-append version (pasts_of (take n histories)) (pasts_of (drop n histories)))
      ∙ find-append (λ change. is_next_key place after (change_key change)) (rows_at version (pasts_of (take n histories))) (rows_at version (pasts_of (drop n histories)))
      ∙ ap (λ o. option_or o (find (λ change. is_next_key place after (change_key change)) (rows_at version (pasts_of (drop n histories))))) none

  module _ (n : ℕ) (lt : n < length histories) (history : History) (here : history ≡ get_or histories n history) (none : find (λ change. is_next_key place after (change_key change)) (rows_at version (pasts_of (take n histories))) ≡ None) (beyond : AllWithin (λ history. is_beyond_key place after (history_key history) ≡ true) histories n (length histories)) where
    beyond_here : is_beyond_key place after (history_key history) ≡ true
    beyond_here = subst (λ h. is_beyond_key place after (history_key h) ≡ true) (sym here) (beyond n history (omega arith) lt)

    -- the history at the place has the next row
    pub next_here : (change : RowChange) → (history_key history).0 ≡ place → standing version (past_of history) ≡ Some change → find (λ change. is_next_key place after (change_key change)) (rows_at version (pasts_of histories)) ≡ Some change
    next_here change same stands =
        let past : IsPast (past_of history) = subst (λ h. IsPast (past_of h)) (sym here) (all_at (λ h. IsPast (past_of h)) histories n history are_past lt) in
        let passes : is_next_key place after (change_key change) ≡ true = ap (is_next_key place after) (standing_keyed version (history_key history) (past_of history) change past.same stands) ∙ next_from_beyond place after (history_key history) same beyond_here in
        find_parts n (omega arith) none
        ∙ ap (λ hs. find (λ change. is_next_key place after (change_key change)) (rows_at version (pasts_of hs))) (drop_at histories n history lt ∙ ap (λ h. h ∷ drop (suc n) histories) (sym here))
        ∙ ap (λ o. find (λ change. is_next_key place after (change_key change)) (option_to_list o ++ rows_at version (pasts_of (drop (suc n) histories)))) stands
        ∙ ap (λ b. cond b (Some change) (find (λ change. is_next_key place after (change_key change)) (rows_at version (pasts_of (drop (suc n) histories))))) passes

    -- the history at the place has no row at the version
    pub none_more : standing version (past_of history) ≡ None → find (λ change. is_next_key place after (change_key change)) (rows_at version (pasts_of (take (n + 1) histories))) ≡ None
    none_more stands =
        ap (λ hs. find (λ change. is_next_key place after (change_key change)) (rows_at version (pasts_of hs))) (take_more histories n history lt ∙ ap (λ h. take n histories ++ h ∷ []) (sym here))
        ∙ ap (λ ps. find (λ change. is_next_key place after (change_key change)) (rows_at version ps)) (pasts_of-append (take n histories) (history ∷ []))
        ∙ ap (find (λ change. is_next_key place after (change_key change))) (rows_at-append version (pasts_of (take n histories)) (past_of history ∷ []))
        ∙ find-append (λ change. is_next_key place after (change_key change)) (rows_at version (pasts_of (take n histories))) (rows_at version (past_of history ∷ []))
        ∙ ap (λ o. option_or o (find (λ change. is_next_key place after (change_key change)) (rows_at version (past_of history ∷ [])))) none
        ∙ ap (λ o. find (λ change. is_next_key place after (change_key change)) (option_to_list o ++ [])) stands

    -- the history at the place is of a later kind, and so are all from there
    pub none_from : ((history_key history).0 ≡ place → ⊥) → find (λ change. is_next_key place after (change_key change)) (rows_at version (pasts_of histories)) ≡ None
    none_from other =
        let above : place < (history_key history).0 = let le = beyond_kind place after (history_key history) beyond_here in elim (cases_eq (history_key history).0 place) [ inl same ↦ absurd (other same) | inr differ ↦ omega arith ] in
        find_parts n (omega arith) none
        ∙ none_of (drop n histories) (all_drop (λ history. IsPast (past_of history)) histories n are_past)
        (all_from (λ history. is_next_key place after (history_key history) ≡ false) histories n (λ i d le lt'. false_from_ne_true _ (λ next.
        let tested : eqb (history_key (get_or histories i d)).0 place ≡ true = and_first _ _ next in
        let same : (history_key (get_or histories i d)).0 ≡ place = grind (arith, nat_tests) in
        let up : (history_key history).0 ≤ (history_key (get_or histories i d)).0 = elim (cases_eq n i) [
          | inl at ↦ let e : (history_key history).0 ≡ (history_key (get_or histories i d)).0 = ap (λ h. (history_key h).0) (here ∙ get_or_default histories n history d lt ∙ ap (λ m. get_or histories m d) at) in omega arith
          | inr apart ↦ let less = kind_le _ _ (less_at history_key histories n i d (Ascends-histories histories are.ascend) (omega arith) lt') in
              let e : (history_key history).0 ≡ (history_key (get_or histories n d)).0 = ap (λ h. (history_key h).0) (here ∙ get_or_default histories n history d lt) in omega arith
        ] in
        absurd (omega arith))))

-- behind the history that has the key
pub gap_behind : (place : ℕ) (after : List ℕ) (histories : List History) (i gap : ℕ) → Ascends history_key histories → i + 1 ≡ gap → IsAt (place, after) histories i → IsGap place (Some after) histories gap
gap_behind place after histories i gap up next at = record {
  bound = let lt = at.bound in omega arith;
  before = λ j d le lt. elim (cases_lt j i) [
    | inl below ↦ ap is_gt (subst (λ k. key_cmp (history_key (get_or histories j d)) k ≡ Less) (key_exact _ _ (at.same d)) (less_at history_key histories j i d up below at.bound))
    | inr from ↦ ap is_gt (ap (λ m. key_cmp (history_key (get_or histories m d)) (place, after)) (let same : j ≡ i = omega arith in same) ∙ at.same d)
  ];
  beyond = λ j d le lt.
      ap is_gt (subst (λ k. key_cmp (history_key (get_or histories j d)) k ≡ Greater) (key_exact _ _ (at.same d)) (greater_from_less _ _ (less_at history_key histories i j d up (omega arith) lt)));
}
