-- The items of a kind, which lie side by side in the order of kinds: how many there are, and what stands in them.
use Rattle.std.proofs.Common.{◌≡◌, ℕ, zero, suc, ◌+◌, ◌-◌, ◌<◌, ◌≤◌, List, [], ◌∷◌, ◌++◌, Bool, true, false, cond, leb}
use Rattle.std.proofs.Common.{ltb, eqb, Option, Some, None, drop, filter, get_or, is_some, length, option_and_then}
use Rattle.std.proofs.Common.{option_map, slice_get, slice_range, take, refl, sym, ap, ◌∙◌, arith, inl, inr}
use Rattle.std.specs.Prelude.{◌==◌, count_by}
use Rattle.std.proofs.lemmas.Bool.{cases_eq, cases_lt}
use Rattle.std.proofs.lemmas.Bool.Decides.{nat_tests}
use Rattle.std.proofs.lemmas.List.Sums.{prefix_len_is, sum_by-cons}
use Rattle.std.specs.List.{AllByRecursion, AllWithin, prefix_len}
use Rattle.std.specs.List.Sorted.{IsPartitionedBy}
use Rattle.std.specs.Option.{option_or, option_to_list}
use Rattle.roster_types.specs.Keys.{Ascends, Key, count_of, is_of_kind}
use Rattle.roster_types.specs.Records.{Record}
use Rattle.roster_values.specs.Kinds.{place_of_kind}
use Rattle.roster_values.specs.declared.kind.Kind.{Kind}
use Rattle.reference_rules.proofs.KeyOrder.{and_first, and_second, kind_le, less_from_is_lt}
use Rattle.version_core.specs.Changes.{rows_of}
use Rattle.version_core.specs.History.{AreUpTo, IsPast, Past, history_key, is_past_of, past_key, past_of, pasts_of}
use Rattle.version_core.specs.History.{rows_at}
use Rattle.version_core.specs.Since.{standing}
use Rattle.version_core.specs.declared.history.History.{History}
use Rattle.version_core.specs.declared.row_change.RowChange.{RowChange}
use Rattle.version_core.specs.declared.since.Since.{Since}
use Rattle.version_core.proofs.HistoryLemmas.{standing_keyed}
use Rattle.version_core.proofs.Places.{less_at}

pub count-cons : {X : Type 0} (p : X → Bool) (x : X) (xs : List X) → count_by p (x ∷ xs) ≡ cond (p x) 1 0 + count_by p xs
count-cons p x xs = sum_by-cons (λ x. cond (p x) 1 0) x xs

pub prefix_is : {X : Type 0} (p : X → Bool) (xs : List X) (n : ℕ) → n ≤ length xs → AllWithin (λ x. p x ≡ true) xs 0 n → AllWithin (λ x. p x ≡ false) xs n (length xs) → prefix_len p xs ≡ n
prefix_is p [] n le before from = omega arith
prefix_is p (x ∷ xs) n le before from = prefix_len_is p (x ∷ xs) n x le (λ k lt. before k x (omega arith) lt) (λ lt. from n x (omega arith) lt)

module _ {X : Type 0} (key : X → Key) (place : ℕ) where
  abbrev below : X → Bool
  below x = ltb (key x).0 place

  abbrev through : X → Bool
  through x = leb (key x).0 place

  abbrev of_kind : X → Bool
  of_kind x = (key x).0 == place

  none_below : (x : X) (xs : List X) → Ascends key (x ∷ xs) → place ≤ (key x).0 → prefix_len below xs ≡ 0
  none_below x [] up le = refl
  none_below x (y ∷ xs) up le =
      let upward = kind_le (key x) (key y) (less_from_is_lt _ (and_first _ _ (and_first _ _ up))) in
      let no : ltb (key y).0 place ≡ false = let from : place ≤ (key y).0 = omega (arith, le, upward) in grind (arith, nat_tests) in
      ap (λ b. cond b (1 + prefix_len below xs) 0) no

  none_through : (x : X) (xs : List X) → Ascends key (x ∷ xs) → place < (key x).0 → prefix_len through xs ≡ 0
  none_through x [] up lt = refl
  none_through x (y ∷ xs) up lt =
      let upward = kind_le (key x) (key y) (less_from_is_lt _ (and_first _ _ (and_first _ _ up))) in
      let no : leb (key y).0 place ≡ false = let from : place < (key y).0 = omega (arith, lt, upward) in grind (arith, nat_tests) in
      ap (λ b. cond b (1 + prefix_len through xs) 0) no

  -- those below the kind and those of it are all up to it
  pub count_between : (xs : List X) → Ascends key xs → count_by of_kind xs + prefix_len below xs ≡ prefix_len through xs
  count_between [] up = refl
  count_between (x ∷ xs) up =
      let rest = count_between xs (and_second _ _ up) in
      elim (cases_lt (key x).0 place) [
        | inl lt ↦
            let no : eqb (key x).0 place ≡ false = grind (arith, nat_tests) in
            let under : ltb (key x).0 place ≡ true = grind (arith, nat_tests) in
            let in_reach : leb (key x).0 place ≡ true = grind (arith, nat_tests) in
            let count = count-cons of_kind x xs ∙ ap (λ b. cond b 1 0 + count_by of_kind xs) no in
            let low = ap (λ b. cond b (1 + prefix_len below xs) 0) under in
            let high = ap (λ b. cond b (1 + prefix_len through xs) 0) in_reach in
            omega (arith, count, low, high, rest)
        | inr le ↦ elim (cases_eq (key x).0 place) [
          | inl same ↦
              let yes : eqb (key x).0 place ≡ true = grind (arith, nat_tests) in
              let over : ltb (key x).0 place ≡ false = grind (arith, nat_tests) in
              let in_reach : leb (key x).0 place ≡ true = grind (arith, nat_tests) in
              let count = count-cons of_kind x xs ∙ ap (λ b. cond b 1 0 + count_by of_kind xs) yes in
              let low = ap (λ b. cond b (1 + prefix_len below xs) 0) over in
              let high = ap (λ b. cond b (1 + prefix_len through xs) 0) in_reach in
              let none = none_below x xs up le in
              omega (arith, count, low, high, rest, none)
          | inr apart ↦
              let far : place < (key x).0 = omega arith in
              let no : eqb (key x).0 place ≡ false = grind (arith, nat_tests) in
              let over : ltb (key x).0 place ≡ false = grind (arith, nat_tests) in
              let beyond : leb (key x).0 place ≡ false = grind (arith, nat_tests) in
              let count = count-cons of_kind x xs ∙ ap (λ b. cond b 1 0 + count_by of_kind xs) no in
              let low = ap (λ b. cond b (1 + prefix_len below xs) 0) over in
              let high = ap (λ b. cond b (1 + prefix_len through xs) 0) beyond in
              let none = none_through x xs up far in
              omega (arith, count, low, high, rest, none)
        ]
      ]

  -- those of the kind lie behind those below it
  pub kept_between : (xs : List X) → Ascends key xs → slice_range xs (prefix_len below xs) (prefix_len through xs) ≡ filter of_kind xs
  kept_between [] up = refl
  kept_between (x ∷ xs) up =
      let low = prefix_len below xs in
      let high = prefix_len through xs in
      let rest = kept_between xs (and_second _ _ up) in
      elim (cases_lt (key x).0 place) [
        | inl lt ↦
            let no : eqb (key x).0 place ≡ false = grind (arith, nat_tests) in
            let under : ltb (key x).0 place ≡ true = grind (arith, nat_tests) in
            let in_reach : leb (key x).0 place ≡ true = grind (arith, nat_tests) in
            let from : prefix_len below (x ∷ xs) ≡ suc low = ap (λ b. cond b (1 + low) 0) under ∙ omega arith in
            let to : prefix_len through (x ∷ xs) ≡ suc high = ap (λ b. cond b (1 + high) 0) in_reach ∙ omega arith in
            let long : suc high - suc low ≡ high - low = omega arith in
            (λ i. slice_range (x ∷ xs) (from i) (to i)) ∙ ap (λ n. take n (drop low xs)) long ∙ rest ∙ sym (ap (λ b. cond b (x ∷ filter of_kind xs) (filter of_kind xs)) no)
        | inr le ↦ elim (cases_eq (key x).0 place) [
          | inl same ↦
              let yes : eqb (key x).0 place ≡ true = grind (arith, nat_tests) in
              let over : ltb (key x).0 place ≡ false = grind (arith, nat_tests) in
              let in_reach : leb (key x).0 place ≡ true = grind (arith, nat_tests) in
              let from : prefix_len below (x ∷ xs) ≡ 0 = ap (λ b. cond b (1 + low) 0) over in
              let to : prefix_len through (x ∷ xs) ≡ suc high = ap (λ b. cond b (1 + high) 0) in_reach ∙ omega arith in
              let none = none_below x xs up le in
              let long : suc high - 0 ≡ suc high = omega arith in
              let all : high - 0 ≡ high = omega arith in
              (λ i. slice_range (x ∷ xs) (from i) (to i)) ∙ ap (λ n. take n (x ∷ xs)) long
              ∙ ap (λ ys. x ∷ ys) (sym (ap (λ n. take n xs) all) ∙ ap (λ n. slice_range xs n high) (sym none) ∙ rest)
              ∙ sym (ap (λ b. cond b (x ∷ filter of_kind xs) (filter of_kind xs)) yes)
          | inr apart ↦
              let far : place < (key x).0 = omega arith in
              let no : eqb (key x).0 place ≡ false = grind (arith, nat_tests) in
              let over : ltb (key x).0 place ≡ false = grind (arith, nat_tests) in
              let beyond : leb (key x).0 place ≡ false = grind (arith, nat_tests) in
              let from : prefix_len below (x ∷ xs) ≡ 0 = ap (λ b. cond b (1 + low) 0) over in
              let to : prefix_len through (x ∷ xs) ≡ 0 = ap (λ b. cond b (1 + high) 0) beyond in
              let none = none_through x xs up far in
              let short : high - low ≡ 0 = omega (arith, none) in
              (λ i. slice_range (x ∷ xs) (from i) (to i)) ∙ sym (ap (λ n. take n (drop low xs)) short) ∙ rest ∙ sym (ap (λ b. cond b (x ∷ filter of_kind xs) (filter of_kind xs)) no)
        ]
      ]

  pub parted_below : (xs : List X) → Ascends key xs → IsPartitionedBy below xs
  parted_below xs up i j d le len before = elim (cases_eq i j) [
    | inl same ↦ ap (λ k. below (get_or xs k d)) same ∙ before
    | inr apart ↦
        let upward = kind_le (key (get_or xs i d)) (key (get_or xs j d)) (less_at key xs i j d up (omega arith) len) in
        grind (arith, nat_tests)
  ]

  pub parted_through : (xs : List X) → Ascends key xs → IsPartitionedBy through xs
  parted_through xs up i j d le len before = elim (cases_eq i j) [
    | inl same ↦ ap (λ k. through (get_or xs k d)) same ∙ before
    | inr apart ↦
        let upward = kind_le (key (get_or xs i d)) (key (get_or xs j d)) (less_at key xs i j d up (omega arith) len) in
        grind (arith, nat_tests)
  ]

-- where no entry is younger something stands
standing_some : (v : ℕ) (past : Past) → 0 < length past → AllByRecursion (λ (entry : Since RowChange). entry.version ≤ v) past → (change : RowChange) × (standing v past ≡ Some change)
standing_some v [] some up = absurd (omega arith)
standing_some v (entry ∷ past) some up =
    let here = up.0 in
    let now : leb entry.version v ≡ true = let e : entry.version ≤ v = omega (arith, here) in grind (arith, nat_tests) in
    elim (standing v past) as (λ o. (change : RowChange) × (option_or o (cond (leb entry.version v) (Some entry.value) None) ≡ Some change)) [
      | None ↦ (entry.value, ap (λ b. cond b (Some entry.value) None) now)
      | Some change ↦ (change, refl)
    ]

-- each history has a row that stands
pub count_histories : (kind : Kind) (v : ℕ) (histories : List History) → AllByRecursion IsPast (pasts_of histories) → AreUpTo v (pasts_of histories) → count_by (of_kind history_key (place_of_kind kind)) histories ≡ count_of kind (rows_of (rows_at v (pasts_of histories)))
count_histories kind v [] all up = refl
count_histories kind v (history ∷ histories) all up =
    let past = past_of history in
    let rest = rows_at v (pasts_of histories) in
    let stands = standing_some v past all.0.some up.0 in
    let key = standing_keyed v (past_key past) past stands.0 all.0.same stands.1 in
    count-cons (of_kind history_key (place_of_kind kind)) history histories
    ∙ (λ i. cond ((sym key i).0 == place_of_kind kind) 1 0 + count_histories kind v histories all.1 up.1 i)
    ∙ sym (count-cons (is_of_kind kind) stands.0.row (rows_of rest))
    ∙ ap (λ o. count_of kind (rows_of (option_to_list o ++ rest))) (sym stands.1)

-- what stands in a past of a kind is of the kind
kind_stands : (kind : Kind) (v : ℕ) (history : History) (change : RowChange) → IsPast (past_of history) → standing v (past_of history) ≡ Some change → is_of_kind kind change.row ≡ is_past_of kind history
kind_stands kind v history change is stands = ap (λ (k : Key). k.0 == place_of_kind kind) (standing_keyed v (past_key (past_of history)) (past_of history) change is.same stands)

-- the rows of a kind are those of its histories
pub rows_of_kind : (kind : Kind) (v : ℕ) (histories : List History) → AllByRecursion IsPast (pasts_of histories)
    → filter (is_of_kind kind) (rows_of (rows_at v (pasts_of histories))) ≡ rows_of (rows_at v (pasts_of (filter (is_past_of kind) histories)))
rows_of_kind kind v [] all = refl
rows_of_kind kind v (history ∷ histories) all =
    let past = past_of history in
    let rest = rows_at v (pasts_of histories) in
    let kept = filter (is_past_of kind) histories in
    let so = rows_of_kind kind v histories all.1 in
    elim (standing v past) as (λ o. standing v past ≡ o → filter (is_of_kind kind) (rows_of (option_to_list o ++ rest)) ≡ rows_of (rows_at v (pasts_of (cond (is_past_of kind history) (history ∷ kept) kept)))) [
      | None ↦ λ none. elim (is_past_of kind history) as (λ b. filter (is_of_kind kind) (rows_of rest) ≡ rows_of (rows_at v (pasts_of (cond b (history ∷ kept) kept)))) [
        | true ↦ so ∙ sym (ap (λ o. rows_of (option_to_list o ++ rows_at v (pasts_of kept))) none)
        | false ↦ so
      ]
      | Some change ↦ λ stands.
          ap (λ b. cond b (change.row ∷ filter (is_of_kind kind) (rows_of rest)) (filter (is_of_kind kind) (rows_of rest))) (kind_stands kind v history change all.0 stands)
          ∙ elim (is_past_of kind history) as (λ b. cond b (change.row ∷ filter (is_of_kind kind) (rows_of rest)) (filter (is_of_kind kind) (rows_of rest)) ≡ rows_of (rows_at v (pasts_of (cond b (history ∷ kept) kept)))) [
            | true ↦ ap (λ ys. change.row ∷ ys) so ∙ sym (ap (λ o. rows_of (option_to_list o ++ rows_at v (pasts_of kept))) stands)
            | false ↦ so
          ]
    ] refl

-- what holds of each past holds of each that is kept
pub pasts_kept : (P : Past → Type 0) (q : History → Bool) (histories : List History) → AllByRecursion P (pasts_of histories) → AllByRecursion P (pasts_of (filter q histories))
pasts_kept P q [] all = all
pasts_kept P q (history ∷ histories) all =
    let rest = pasts_kept P q histories all.1 in
    elim (q history) as (λ b. AllByRecursion P (pasts_of (cond b (history ∷ filter q histories) (filter q histories)))) [ true ↦ (all.0, rest) | false ↦ rest ]

pub count_stands : (v : ℕ) (histories : List History) → count_by (λ (history : History). is_some (standing v (past_of history))) histories ≡ length (rows_at v (pasts_of histories))
count_stands v [] = refl
count_stands v (history ∷ histories) =
    let rest = count_stands v histories in
    count-cons (λ (history : History). is_some (standing v (past_of history))) history histories
    ∙ elim (standing v (past_of history)) as (λ o. cond (is_some o) 1 0 + count_by (λ (history : History). is_some (standing v (past_of history))) histories ≡ length (option_to_list o ++ rows_at v (pasts_of histories))) [
      | None ↦ omega (arith, rest)
      | Some change ↦ omega (arith, rest)
    ]

-- the row that stands in one history
abbrev pub row_in : ℕ → History → Option Record
row_in v history = option_map (λ (change : RowChange). change.row) (standing v (past_of history))

-- where each history has a row, the places of rows are those of histories
pub place_of_each : (v : ℕ) (histories : List History) → AllByRecursion IsPast (pasts_of histories) → AreUpTo v (pasts_of histories) → (n : ℕ)
    → slice_get (rows_of (rows_at v (pasts_of histories))) n ≡ option_and_then (row_in v) (slice_get histories n)
place_of_each v [] all up n = refl
place_of_each v (history ∷ histories) all up n =
    let rest = rows_at v (pasts_of histories) in
    let stands = standing_some v (past_of history) all.0.some up.0 in
    ap (λ o. slice_get (rows_of (option_to_list o ++ rest)) n) stands.1
    ∙ elim n as (λ n. slice_get (stands.0.row ∷ rows_of rest) n ≡ option_and_then (row_in v) (slice_get (history ∷ histories) n)) [
      | zero ↦ sym (ap (option_map (λ (change : RowChange). change.row)) stands.1)
      | suc n ↦ place_of_each v histories all.1 up.1 n
    ]
