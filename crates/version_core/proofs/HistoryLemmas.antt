-- Histories, and the rows that stand at a version.
use Rattle.std.proofs.Common.{◌≡◌, ℕ, zero, suc, ◌<◌, ◌≤◌, if◌then◌else◌, List, [], ◌∷◌, ◌++◌, Option, None, Some, Bool}
use Rattle.std.proofs.Common.{true, false, cond, ◌&&◌, leb, length, take, drop, get_or, map, find, refl, sym, ap, subst}
use Rattle.std.proofs.Common.{◌∙◌, arith}
use Rattle.std.proofs.lemmas.Bool.{and_from}
use Rattle.std.specs.Option.{option_or, option_and_then, option_to_list}
use Rattle.std.specs.Ordering.{is_eq, is_lt}
use Rattle.std.specs.declared.cmp.Ordering.TheVariants.{Less, Equal, Greater}
use Rattle.std.specs.List.{AllByRecursion}
use Rattle.std.specs.FinMap.Entries as entries
use Rattle.roster_types.specs.Keys.{Key, key_cmp, keyed, look_up, Ascends}
use Rattle.reference_rules.proofs.KeyOrder.{and_first, and_second, key_exact, less_from_is_lt}
use Rattle.version_core.specs.Changes.{change_key}
use Rattle.version_core.specs.History.{ArePasts, IsPast, Past, history_key, past_key, past_of, pasts_of, rows_at}
use Rattle.version_core.specs.Since.{standing}
use Rattle.version_core.specs.declared.history.History.{History}
use Rattle.version_core.specs.declared.row_change.RowChange.{RowChange}

-- what stands has the key of its entries
pub standing_keyed : (version : ℕ) (k : Key) (past : Past) (change : RowChange) → AllByRecursion (λ entry. change_key entry.value ≡ k) past → standing version past ≡ Some change → change_key change ≡ k
standing_keyed version k [] change same is = cc
standing_keyed version k (entry ∷ past) change same is = later (standing version past) (λ found. standing_keyed version k past change same.1 found) refl is
  where
    here : (b : Bool) → (if b then Some entry.value else None) ≡ Some change → change_key change ≡ k
    here true e = let one : entry.value ≡ change = cc in subst (λ c. change_key c ≡ k) one same.0
    here false e = cc

    later : (o : Option RowChange) → (standing version past ≡ Some change → change_key change ≡ k) → standing version past ≡ o → option_or o (if leb entry.version version then Some entry.value else None) ≡ Some change → change_key change ≡ k
    later (Some x) rest found e = rest (found ∙ e)
    later None rest found e = here (leb entry.version version) e

module _ (version : ℕ) where
  below_rows : (k : Key) (pasts : List Past) → AllByRecursion IsPast pasts → entries.below_all key_cmp k (keyed past_key pasts) ≡ true → entries.below_all key_cmp k (keyed change_key (rows_at version pasts)) ≡ true
  below_rows k [] all below = refl
  below_rows k (past ∷ pasts) all below =
      let rest : entries.below_all key_cmp k (keyed change_key (rows_at version pasts)) ≡ true = below_rows k pasts all.1 (and_second _ _ below) in
      elim (standing version past) as (λ o. standing version past ≡ o → entries.below_all key_cmp k (keyed change_key (option_to_list o ++ rows_at version pasts)) ≡ true) [
        | None ↦ λ _. rest
        | Some change ↦ λ is. and_from _ _ (subst (λ (j : Key). is_lt (key_cmp k j) ≡ true) (sym (standing_keyed version (past_key past) past change all.0.same is)) (and_first _ _ below)) rest
      ] refl

  -- the rows stand in order
  pub Ascends-rows_at : (pasts : List Past) → ArePasts pasts → Ascends change_key (rows_at version pasts)
  Ascends-rows_at [] are = refl
  Ascends-rows_at (past ∷ pasts) are =
      let rest : Ascends change_key (rows_at version pasts) = Ascends-rows_at pasts (record { all = are.all.1; ascend = and_second _ _ are.ascend }) in
      elim (standing version past) as (λ o. standing version past ≡ o → Ascends change_key (option_to_list o ++ rows_at version pasts)) [
        | None ↦ λ _. rest
        | Some change ↦ λ is. and_from _ _ (below_rows (change_key change) pasts are.all.1 (subst (λ (k : Key). entries.below_all key_cmp k (keyed past_key pasts) ≡ true) (sym (standing_keyed version (past_key past) past change are.all.0.same is)) (and_first _ _ are.ascend))) rest
      ] refl

  look_up-below : {X : Type 0} (key : X → Key) (k : Key) (xs : List X) → entries.below_all key_cmp k (keyed key xs) ≡ true → look_up key k xs ≡ None
  look_up-below key k [] below = refl
  look_up-below key k (x ∷ xs) below =
      ap (λ o. cond (is_eq o) (Some x) (look_up key k xs)) (less_from_is_lt _ (and_first _ _ below)) ∙ look_up-below key k xs (and_second _ _ below)

  -- a row is looked up in the history of its kind and id
  pub look_up-rows_at : (k : Key) (pasts : List Past) → ArePasts pasts → look_up change_key k (rows_at version pasts) ≡ option_and_then (standing version) (look_up past_key k pasts)
  look_up-rows_at k [] are = refl
  look_up-rows_at k (past ∷ pasts) are =
      let rest : look_up change_key k (rows_at version pasts) ≡ option_and_then (standing version) (look_up past_key k pasts) = look_up-rows_at k pasts (record { all = are.all.1; ascend = and_second _ _ are.ascend }) in
      elim (standing version past) as (λ o. standing version past ≡ o → look_up change_key k (option_to_list o ++ rows_at version pasts) ≡ option_and_then (standing version) (cond (is_eq (key_cmp k (past_key past))) (Some past) (look_up past_key k pasts))) [
        | None ↦ λ is. rest ∙ elim (key_cmp k (past_key past)) as (λ o. key_cmp k (past_key past) ≡ o → option_and_then (standing version) (look_up past_key k pasts) ≡ option_and_then (standing version) (cond (is_eq o) (Some past) (look_up past_key k pasts))) [
          | Less ↦ λ _. refl
          | Equal ↦ λ same. ap (option_and_then (standing version)) (look_up-below past_key k pasts (subst (λ (j : Key). entries.below_all key_cmp j (keyed past_key pasts) ≡ true) (sym (key_exact _ _ same)) (and_first _ _ are.ascend))) ∙ sym is
          | Greater ↦ λ _. refl
        ] refl
        | Some change ↦ λ is.
            ap (λ (j : Key). cond (is_eq (key_cmp k j)) (Some change) (look_up change_key k (rows_at version pasts))) (standing_keyed version (past_key past) past change are.all.0.same is)
            ∙ elim (is_eq (key_cmp k (past_key past))) as (λ b. cond b (Some change) (look_up change_key k (rows_at version pasts)) ≡ option_and_then (standing version) (cond b (Some past) (look_up past_key k pasts))) [
              | true ↦ sym is
              | false ↦ rest
            ]
      ] refl

  pub rows_at-append : (before pasts : List Past) → rows_at version (before ++ pasts) ≡ rows_at version before ++ rows_at version pasts
  rows_at-append [] pasts = refl
  rows_at-append (past ∷ before) pasts =
      elim (standing version past) as (λ o. option_to_list o ++ rows_at version (before ++ pasts) ≡ (option_to_list o ++ rows_at version before) ++ rows_at version pasts) [
        | None ↦ rows_at-append before pasts
        | Some change ↦ ap (λ rows. change ∷ rows) (rows_at-append before pasts)
      ]

  -- where no key passes, no row does
  pub find_none : (q : Key → Bool) (pasts : List Past) → AllByRecursion IsPast pasts → AllByRecursion (λ past. q (past_key past) ≡ false) pasts → find (λ change. q (change_key change)) (rows_at version pasts) ≡ None
  find_none q [] all none = refl
  find_none q (past ∷ pasts) all none =
      let rest : find (λ change. q (change_key change)) (rows_at version pasts) ≡ None = find_none q pasts all.1 none.1 in
      elim (standing version past) as (λ o. standing version past ≡ o → find (λ change. q (change_key change)) (option_to_list o ++ rows_at version pasts) ≡ None) [
        | None ↦ λ _. rest
        | Some change ↦ λ is. ap (λ b. cond b (Some change) (find (λ change. q (change_key change)) (rows_at version pasts))) (ap q (standing_keyed version (past_key past) past change all.0.same is) ∙ none.0) ∙ rest
      ] refl

-- histories have their keys' order
module _ where
  same_below : (k : Key) (histories : List History) → entries.below_all key_cmp k (keyed past_key (pasts_of histories)) ≡ entries.below_all key_cmp k (keyed history_key histories)
  same_below k [] = refl
  same_below k (history ∷ histories) = ap (λ b. is_lt (key_cmp k (history_key history)) && b) (same_below k histories)

  same_sorted : (histories : List History) → entries.is_sorted key_cmp (keyed past_key (pasts_of histories)) ≡ entries.is_sorted key_cmp (keyed history_key histories)
  same_sorted [] = refl
  same_sorted (history ∷ histories) = λ i. same_below (history_key history) histories i && same_sorted histories i

  pub Ascends-histories : (histories : List History) → Ascends past_key (pasts_of histories) → Ascends history_key histories
  Ascends-histories histories up = sym (same_sorted histories) ∙ up

  pub look_up-pasts : (k : Key) (histories : List History) → look_up past_key k (pasts_of histories) ≡ option_and_then (λ history. Some (past_of history)) (look_up history_key k histories)
  look_up-pasts k [] = refl
  look_up-pasts k (history ∷ histories) =
      elim (is_eq (key_cmp k (history_key history))) as (λ b. cond b (Some (past_of history)) (look_up past_key k (pasts_of histories)) ≡ option_and_then (λ history. Some (past_of history)) (cond b (Some history) (look_up history_key k histories))) [
        | true ↦ refl
        | false ↦ look_up-pasts k histories
      ]

-- a row is looked up in the history of its kind and id
pub look_up-histories : (version : ℕ) (k : Key) (histories : List History) → ArePasts (pasts_of histories) → look_up change_key k (rows_at version (pasts_of histories)) ≡ option_and_then (λ history. standing version (past_of history)) (look_up history_key k histories)
look_up-histories version k histories are =
    look_up-rows_at version k (pasts_of histories) are ∙ ap (option_and_then (standing version)) (look_up-pasts k histories) ∙ twice (look_up history_key k histories)
  where
    twice : (o : Option History) → option_and_then (standing version) (option_and_then (λ history. Some (past_of history)) o) ≡ option_and_then (λ history. standing version (past_of history)) o
    twice None = refl
    twice (Some history) = refl

-- the first so many, by their places
pub all_before : {X : Type 0} (P : X → Type 0) (xs : List X) (n : ℕ) → n ≤ length xs → ((i : ℕ) (d : X) → i < n → P (get_or xs i d)) → AllByRecursion P (take n xs)
all_before P xs zero le at = tt
all_before P [] (suc n) le at = absurd (omega arith)
all_before P (x ∷ xs) (suc n) le at = (at 0 x (omega arith), all_before P xs n (omega arith) (λ i d lt. at (suc i) d (omega arith)))

-- the others
pub all_from : {X : Type 0} (P : X → Type 0) (xs : List X) (n : ℕ) → ((i : ℕ) (d : X) → n ≤ i → i < length xs → P (get_or xs i d)) → AllByRecursion P (drop n xs)
all_from P [] zero at = tt
all_from P [] (suc n) at = tt
all_from P (x ∷ xs) zero at = (at 0 x (omega arith) (omega arith), all_from P xs zero (λ i d le lt. at (suc i) d (omega arith) (omega arith)))
all_from P (x ∷ xs) (suc n) at = all_from P xs n (λ i d le lt. at (suc i) d (omega arith) (omega arith))

pub all_take : {X : Type 0} (P : X → Type 0) (xs : List X) (n : ℕ) → AllByRecursion P xs → AllByRecursion P (take n xs)
all_take P xs zero all = tt
all_take P [] (suc n) all = tt
all_take P (x ∷ xs) (suc n) all = (all.0, all_take P xs n all.1)

pub all_drop : {X : Type 0} (P : X → Type 0) (xs : List X) (n : ℕ) → AllByRecursion P xs → AllByRecursion P (drop n xs)
all_drop P [] zero all = tt
all_drop P (x ∷ xs) zero all = all
all_drop P [] (suc n) all = tt
all_drop P (x ∷ xs) (suc n) all = all_drop P xs n all.1

pub all_map : {X Y : Type 0} (P : Y → Type 0) (f : X → Y) (xs : List X) → AllByRecursion (λ x. P (f x)) xs → AllByRecursion P (map f xs)
all_map P f [] all = tt
all_map P f (x ∷ xs) all = (all.0, all_map P f xs all.1)

pub all_unmap : {X Y : Type 0} (P : Y → Type 0) (f : X → Y) (xs : List X) → AllByRecursion P (map f xs) → AllByRecursion (λ x. P (f x)) xs
all_unmap P f [] all = tt
all_unmap P f (x ∷ xs) all = (all.0, all_unmap P f xs all.1)

pub all_at : {X : Type 0} (P : X → Type 0) (xs : List X) (n : ℕ) (d : X) → AllByRecursion P xs → n < length xs → P (get_or xs n d)
all_at P [] n d all lt = absurd (omega arith)
all_at P (x ∷ xs) zero d all lt = all.0
all_at P (x ∷ xs) (suc n) d all lt = all_at P xs n d all.1 (omega arith)

pub split_at : {X : Type 0} (xs : List X) (n : ℕ) → n ≤ length xs → xs ≡ take n xs ++ drop n xs
split_at [] zero le = refl
split_at (x ∷ xs) zero le = refl
split_at [] (suc n) le = absurd (omega arith)
split_at (x ∷ xs) (suc n) le = ap (λ ys. x ∷ ys) (split_at xs n (omega arith))

pub drop_at : {X : Type 0} (xs : List X) (n : ℕ) (d : X) → n < length xs → drop n xs ≡ get_or xs n d ∷ drop (suc n) xs
drop_at [] n d lt = absurd (omega arith)
drop_at (x ∷ []) zero d lt = refl
drop_at (x ∷ y ∷ xs) zero d lt = refl
drop_at (x ∷ xs) (suc n) d lt = drop_at xs n d (omega arith)

pub pasts_of-append : (before histories : List History) → pasts_of (before ++ histories) ≡ pasts_of before ++ pasts_of histories
pasts_of-append [] histories = refl
pasts_of-append (history ∷ before) histories = ap (λ pasts. past_of history ∷ pasts) (pasts_of-append before histories)
