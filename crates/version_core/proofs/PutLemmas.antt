-- A row put into the histories.
use Rattle.std.proofs.Common.{◌≡◌, ℕ, zero, suc, ◌<◌, ◌≤◌, if◌then◌else◌, List, [], ◌∷◌, ◌++◌, Option, None, Some, true}
use Rattle.std.proofs.Common.{false, leb, length, take, drop, refl, sym, ap, subst, ◌∙◌, arith, rules}
use Rattle.std.proofs.lemmas.Bool.Decides.{nat_tests}
use Rattle.std.specs.Option.{option_or, option_to_list}
use Rattle.std.specs.Ordering.{ordering_reverse}
use Rattle.std.specs.declared.cmp.Ordering.{Ordering}
use Rattle.std.specs.declared.cmp.Ordering.TheVariants.{Less, Equal, Greater}
use Rattle.std.specs.List.{AllByRecursion}
use Rattle.reference_rules.proofs.KeyOrder.{key_total}
use Rattle.roster_types.specs.Keys.{Ascends, Key, key_cmp}
use Rattle.version_core.specs.Changes.{change_key}
use Rattle.version_core.specs.History.{ArePasts, AreUpTo, IsPast, Past, past_key, rows_at}
use Rattle.version_core.specs.Order.{by_order, overlaid, put}
use Rattle.version_core.specs.Since.{standing}
use Rattle.version_core.specs.declared.row_change.RowChange.{RowChange}
use Rattle.version_core.specs.declared.since.Since.{Since}
use Rattle.version_core.proofs.HistoryLemmas.{rows_at-append, standing_keyed}
use Rattle.version_core.proofs.OrderLemmas.{Ascends-put}
use Rattle.version_core.proofs.Places.{greater_from_less}
use Rattle.version_core.proofs.SinceLemmas.{standing-push, standing-pushed}

pub all_append : {X : Type 0} (P : X → Type 0) (xs ys : List X) → AllByRecursion P xs → AllByRecursion P ys → AllByRecursion P (xs ++ ys)
all_append P [] ys all later = later
all_append P (x ∷ xs) ys all later = (all.0, all_append P xs ys all.1 later)

pub all_first : {X : Type 0} (P : X → Type 0) (xs ys : List X) → AllByRecursion P (xs ++ ys) → AllByRecursion P xs
all_first P [] ys all = tt
all_first P (x ∷ xs) ys all = (all.0, all_first P xs ys all.1)

pub all_second : {X : Type 0} (P : X → Type 0) (xs ys : List X) → AllByRecursion P (xs ++ ys) → AllByRecursion P ys
all_second P [] ys all = all
all_second P (x ∷ xs) ys all = all_second P xs ys all.1

module _ {X : Type 0} (key : X → Key) (item : X) where
  -- an item goes between those below and those above
  pub put_gap : (xs ys : List X) → AllByRecursion (λ x. key_cmp (key x) (key item) ≡ Less) xs → AllByRecursion (λ y. key_cmp (key item) (key y) ≡ Less) ys → put key item (xs ++ ys) ≡ xs ++ item ∷ ys
  put_gap [] [] below above = refl
  put_gap [] (y ∷ ys) below above = ap (λ o. by_order o (item ∷ y ∷ ys) (item ∷ ys) (y ∷ put key item ys)) above.0
  put_gap (x ∷ xs) ys below above =
      ap (λ o. by_order o (item ∷ x ∷ (xs ++ ys)) (item ∷ (xs ++ ys)) (x ∷ put key item (xs ++ ys))) (greater_from_less (key x) (key item) below.0) ∙ ap (λ zs. x ∷ zs) (put_gap xs ys below.1 above)

  -- or in the place of the one that has its key
  pub put_over : (xs ys : List X) (x : X) → AllByRecursion (λ x. key_cmp (key x) (key item) ≡ Less) xs → key_cmp (key item) (key x) ≡ Equal → put key item (xs ++ x ∷ ys) ≡ xs ++ item ∷ ys
  put_over [] ys x below same = ap (λ o. by_order o (item ∷ x ∷ ys) (item ∷ ys) (x ∷ put key item ys)) same
  put_over (z ∷ xs) ys x below same =
      ap (λ o. by_order o (item ∷ z ∷ (xs ++ x ∷ ys)) (item ∷ (xs ++ x ∷ ys)) (z ∷ put key item (xs ++ x ∷ ys))) (greater_from_less (key z) (key item) below.0) ∙ ap (λ zs. z ∷ zs) (put_over xs ys x below.1 same)

-- what holds of the keys of pasts holds of those of the rows
pub rows_all : (version : ℕ) (P : Key → Type 0) (pasts : List Past) → AllByRecursion IsPast pasts → AllByRecursion (λ past. P (past_key past)) pasts → AllByRecursion (λ change. P (change_key change)) (rows_at version pasts)
rows_all version P [] are all = tt
rows_all version P (past ∷ pasts) are all =
    let rest = rows_all version P pasts are.1 all.1 in
    elim (standing version past) as (λ o. standing version past ≡ o → AllByRecursion (λ change. P (change_key change)) (option_to_list o ++ rows_at version pasts)) [
      | None ↦ λ _. rest
      | Some change ↦ λ is. (subst P (sym (standing_keyed version (past_key past) past change are.0.same is)) all.0, rest)
    ] refl

-- the last change goes first
pub overlaid-append : (base changes : List RowChange) (change : RowChange) → overlaid change_key base (changes ++ change ∷ []) ≡ overlaid change_key (put change_key change base) changes
overlaid-append base [] change = refl
overlaid-append base (x ∷ changes) change = ap (put change_key x) (overlaid-append base changes change)

self_reverse : (o : Ordering) → o ≡ ordering_reverse o → o ≡ Equal
self_reverse Less e = cc
self_reverse Equal e = refl
self_reverse Greater e = cc

pub key_same : (k : Key) → key_cmp k k ≡ Equal
key_same k = self_reverse (key_cmp k k) (key_total.antisymm k k)

pub leb_same : (n : ℕ) → leb n n ≡ true
leb_same n = grind (arith, nat_tests)

module _ (version : ℕ) (change : RowChange) where
  module _ (before pasts : List Past) (are : ArePasts (before ++ pasts)) (below : AllByRecursion (λ past. key_cmp (past_key past) (change_key change) ≡ Less) before) (above : AllByRecursion (λ past. key_cmp (change_key change) (past_key past) ≡ Less) pasts) where
    are_before : AllByRecursion IsPast before
    are_before = all_first IsPast before pasts are.all

    are_after : AllByRecursion IsPast pasts
    are_after = all_second IsPast before pasts are.all

    -- a new history shows the row from its version on
    pub new_now : rows_at version (before ++ (record { version = version; value = change } ∷ []) ∷ pasts) ≡ put change_key change (rows_at version (before ++ pasts))
    new_now =
        rows_at-append version before ((record { version = version; value = change } ∷ []) ∷ pasts)
        ∙ ap (λ b. rows_at version before ++ (option_to_list (option_or None (if b then Some change else None)) ++ rows_at version pasts)) (leb_same version)
        ∙ sym (put_gap change_key change (rows_at version before) (rows_at version pasts)
        (rows_all version (λ k. key_cmp k (change_key change) ≡ Less) before are_before below) (rows_all version (λ k. key_cmp (change_key change) k ≡ Less) pasts are_after above))
        ∙ ap (put change_key change) (sym (rows_at-append version before pasts))

    pub new_earlier : (v : ℕ) → v < version → rows_at v (before ++ (record { version = version; value = change } ∷ []) ∷ pasts) ≡ rows_at v (before ++ pasts)
    new_earlier v lt =
        let late : leb version v ≡ false = grind (arith, nat_tests) in
        rows_at-append v before ((record { version = version; value = change } ∷ []) ∷ pasts)
        ∙ ap (λ b. rows_at v before ++ (option_to_list (option_or None (if b then Some change else None)) ++ rows_at v pasts)) late
        ∙ sym (rows_at-append v before pasts)

    pub new_pasts : ArePasts (before ++ (record { version = version; value = change } ∷ []) ∷ pasts)
    new_pasts =
        let new : Past = record { version = version; value = change } ∷ [] in
        record {
          all = all_append IsPast before (new ∷ pasts) are_before (record { some = search rules; same = (refl, tt) }, are_after);
          ascend = subst (Ascends past_key) (put_gap past_key new before pasts below above) (Ascends-put past_key new (before ++ pasts) are.ascend);
        }

    pub new_up_to : AreUpTo version (before ++ pasts) → AreUpTo version (before ++ (record { version = version; value = change } ∷ []) ∷ pasts)
    new_up_to up =
        let P = λ (past : Past). AllByRecursion (λ (e : Since RowChange). e.version ≤ version) past in
        all_append P before ((record { version = version; value = change } ∷ []) ∷ pasts) (all_first P before pasts up) ((search rules, tt), all_second P before pasts up)

  -- the history that has the key
  module _ (before pasts : List Past) (past : Past) (are : ArePasts (before ++ past ∷ pasts)) (same : past_key past ≡ change_key change) (below : AllByRecursion (λ past. key_cmp (past_key past) (change_key change) ≡ Less) before) (above : AllByRecursion (λ past. key_cmp (change_key change) (past_key past) ≡ Less) pasts) where
    pushed : Past
    pushed = past ++ record { version = version; value = change } ∷ []

    past_is : IsPast past
    past_is = (all_second IsPast before (past ∷ pasts) are.all).0

    key_pushed : (past : Past) → 0 < length past → past_key (past ++ record { version = version; value = change } ∷ []) ≡ past_key past
    key_pushed [] some = absurd (omega arith)
    key_pushed (e ∷ past) some = refl

    -- shows the row from its version on
    pub grown_now : rows_at version (before ++ (past ++ record { version = version; value = change } ∷ []) ∷ pasts) ≡ put change_key change (rows_at version (before ++ past ∷ pasts))
    grown_now =
        rows_at-append version before ((past ++ record { version = version; value = change } ∷ []) ∷ pasts)
        ∙ ap (λ o. rows_at version before ++ (option_to_list o ++ rows_at version pasts)) (standing-pushed version past (record { version = version; value = change }) (leb_same version))
        ∙ sym (over (standing version past) refl)
        ∙ ap (put change_key change) (sym (rows_at-append version before (past ∷ pasts)))
      where
        over : (o : Option RowChange) → standing version past ≡ o → put change_key change (rows_at version before ++ (option_to_list o ++ rows_at version pasts)) ≡ rows_at version before ++ change ∷ rows_at version pasts
        over None is = put_gap change_key change (rows_at version before) (rows_at version pasts)
            (rows_all version (λ k. key_cmp k (change_key change) ≡ Less) before (all_first IsPast before (past ∷ pasts) are.all) below) (rows_all version (λ k. key_cmp (change_key change) k ≡ Less) pasts (all_second IsPast before (past ∷ pasts) are.all).1 above)
        over (Some old) is = put_over change_key change (rows_at version before) (rows_at version pasts) old
            (rows_all version (λ k. key_cmp k (change_key change) ≡ Less) before (all_first IsPast before (past ∷ pasts) are.all) below)
            (subst (λ k. key_cmp (change_key change) k ≡ Equal) (sym (standing_keyed version (past_key past) past old past_is.same is ∙ same)) (key_same (change_key change)))

    pub grown_earlier : (v : ℕ) → v < version → rows_at v (before ++ (past ++ record { version = version; value = change } ∷ []) ∷ pasts) ≡ rows_at v (before ++ past ∷ pasts)
    grown_earlier v lt =
        let late : leb version v ≡ false = grind (arith, nat_tests) in
        rows_at-append v before ((past ++ record { version = version; value = change } ∷ []) ∷ pasts)
        ∙ ap (λ o. rows_at v before ++ (option_to_list o ++ rows_at v pasts)) (standing-push v past (record { version = version; value = change }) late)
        ∙ sym (rows_at-append v before (past ∷ pasts))

    pub grown_pasts : ArePasts (before ++ (past ++ record { version = version; value = change } ∷ []) ∷ pasts)
    unfolding pushed
    grown_pasts =
        let key = key_pushed past past_is.some in
        let below' = subst (λ k. AllByRecursion (λ past. key_cmp (past_key past) k ≡ Less) before) (sym (key ∙ same)) below in
        record {
          all = all_append IsPast before (pushed ∷ pasts) (all_first IsPast before (past ∷ pasts) are.all)
              (record { some = search rules; same = all_append (λ (e : Since RowChange). change_key e.value ≡ past_key pushed) past (record { version = version; value = change } ∷ []) (subst (λ k. AllByRecursion (λ (e : Since RowChange). change_key e.value ≡ k) past) (sym key) past_is.same) (sym (key ∙ same), tt) }, (all_second IsPast before (past ∷ pasts) are.all).1);
          ascend = subst (Ascends past_key) (put_over past_key pushed before pasts past below' (subst (λ k. key_cmp k (past_key past) ≡ Equal) (sym key) (key_same (past_key past)))) (Ascends-put past_key pushed (before ++ past ∷ pasts) are.ascend);
        }

    pub grown_up_to : AreUpTo version (before ++ past ∷ pasts) → AreUpTo version (before ++ (past ++ record { version = version; value = change } ∷ []) ∷ pasts)
    grown_up_to up =
        let P = λ (past : Past). AllByRecursion (λ (e : Since RowChange). e.version ≤ version) past in
        let rest = all_second P before (past ∷ pasts) up in
        all_append P before ((past ++ record { version = version; value = change } ∷ []) ∷ pasts) (all_first P before (past ∷ pasts) up) (all_append (λ (e : Since RowChange). e.version ≤ version) past (record { version = version; value = change } ∷ []) rest.0 (search rules, tt), rest.1)

pub take_parts : {X : Type 0} (xs ys : List X) (n : ℕ) → n ≡ length xs → take n (xs ++ ys) ≡ xs
take_parts [] [] zero e = refl
take_parts [] (y ∷ ys) zero e = refl
take_parts [] ys (suc n) e = absurd (omega arith)
take_parts (x ∷ xs) ys zero e = absurd (omega arith)
take_parts (x ∷ xs) ys (suc n) e = ap (λ zs. x ∷ zs) (take_parts xs ys n (omega arith))

pub drop_parts : {X : Type 0} (xs ys : List X) (n : ℕ) → n ≡ length xs → drop n (xs ++ ys) ≡ ys
drop_parts [] [] zero e = refl
drop_parts [] (y ∷ ys) zero e = refl
drop_parts [] ys (suc n) e = absurd (omega arith)
drop_parts (x ∷ xs) ys zero e = absurd (omega arith)
drop_parts (x ∷ xs) ys (suc n) e = drop_parts xs ys n (omega arith)

pub pushed_key : (past : Past) (entry : Since RowChange) → 0 < length past → past_key (past ++ entry ∷ []) ≡ past_key past
pushed_key [] entry some = absurd (omega arith)
pushed_key (e ∷ past) entry some = refl
