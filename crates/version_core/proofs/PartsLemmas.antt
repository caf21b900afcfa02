-- A row put into histories of which the last have moved.
use Rattle.std.proofs.Common.{◌≡◌, ℕ, zero, suc, ◌<◌, ◌≤◌, List, [], ◌∷◌, ◌++◌, length, take, drop, get_or, set}
use Rattle.std.proofs.Common.{reverse, true, refl, sym, ap, subst, ◌∙◌, append_assoc, arith}
use Rattle.std.proofs.lemmas.List.{get_or_default, reverse-append}
use Rattle.std.specs.List.{AllByRecursion, AllWithin}
use Rattle.std.specs.declared.cmp.Ordering.TheVariants.{Less, Equal, Greater}
use Rattle.std.proofs.lemmas.Bool.{and_from}
use Rattle.std.specs.FinMap.Entries as entries
use Rattle.reference_rules.proofs.KeyOrder.{and_first, and_second, key_exact}
use Rattle.roster_types.specs.Keys.{Ascends, Key, key_cmp, keyed}
use Rattle.version_core.specs.Changes.{change_key}
use Rattle.version_core.specs.History.{AreAbove, ArePasts, AreUpTo, Past, PutsRow, history_key, past_key, past_of}
use Rattle.version_core.specs.History.{parts_of, pasts_of, rows_at}
use Rattle.version_core.specs.Order.{put}
use Rattle.version_core.specs.declared.history.History.{History}
use Rattle.version_core.specs.declared.row_change.RowChange.{RowChange}
use Rattle.version_core.proofs.HistoryLemmas.{Ascends-histories, all_before, all_from, all_map, drop_at}
use Rattle.version_core.proofs.HistoryLemmas.{pasts_of-append, split_at}
use Rattle.version_core.proofs.Places.{less_at, less_from_greater}
use Rattle.version_core.proofs.PutLemmas.{all_append, grown_earlier, grown_now, grown_pasts, grown_up_to, new_earlier}
use Rattle.version_core.proofs.PutLemmas.{new_now, new_pasts, new_up_to}

pub set_parts : {X : Type 0} (xs : List X) (n : ℕ) (y : X) → n < length xs → set xs n y ≡ take n xs ++ y ∷ drop (suc n) xs
set_parts [] n y lt = absurd (omega arith)
set_parts (x ∷ []) zero y lt = refl
set_parts (x ∷ z ∷ xs) zero y lt = refl
set_parts (x ∷ xs) (suc n) y lt = ap (λ zs. x ∷ zs) (set_parts xs n y (omega arith))

pub all_set : {X : Type 0} (P : X → Type 0) (xs : List X) (n : ℕ) (y : X) → AllByRecursion P xs → P y → AllByRecursion P (set xs n y)
all_set P [] n y all here = tt
all_set P (x ∷ xs) zero y all here = (here, all.1)
all_set P (x ∷ xs) (suc n) y all here = (all.0, all_set P xs n y all.1 here)

first_below_all : (k : Key) (xs ys : List Past) → entries.below_all key_cmp k (keyed past_key (xs ++ ys)) ≡ true → entries.below_all key_cmp k (keyed past_key xs) ≡ true
first_below_all k [] ys below = refl
first_below_all k (x ∷ xs) ys below = and_from _ _ (and_first _ _ below) (first_below_all k xs ys (and_second _ _ below))

pub ascends_first : (xs ys : List Past) → Ascends past_key (xs ++ ys) → Ascends past_key xs
ascends_first [] ys up = refl
ascends_first (x ∷ xs) ys up = and_from _ _ (first_below_all (past_key x) xs ys (and_first _ _ up)) (ascends_first xs ys (and_second _ _ up))

module _ (version : ℕ) (change : RowChange) (histories spare : List History) (are : ArePasts (parts_of histories spare)) (up : AreAbove change (reverse spare)) (n : ℕ) where
  -- no history has the key
  module _ (le : n ≤ length histories) (below : AllWithin (λ history. key_cmp (history_key history) (change_key change) ≡ Less) histories 0 n) (above : AllWithin (λ history. key_cmp (history_key history) (change_key change) ≡ Greater) histories n (length histories)) (new : History) (is : past_of new ≡ record { version = version; value = change } ∷ []) (spare' : List History) (put_last : reverse spare' ≡ new ∷ (drop n histories ++ reverse spare)) where
    before : List Past
    before = pasts_of (take n histories)

    later : List Past
    later = pasts_of (drop n histories) ++ pasts_of (reverse spare)

    old_parts : parts_of histories spare ≡ before ++ later
    unfolding before later
    old_parts = ap (λ hs. pasts_of hs ++ pasts_of (reverse spare)) (split_at histories n le) ∙ ap (λ ps. ps ++ pasts_of (reverse spare)) (pasts_of-append (take n histories) (drop n histories)) ∙ append_assoc (pasts_of (take n histories)) (pasts_of (drop n histories)) (pasts_of (reverse spare))

    new_parts : parts_of (take n histories) spare' ≡ before ++ (record { version = version; value = change } ∷ []) ∷ later
    unfolding before later
    new_parts = ap (λ hs. pasts_of (take n histories) ++ pasts_of hs) put_last ∙ ap (λ ps. pasts_of (take n histories) ++ past_of new ∷ ps) (pasts_of-append (drop n histories) (reverse spare)) ∙ ap (λ p. pasts_of (take n histories) ++ p ∷ (pasts_of (drop n histories) ++ pasts_of (reverse spare))) is

    all_below : AllByRecursion (λ past. key_cmp (past_key past) (change_key change) ≡ Less) before
    unfolding before
    all_below = all_map (λ past. key_cmp (past_key past) (change_key change) ≡ Less) past_of (take n histories) (all_before (λ history. key_cmp (history_key history) (change_key change) ≡ Less) histories n le (λ i d lt. below i d (omega arith) lt))

    all_above : AllByRecursion (λ past. key_cmp (change_key change) (past_key past) ≡ Less) later
    unfolding later
    all_above = all_append (λ past. key_cmp (change_key change) (past_key past) ≡ Less) (pasts_of (drop n histories)) (pasts_of (reverse spare))
        (all_map (λ past. key_cmp (change_key change) (past_key past) ≡ Less) past_of (drop n histories) (all_from (λ history. key_cmp (change_key change) (history_key history) ≡ Less) histories n (λ i d le lt. less_from_greater (history_key (get_or histories i d)) (change_key change) (above i d le lt))))
        (all_map (λ past. key_cmp (change_key change) (past_key past) ≡ Less) past_of (reverse spare) up)

    are_parts : ArePasts (before ++ later)
    are_parts = subst ArePasts old_parts are

    pub puts_new : PutsRow version change (parts_of histories spare) (parts_of (take n histories) spare')
    puts_new = record {
      now = ap (rows_at version) new_parts ∙ new_now version change before later are_parts all_below all_above ∙ ap (λ ps. put change_key change (rows_at version ps)) (sym old_parts);
      earlier = λ v lt. ap (rows_at v) new_parts ∙ new_earlier version change before later are_parts all_below all_above v lt ∙ ap (rows_at v) (sym old_parts);
      pasts = subst ArePasts (sym new_parts) (new_pasts version change before later are_parts all_below all_above);
      up_to = λ to. subst (AreUpTo version) (sym new_parts) (new_up_to version change before later are_parts all_below all_above (subst (AreUpTo version) old_parts to));
    }

  -- the history at the place has the key
  module _ (lt : n < length histories) (history grown : History) (here : history ≡ get_or histories n history) (same : key_cmp (history_key history) (change_key change) ≡ Equal) (is : past_of grown ≡ past_of history ++ record { version = version; value = change } ∷ []) where
    first : List Past
    first = pasts_of (take n histories)

    rest : List Past
    rest = pasts_of (drop (suc n) histories) ++ pasts_of (reverse spare)

    one_key : past_key (past_of history) ≡ change_key change
    one_key = key_exact _ _ same

    old_split : parts_of histories spare ≡ first ++ past_of history ∷ rest
    unfolding first rest
    old_split =
        ap (λ hs. pasts_of hs ++ pasts_of (reverse spare)) (split_at histories n (omega arith) ∙ ap (λ hs. take n histories ++ hs) (drop_at histories n history lt ∙ ap (λ h. h ∷ drop (suc n) histories) (sym here)))
        ∙ ap (λ ps. ps ++ pasts_of (reverse spare)) (pasts_of-append (take n histories) (history ∷ drop (suc n) histories))
        ∙ append_assoc (pasts_of (take n histories)) (past_of history ∷ pasts_of (drop (suc n) histories)) (pasts_of (reverse spare))

    new_split : parts_of (set histories n grown) spare ≡ first ++ (past_of history ++ record { version = version; value = change } ∷ []) ∷ rest
    unfolding first rest
    new_split =
        ap (λ hs. pasts_of hs ++ pasts_of (reverse spare)) (set_parts histories n grown lt)
        ∙ ap (λ ps. ps ++ pasts_of (reverse spare)) (pasts_of-append (take n histories) (grown ∷ drop (suc n) histories))
        ∙ append_assoc (pasts_of (take n histories)) (past_of grown ∷ pasts_of (drop (suc n) histories)) (pasts_of (reverse spare))
        ∙ ap (λ p. pasts_of (take n histories) ++ p ∷ (pasts_of (drop (suc n) histories) ++ pasts_of (reverse spare))) is

    ascend : Ascends history_key histories
    ascend = Ascends-histories histories (ascends_first (pasts_of histories) (pasts_of (reverse spare)) are.ascend)

    key_here : (d : History) → history_key (get_or histories n d) ≡ change_key change
    key_here d = ap history_key (get_or_default histories n d history lt ∙ sym here) ∙ one_key

    first_below : AllByRecursion (λ past. key_cmp (past_key past) (change_key change) ≡ Less) first
    unfolding first
    first_below = all_map (λ past. key_cmp (past_key past) (change_key change) ≡ Less) past_of (take n histories)
        (all_before (λ history. key_cmp (history_key history) (change_key change) ≡ Less) histories n (omega arith) (λ i d below. subst (λ j. key_cmp (history_key (get_or histories i d)) j ≡ Less) (key_here d) (less_at history_key histories i n d ascend below lt)))

    rest_above : AllByRecursion (λ past. key_cmp (change_key change) (past_key past) ≡ Less) rest
    unfolding rest
    rest_above = all_append (λ past. key_cmp (change_key change) (past_key past) ≡ Less) (pasts_of (drop (suc n) histories)) (pasts_of (reverse spare))
        (all_map (λ past. key_cmp (change_key change) (past_key past) ≡ Less) past_of (drop (suc n) histories)
        (all_from (λ history. key_cmp (change_key change) (history_key history) ≡ Less) histories (suc n) (λ i d le lt'. subst (λ j. key_cmp j (history_key (get_or histories i d)) ≡ Less) (key_here d) (less_at history_key histories n i d ascend (omega (arith, le)) lt'))))
        (all_map (λ past. key_cmp (change_key change) (past_key past) ≡ Less) past_of (reverse spare) up)

    are_split : ArePasts (first ++ past_of history ∷ rest)
    are_split = subst ArePasts old_split are

    pub puts_grown : PutsRow version change (parts_of histories spare) (parts_of (set histories n grown) spare)
    puts_grown = record {
      now = ap (rows_at version) new_split ∙ grown_now version change first rest (past_of history) are_split one_key first_below rest_above ∙ ap (λ ps. put change_key change (rows_at version ps)) (sym old_split);
      earlier = λ v lt. ap (rows_at v) new_split ∙ grown_earlier version change first rest (past_of history) are_split one_key first_below rest_above v lt ∙ ap (rows_at v) (sym old_split);
      pasts = subst ArePasts (sym new_split) (grown_pasts version change first rest (past_of history) are_split one_key first_below rest_above);
      up_to = λ to. subst (AreUpTo version) (sym new_split) (grown_up_to version change first rest (past_of history) are_split one_key first_below rest_above (subst (AreUpTo version) old_split to));
    }

pub all_both : {X : Type 0} (P Q R : X → Type 0) (xs : List X) → ((x : X) → P x → Q x → R x) → AllByRecursion P xs → AllByRecursion Q xs → AllByRecursion R xs
all_both P Q R [] both all all' = tt
all_both P Q R (x ∷ xs) both all all' = (both x all.0 all'.0, all_both P Q R xs both all.1 all'.1)

pub all_of : {X : Type 0} (P : X → Type 0) (xs : List X) → ((x : X) → P x) → AllByRecursion P xs
all_of P [] each = tt
all_of P (x ∷ xs) each = (each x, all_of P xs each)

-- the last of the moved moves back
pub parts_move : (histories spare : List History) (history : History) → parts_of (histories ++ history ∷ []) spare ≡ parts_of histories (spare ++ history ∷ [])
parts_move histories spare history =
    ap (λ ps. ps ++ pasts_of (reverse spare)) (pasts_of-append histories (history ∷ []))
    ∙ append_assoc (pasts_of histories) (past_of history ∷ []) (pasts_of (reverse spare))
    ∙ ap (λ hs. pasts_of histories ++ pasts_of hs) (sym (reverse-append spare (history ∷ [])))
