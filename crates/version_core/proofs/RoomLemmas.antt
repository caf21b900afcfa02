-- Room for the rows of a change.
use Rattle.std.proofs.Common.{◌≡◌, ℕ, zero, suc, ◌<◌, ◌≤◌, List, [], ◌∷◌, ◌++◌, length, get_or, set, take, drop, map}
use Rattle.std.proofs.Common.{vec_len, vec_capacity, refl, sym, ap, subst, ◌∙◌, arith}
use Rattle.std.specs.List.{AllByRecursion, AllWithin}
use Rattle.std.specs.Prelude.{Result, Ok, Err, OnOk}
use Rattle.roster_types.specs.Keys.{Ascends}
use Rattle.reference_rules.proofs.KeyOrder.{and_first, and_second, less_from_is_lt}
use Rattle.std.specs.FinMap.Entries as entries
use Rattle.roster_types.specs.Keys.{Key, key_cmp, keyed}
use Rattle.std.specs.declared.cmp.Ordering.TheVariants.{Less, Equal, Greater}
use Rattle.std.proofs.Common.{true}
use Rattle.version_core.specs.Changes.{change_key}
use Rattle.version_core.specs.History.{HaveRoom, history_key, past_of, pasts_of}
use Rattle.version_core.specs.Order.{overlaid, put}
use Rattle.version_core.specs.declared.history.History.{History}
use Rattle.version_core.specs.declared.row_change.RowChange.{RowChange}
use Rattle.version_core.proofs.HistoryLemmas.{all_before, all_from, split_at}
use Rattle.version_core.proofs.PartsLemmas.{set_parts}
use Rattle.version_core.proofs.Places.{less_at, less_from_greater}
use Rattle.version_core.proofs.PutLemmas.{all_append, key_same, put_gap}

pub map_push : {X Y : Type 0} (f : X → Y) (xs : List X) (x : X) → map f (xs ++ x ∷ []) ≡ map f xs ++ f x ∷ []
map_push f [] x = refl
map_push f (y ∷ xs) x = ap (λ ys. f y ∷ ys) (map_push f xs x)

all_above : (k : Key) (changes : List RowChange) → entries.below_all key_cmp k (keyed change_key changes) ≡ true → AllByRecursion (λ change. key_cmp k (change_key change) ≡ Less) changes
all_above k [] below = tt
all_above k (change ∷ changes) below = (less_from_is_lt _ (and_first _ _ below), all_above k changes (and_second _ _ below))

-- rows in order over none are themselves
pub overlaid_none : (changes : List RowChange) → Ascends change_key changes → overlaid change_key [] changes ≡ changes
overlaid_none [] up = refl
overlaid_none (change ∷ changes) up =
    ap (put change_key change) (overlaid_none changes (and_second _ _ up)) ∙ put_gap change_key change [] changes tt (all_above (change_key change) changes (and_first _ _ up))

pub pasts_of-set : (histories : List History) (n : ℕ) (new : History) → ((d : History) → past_of new ≡ past_of (get_or histories n d)) → pasts_of (set histories n new) ≡ pasts_of histories
pasts_of-set [] n new same = refl
pasts_of-set (h ∷ histories) zero new same = ap (λ p. p ∷ pasts_of histories) (same h)
pasts_of-set (h ∷ histories) (suc n) new same = ap (λ ps. past_of h ∷ ps) (pasts_of-set histories n new same)

apart : Less ≡ Equal → ⊥
apart e = cc

differ : (a b k : Key) → key_cmp a b ≡ Less → a ≡ k → b ≡ k → ⊥
differ a b k less left right =
    let both : key_cmp a b ≡ Equal = (λ i. key_cmp (left i) (right i)) ∙ key_same k in
    apart (sym less ∙ both)

module _ (change : RowChange) (histories : List History) (n : ℕ) where
  -- room in the history that has the key
  pub room_at : (new : History) → n < length histories → Ascends history_key histories → ((d : History) → history_key (get_or histories n d) ≡ change_key change) → vec_len new.entries < vec_capacity new.entries → HaveRoom change (set histories n new)
  room_at new lt up same room =
      subst (HaveRoom change) (sym (set_parts histories n new lt))
      (all_append (λ (h : History). history_key h ≡ change_key change → vec_len h.entries < vec_capacity h.entries) (take n histories) (new ∷ drop (suc n) histories)
      (all_before (λ (h : History). history_key h ≡ change_key change → vec_len h.entries < vec_capacity h.entries) histories n (omega arith) (λ i d below e. absurd (differ _ _ (change_key change) (less_at history_key histories i n d up below lt) e (same d))))
      (λ _. room, all_from (λ (h : History). history_key h ≡ change_key change → vec_len h.entries < vec_capacity h.entries) histories (suc n) (λ i d le lt' e. absurd (differ _ _ (change_key change) (less_at history_key histories n i d up (omega (arith, le)) lt') (same d) e))))

  -- no history has the key
  pub room_gap : n ≤ length histories → AllWithin (λ history. key_cmp (history_key history) (change_key change) ≡ Less) histories 0 n → AllWithin (λ history. key_cmp (history_key history) (change_key change) ≡ Greater) histories n (length histories) → HaveRoom change histories
  room_gap le below above =
      subst (HaveRoom change) (sym (split_at histories n le))
      (all_append (λ (h : History). history_key h ≡ change_key change → vec_len h.entries < vec_capacity h.entries) (take n histories) (drop n histories)
      (all_before (λ (h : History). history_key h ≡ change_key change → vec_len h.entries < vec_capacity h.entries) histories n le (λ i d lt e. absurd (differ _ _ (change_key change) (below i d (omega arith) lt) e refl)))
      (all_from (λ (h : History). history_key h ≡ change_key change → vec_len h.entries < vec_capacity h.entries) histories n (λ i d le' lt e. absurd (differ _ _ (change_key change) (less_from_greater _ _ (above i d le' lt)) refl e))))

pub all_weaken : {X : Type 0} (P Q : X → Type 0) (xs : List X) → ((x : X) → P x → Q x) → AllByRecursion P xs → AllByRecursion Q xs
all_weaken P Q [] each all = tt
all_weaken P Q (x ∷ xs) each all = (each x all.0, all_weaken P Q xs each all.1)

pub on_ok : {V F : Type 0} (result : Result V F) (A B : Type 0) → (A → B) → OnOk result A → OnOk result B
on_ok (Ok v) A B f a = f a
on_ok (Err e) A B f a = tt
