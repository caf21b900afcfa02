-- Look-ups in lists that are made step by step.
use Rattle.std.proofs.Common.{◌≡◌, ℕ, zero, suc, ◌+◌, ◌<◌, List, [], ◌∷◌, ◌++◌, length, get_or, take, append-nil, true}
use Rattle.std.proofs.Common.{false, cond, Some, None, refl, sym, ap, ◌∙◌, arith}
use Rattle.std.specs.List.{flat_map}
use Rattle.std.proofs.lemmas.List.{take_more}
use Rattle.std.proofs.lemmas.List.Concat.{flat_map-append}
use Rattle.std.specs.Option.{option_or}
use Rattle.std.specs.Ordering.{is_eq}
use Rattle.reference_rules.proofs.KeyOrder.{and_second}
use Rattle.roster_types.specs.Keys.{Ascends, Key, key_cmp, look_up}
use Rattle.version_core.proofs.Places.{greater_from_less, less_at}

module _ {X : Type 0} (key : X → Key) where
  pub look_up-append : (k : Key) (xs ys : List X) → look_up key k (xs ++ ys) ≡ option_or (look_up key k xs) (look_up key k ys)
  look_up-append k [] ys = refl
  look_up-append k (x ∷ xs) ys =
      elim (is_eq (key_cmp k (key x))) as (λ b. cond b (Some x) (look_up key k (xs ++ ys)) ≡ option_or (cond b (Some x) (look_up key k xs)) (look_up key k ys)) [ true ↦ refl | false ↦ look_up-append k xs ys ]

  -- the key of an item is of none before it
  pub fresh : (xs : List X) (n : ℕ) (d : X) → Ascends key xs → n < length xs → look_up key (key (get_or xs n d)) (take n xs) ≡ None
  fresh [] n d up lt = absurd (omega arith)
  fresh (x ∷ xs) zero d up lt = refl
  fresh (x ∷ xs) (suc n) d up lt =
      let above = greater_from_less (key x) (key (get_or xs n d)) (less_at key (x ∷ xs) 0 (suc n) d up (omega arith) lt) in
      ap (λ o. cond (is_eq o) (Some x) (look_up key (key (get_or xs n d)) (take n xs))) above ∙ fresh xs n d (and_second _ _ up) (omega arith)

-- what is collected from one item more
pub flat_map_more : {A B : Type 0} (f : A → List B) (xs : List A) (n : ℕ) (x d : A) → n < length xs → x ≡ get_or xs n d → flat_map f (take (n + 1) xs) ≡ flat_map f (take n xs) ++ f x
flat_map_more f xs n x d lt is =
    ap (flat_map f) (take_more xs n d lt ∙ ap (λ y. take n xs ++ y ∷ []) (sym is)) ∙ flat_map-append f (take n xs) (x ∷ []) ∙ ap (λ ys. flat_map f (take n xs) ++ ys) (append-nil (f x))
