-- Lists of which each item was tested.
use Rattle.std.proofs.Common.{◌≡◌, ◌+◌, ◌<◌, ◌≤◌, ℕ, zero, suc, Bool, List, [], ◌∷◌, true, drop, get_or, length, map}
use Rattle.std.proofs.Common.{refl, sym, ap, subst, ◌∙◌, arith}
use Rattle.std.proofs.lemmas.Bool.{and_parts}
use Rattle.std.proofs.lemmas.List.{drop_all}
use Rattle.std.specs.List.{AllByRecursion, list_all}

pub all_hold : {X : Type 0} (p : X → Bool) (P : X → Type 0) (xs : List X) → ((x : X) → p x ≡ true → P x) → list_all p xs ≡ true → AllByRecursion P xs
all_hold p P [] one all = tt
all_hold p P (x ∷ xs) one all =
    let parts = and_parts (p x) (list_all p xs) all in
    (one x parts.0, all_hold p P xs one parts.1)

pub get_map : {X Y : Type 0} (f : X → Y) (xs : List X) (k : ℕ) (d : X) → get_or (map f xs) k (f d) ≡ f (get_or xs k d)
get_map f [] k d = refl
get_map f (x ∷ xs) zero d = refl
get_map f (x ∷ xs) (suc k) d = get_map f xs k d

-- what is left from a place on is the item there and what is left behind it
pub drop_more : {X : Type 0} (xs : List X) (k : ℕ) (d : X) → k < length xs → drop k xs ≡ get_or xs k d ∷ drop (k + 1) xs
drop_more [] k d lt = absurd (omega arith)
drop_more (x ∷ xs) zero d lt = refl
drop_more (x ∷ xs) (suc k) d lt = let next : suc (k + 1) ≡ suc k + 1 = omega arith in drop_more xs k d (omega arith) ∙ ap (λ n. get_or xs k d ∷ drop n (x ∷ xs)) next

-- all hold where those that are left do, and the next does
pub all_more : {X : Type 0} (P : X → Type 0) (xs : List X) (k : ℕ) (x : X) → (AllByRecursion P (drop k xs) → AllByRecursion P xs) → k < length xs → x ≡ get_or xs k x → P x → AllByRecursion P (drop (k + 1) xs) → AllByRecursion P xs
all_more P xs k x so_far lt is here rest =
    let split : drop k xs ≡ x ∷ drop (k + 1) xs = rw (drop_more xs k x lt, ← is) refl in
    so_far (subst (AllByRecursion P) (sym split) (here, rest))

pub all_at : {X : Type 0} (P : X → Type 0) (xs : List X) (k : ℕ) (d : X) → (AllByRecursion P (drop k xs) → AllByRecursion P xs) → k < length xs → P (get_or xs k d) → AllByRecursion P (drop (k + 1) xs) → AllByRecursion P xs
all_at P xs k d so_far lt here rest = so_far (subst (AllByRecursion P) (sym (drop_more xs k d lt)) (here, rest))

pub all_left : {X : Type 0} (P : X → Type 0) (xs : List X) (k : ℕ) → (AllByRecursion P (drop k xs) → AllByRecursion P xs) → length xs ≤ k → AllByRecursion P xs
all_left P xs k so_far le = so_far (subst (AllByRecursion P) (sym (drop_all k xs le)) tt)
