-- Lists, item by item.
use Rattle.std.proofs.Common.{◌≡◌, ◌<◌, ◌+◌, ℕ, suc, List, [], ◌∷◌, drop, get_or, length, map, refl, sym, ap}
use Rattle.std.proofs.Common.{add-one, drop-cons}
use Rattle.std.specs.List.{list_any}
use Rattle.std.specs.Prelude.{Bool, ◌||◌}

-- the item at an index, and those behind it
pub next_item : {A : Type 0} (xs : List A) (i : ℕ) (x d : A) → i < length xs → x ≡ get_or xs i d → drop i xs ≡ x ∷ drop (i + 1) xs
next_item xs i x d h is = rw (add-one, drop-cons xs i d) (ap (λ y. y ∷ drop (suc i) xs) (sym is))

-- a test passes at one of the images where it passes at the image of one
pub list_any-map : {A B : Type 0} (test : B → Bool) (f : A → B) (xs : List A) → list_any test (map f xs) ≡ list_any (λ x. test (f x)) xs
list_any-map test f [] = refl
list_any-map test f (x ∷ xs) = ap (λ b. test (f x) || b) (list_any-map test f xs)
