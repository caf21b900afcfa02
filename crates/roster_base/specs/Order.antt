-- Lists in ascending order of their items' keys.
use Rattle.std.specs.Prelude.{ℕ, Bool, true, List, [], ◌∷◌, ◌++◌, if◌then◌else◌, Option, Some, None, map}
use Rattle.std.specs.Cmp.Lexicographic.{slice_cmp}
use Rattle.std.specs.List.Sorted.{IsStrictlySortedBy}
use Rattle.std.specs.Ordering.{is_lt, match_ordering, nat_cmp}

-- an item at its place among others that are in order: one with the same key gives way
unfoldable pub placed : {A : Type 0} → (A → List ℕ) → A → List A → List A
placed key x [] = x ∷ []
placed key x (y ∷ ys) = match_ordering (slice_cmp nat_cmp (key x) (key y)) (x ∷ y ∷ ys) (x ∷ ys) (y ∷ placed key x ys)

-- the items in ascending order of their keys' bytes
abbrev pub in_order : {A : Type 0} → (A → List ℕ) → List A → List A
in_order key [] = []
in_order key (x ∷ xs) = placed key x (in_order key xs)

-- whether a key is above the last one before it, if there is one
abbrev pub is_below : Option (List ℕ) → List ℕ → Bool
is_below None key = true
is_below (Some last) key = is_lt (slice_cmp nat_cmp last key)

-- each key is below those after it
abbrev pub RiseBy : {A : Type 0} → (A → List ℕ) → List A → Type 0
RiseBy key xs = IsStrictlySortedBy (slice_cmp nat_cmp) (map key xs)

-- the key of the last item
abbrev pub last_key : {A : Type 0} → (A → List ℕ) → List A → Option (List ℕ)
last_key key [] = None
last_key key (x ∷ []) = Some (key x)
last_key key (x ∷ y ∷ ys) = last_key key (y ∷ ys)

-- the items with one more, where its key is above that of the last
abbrev pub with_item : {A : Type 0} → (A → List ℕ) → List A → A → List A
with_item key xs x = if is_below (last_key key xs) (key x) then xs ++ x ∷ [] else xs
