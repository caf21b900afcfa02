-- Items that are those of a list, one after another.
use Rattle.std.proofs.Common.{◌≡◌, ◌+◌, ◌<◌, ◌≤◌, ℕ, zero, suc, List, [], ◌∷◌, ◌++◌, get_or, length, map, refl, sym, ap}
use Rattle.std.proofs.Common.{take, ◌∙◌, arith}
use Rattle.std.proofs.lemmas.List.{length-map, take_all, take_more}
use Rattle.std.specs.List.{AllByRecursion}
use Rattle.item_maps.specs.Edits.{entry_of}
use Rattle.item_maps.specs.declared.item.Item.{Item}
use Rattle.version_core.proofs.RoomLemmas.{map_push}
use Rattle.hub_format.specs.Format.{Entry}

-- the value of the item at a place
pub value_at : {X : Type 0} (f : X → Entry) (P : X → Type 0) (items : List Item) (xs : List X) (i : ℕ) (item : Item) → map entry_of items ≡ map f xs → AllByRecursion P xs → i < length items → item ≡ get_or items i item
    → (x : X) × P x × (entry_of item ≡ f x) × (take (i + 1) xs ≡ take i xs ++ x ∷ [])
value_at f P [] xs i item same all within is = absurd (omega arith)
value_at f P (first ∷ items) [] i item same all within is = absurd cc
value_at f P (first ∷ items) (x ∷ xs) zero item same all within is =
    let entries : entry_of first ≡ f x = cc in
    (x, all.0, ap entry_of is ∙ entries, refl)
value_at f P (first ∷ items) (x ∷ xs) (suc i) item same all within is =
    let rest : map entry_of items ≡ map f xs = cc in
    let there = value_at f P items xs i item rest all.1 (omega arith) is in
    let next : suc i + 1 ≡ suc (i + 1) = omega arith in
    (there.0, there.1, there.2, ap (λ n. take n (x ∷ xs)) next ∙ ap (λ ys. x ∷ ys) there.3)

-- after the last, all are found
pub all_found : {X : Type 0} (f : X → Entry) (items : List Item) (xs found : List X) (i : ℕ) → map entry_of items ≡ map f xs → length items ≤ i → found ≡ take i xs → found ≡ xs
all_found f items xs found i same le so_far =
    let left = length-map items entry_of in
    let right = length-map xs f in
    let long = ap length same in
    so_far ∙ take_all i xs (omega arith)

-- what is read of one item more
pub more_read : {A X Y : Type 0} (f : A → Y) (g : X → Y) (items : List A) (xs : List X) (i : ℕ) (item : A) (x : X) → map f (take i items) ≡ map g xs → i < length items → item ≡ get_or items i item → f item ≡ g x
    → map f (take (i + 1) items) ≡ map g (xs ++ x ∷ [])
more_read f g items xs i item x so_far within is same = rw (take_more items i item within, ← is, map_push f (take i items) item, map_push g xs x, so_far, same) refl

-- after the last, all is read
pub all_read : {A X Y : Type 0} (f : A → Y) (g : X → Y) (items : List A) (xs : List X) (i : ℕ) → length items ≤ i → map f (take i items) ≡ map g xs → map f items ≡ map g xs
all_read f g items xs i le so_far = ap (map f) (sym (take_all i items le)) ∙ so_far
