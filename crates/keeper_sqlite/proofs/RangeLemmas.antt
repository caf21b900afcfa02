-- A front that is shorter than was asked for is the whole.
use Rattle.std.proofs.Common.{◌≡◌, ◌<◌, ◌≤◌, ℕ, List, [], ◌∷◌, ◌++◌, None, Option, Some, inl, inr, length}
use Rattle.std.proofs.Common.{length-append, map, refl, sym, take, ap, ◌∙◌, arith}
use Rattle.std.specs.Prelude.{IsSome, option_map, option_to_list, slice_get}
use Rattle.std.proofs.lemmas.Bool.{cases_lt}
use Rattle.std.proofs.lemmas.List.{length-map, length-take, take_all}
use Rattle.item_maps.specs.Edits.{entry_of}
use Rattle.item_maps.specs.declared.item.Item.{Item}

short_take : {X : Type 0} (n : ℕ) (xs : List X) → length (take n xs) < n → take n xs ≡ xs
short_take n xs short = elim (cases_lt n (length xs)) [
  | inl lt ↦ absurd (let long = length-take n xs in omega arith)
  | inr le ↦ take_all n xs le
]

pub whole_range : (n : ℕ) (items : List Item) (all : List (List ℕ × List ℕ)) → map entry_of items ≡ take n all → length items < n → map entry_of items ≡ all
whole_range n items all is few = let long = length-map items entry_of in let same = ap length is in is ∙ short_take n all (omega arith)

first_one : (xs : List (List ℕ × List ℕ)) → slice_get (take 1 xs) 0 ≡ slice_get xs 0
first_one [] = refl
first_one (x ∷ xs) = refl

few : {X : Type 0} (xs : List X) → length (take 1 xs) ≤ 1
few [] = omega arith
few (x ∷ xs) = omega arith

-- of one item at most the last is the first
pub first_range : (old new : List Item) (r : Option Item) (all : List (List ℕ × List ℕ)) → map entry_of old ≡ take 1 all → old ≡ new ++ option_to_list r → (0 < length old → IsSome r) → option_map entry_of r ≡ slice_get all 0
first_range [] new None all is pop some = ap (λ es. slice_get es 0) is ∙ first_one all
first_range (item ∷ old) new None all is pop some = absurd (let no = some (omega arith) in cc)
first_range old [] (Some item) all is pop some = ap (λ es. slice_get es 0) (ap (map entry_of) (sym pop) ∙ is) ∙ first_one all
first_range old (other ∷ new) (Some item) all is pop some =
    let long = length-map old entry_of in
    let same = ap length is in
    let le = few all in
    let parts = length-append (other ∷ new) (item ∷ []) in
    let both = ap length pop in
    absurd (omega (arith, long, same, le, parts, both))
