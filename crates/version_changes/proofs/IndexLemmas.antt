-- The rows of a set, each part in the order of ids.
use Rattle.std.proofs.Common.{◌≡◌, ℕ, ◌<◌, List, [], ◌∷◌, ◌++◌, get_or, length, map, true, Some, None, refl, sym, ap}
use Rattle.std.proofs.Common.{subst, ◌∙◌, arith}
use Rattle.std.specs.Prelude.{is_some}
use Rattle.std.specs.FinMap.Entries as entries
use Rattle.std.specs.Cmp.Lexicographic.{slice_cmp}
use Rattle.std.specs.List.{AllByRecursion, flat_map}
use Rattle.std.specs.List.Sorted.{IsStrictlySortedBy}
use Rattle.std.specs.Option.{option_or}
use Rattle.std.specs.Ordering.{is_lt, match_ordering, nat_cmp, ordering_then}
use Rattle.std.specs.declared.cmp.Ordering.TheVariants.{Less, Equal, Greater}
use Rattle.std.proofs.lemmas.Bool.{and_from}
use Rattle.std.proofs.lemmas.List.Elements.{recursion_from_All}
use Rattle.reference_rules.proofs.KeyOrder.{and_first, and_second, same_kind}
use Rattle.roster_base.specs.Order.{in_order, placed}
use Rattle.roster_types.specs.Keys.{Ascends, Key, key_cmp, keyed, look_up}
use Rattle.roster_types.specs.Sets.{AreParts, IsPart}
use Rattle.roster_types.specs.declared.set.SetPart.{SetPart}
use Rattle.roster_types.specs.declared.set_row.SetRow.{SetRow}
use Rattle.roster_values.specs.Kinds.{place_of_kind}
use Rattle.version_changes.proofs.LookUps.{look_up-append}
use Rattle.version_changes.specs.sets.Applying.{set_key}
use Rattle.version_changes.specs.sets.Steps.{indexed, part_indexed}
use Rattle.version_core.proofs.OrderLemmas.{Ascends-overlaid, look_up-overlaid}
use Rattle.version_core.proofs.Places.{look_up-at}
use Rattle.version_core.specs.Order.{by_order, overlaid, put}

abbrev place : SetRow → ℕ
place listed = place_of_kind listed.row.kind

abbrev id_of : SetRow → List ℕ
id_of listed = listed.row.id

each_put : (P : SetRow → Type 0) (x : SetRow) (ys : List SetRow) → P x → AllByRecursion P ys → AllByRecursion P (put set_key x ys)
each_put P x [] here all = (here, tt)
each_put P x (y ∷ ys) here all =
    elim (key_cmp (set_key x) (set_key y)) as (λ o. AllByRecursion P (by_order o (x ∷ y ∷ ys) (x ∷ ys) (y ∷ put set_key x ys))) [
      | Less ↦ (here, all)
      | Equal ↦ (here, all.1)
      | Greater ↦ (all.0, each_put P x ys here all.1)
    ]

each_overlaid : (P : SetRow → Type 0) (xs : List SetRow) → AllByRecursion P xs → AllByRecursion P (overlaid set_key [] xs)
each_overlaid P [] all = tt
each_overlaid P (x ∷ xs) all = each_put P x (overlaid set_key [] xs) all.0 (each_overlaid P xs all.1)

module _ (n : ℕ) where
  abbrev Of : SetRow → Type 0
  Of listed = place listed ≡ n

  keys_of_one_kind : (x y : SetRow) → Of x → Of y → slice_cmp nat_cmp (id_of x) (id_of y) ≡ key_cmp (set_key x) (set_key y)
  keys_of_one_kind x y here there = sym (same_kind (place y) (id_of x) (id_of y)) ∙ ap (λ m. key_cmp (m, id_of x) (set_key y)) (there ∙ sym here)

  placed_is_put : (x : SetRow) (ys : List SetRow) → Of x → AllByRecursion Of ys → placed id_of x ys ≡ put set_key x ys
  unfolding placed
  placed_is_put x [] here all = refl
  placed_is_put x (y ∷ ys) here all =
      let rest = placed_is_put x ys here all.1 in
      ap (λ o. match_ordering o (x ∷ y ∷ ys) (x ∷ ys) (y ∷ placed id_of x ys)) (keys_of_one_kind x y here all.0)
      ∙ elim (key_cmp (set_key x) (set_key y)) as (λ o. match_ordering o (x ∷ y ∷ ys) (x ∷ ys) (y ∷ placed id_of x ys) ≡ by_order o (x ∷ y ∷ ys) (x ∷ ys) (y ∷ put set_key x ys)) [
        | Less ↦ refl
        | Equal ↦ refl
        | Greater ↦ ap (λ zs. y ∷ zs) rest
      ]

  in_order_is : (xs : List SetRow) → AllByRecursion Of xs → in_order id_of xs ≡ overlaid set_key [] xs
  in_order_is [] all = refl
  in_order_is (x ∷ xs) all = ap (placed id_of x) (in_order_is xs all.1) ∙ placed_is_put x (overlaid set_key [] xs) all.0 (each_overlaid Of xs all.1)

module _ (part : SetPart) (is : IsPart part) where
  of_kind : AllByRecursion (Of (place_of_kind part.kind)) part.rows
  of_kind = recursion_from_All (Of (place_of_kind part.kind)) part.rows (λ k d lt. ap place_of_kind (is.kinds k d lt))

  part_is : part_indexed part ≡ overlaid set_key [] part.rows
  part_is = in_order_is (place_of_kind part.kind) part.rows of_kind

  part_look_up : (k : Key) → look_up set_key k (part_indexed part) ≡ look_up set_key k part.rows
  part_look_up k = ap (look_up set_key k) part_is ∙ look_up-overlaid set_key k [] part.rows ∙ elim (look_up set_key k part.rows) as (λ o. option_or o None ≡ o) [ None ↦ refl | Some _ ↦ refl ]

  part_ascends : Ascends set_key (part_indexed part)
  part_ascends = subst (Ascends set_key) (sym part_is) (Ascends-overlaid set_key [] part.rows refl)

  part_of_kind : AllByRecursion (Of (place_of_kind part.kind)) (part_indexed part)
  part_of_kind = subst (AllByRecursion (Of (place_of_kind part.kind))) (sym part_is) (each_overlaid (Of (place_of_kind part.kind)) part.rows of_kind)

-- each row is listed once, wherever it is looked up
look_up-indexed : (k : Key) (parts : List SetPart) → AllByRecursion IsPart parts → look_up set_key k (indexed parts) ≡ look_up set_key k (flat_map (λ part. part.rows) parts)
look_up-indexed k [] are = refl
look_up-indexed k (part ∷ parts) are =
    look_up-append set_key k (part_indexed part) (indexed parts)
    ∙ (λ i. option_or (part_look_up part are.0 k i) (look_up-indexed k parts are.1 i))
    ∙ sym (look_up-append set_key k part.rows (flat_map (λ part. part.rows) parts))

less_kind : (a b : Key) → nat_cmp a.0 b.0 ≡ Less → key_cmp a b ≡ Less
unfolding key_cmp
less_kind a b less = ap (λ o. ordering_then o (slice_cmp nat_cmp a.1 b.1)) less

above_kind : (x : SetRow) (n : ℕ) (ys : List SetRow) → place x ≡ n → AllByRecursion (λ y. nat_cmp n (place y) ≡ Less) ys → entries.below_all key_cmp (set_key x) (keyed set_key ys) ≡ true
above_kind x n [] here all = refl
above_kind x n (y ∷ ys) here all =
    and_from _ _ (ap is_lt (less_kind (set_key x) (set_key y) (ap (λ m. nat_cmp m (place y)) here ∙ all.0))) (above_kind x n ys here all.1)

below-append : (k : Key) (xs ys : List SetRow) → entries.below_all key_cmp k (keyed set_key xs) ≡ true → entries.below_all key_cmp k (keyed set_key ys) ≡ true → entries.below_all key_cmp k (keyed set_key (xs ++ ys)) ≡ true
below-append k [] ys below later = later
below-append k (x ∷ xs) ys below later = and_from _ _ (and_first _ _ below) (below-append k xs ys (and_second _ _ below) later)

Ascends-append : (n : ℕ) (xs ys : List SetRow) → AllByRecursion (Of n) xs → AllByRecursion (λ y. nat_cmp n (place y) ≡ Less) ys → Ascends set_key xs → Ascends set_key ys → Ascends set_key (xs ++ ys)
Ascends-append n [] ys of above up up' = up'
Ascends-append n (x ∷ xs) ys of above up up' =
    and_from _ _ (below-append (set_key x) xs ys (and_first _ _ up) (above_kind x n ys of.0 above)) (Ascends-append n xs ys of.1 above (and_second _ _ up) up')

each_append : (P : SetRow → Type 0) (xs ys : List SetRow) → AllByRecursion P xs → AllByRecursion P ys → AllByRecursion P (xs ++ ys)
each_append P [] ys all all' = all'
each_append P (x ∷ xs) ys all all' = (all.0, each_append P xs ys all.1 all')

each_of : (n m : ℕ) (xs : List SetRow) → nat_cmp n m ≡ Less → AllByRecursion (Of m) xs → AllByRecursion (λ y. nat_cmp n (place y) ≡ Less) xs
each_of n m [] less all = tt
each_of n m (x ∷ xs) less all = (ap (nat_cmp n) all.0 ∙ less, each_of n m xs less all.1)

later_parts : (n : ℕ) (parts : List SetPart) → AllByRecursion (λ m. nat_cmp n m ≡ Less) (map (λ part. place_of_kind part.kind) parts) → AllByRecursion IsPart parts → AllByRecursion (λ y. nat_cmp n (place y) ≡ Less) (indexed parts)
later_parts n [] rise are = tt
later_parts n (part ∷ parts) rise are =
    each_append (λ y. nat_cmp n (place y) ≡ Less) (part_indexed part) (indexed parts) (each_of n (place_of_kind part.kind) (part_indexed part) rise.0 (part_of_kind part are.0)) (later_parts n parts rise.1 are.1)

Ascends-indexed : (parts : List SetPart) → IsStrictlySortedBy nat_cmp (map (λ part. place_of_kind part.kind) parts) → AllByRecursion IsPart parts → Ascends set_key (indexed parts)
unfolding IsStrictlySortedBy
Ascends-indexed [] rise are = refl
Ascends-indexed (part ∷ parts) rise are =
    Ascends-append (place_of_kind part.kind) (part_indexed part) (indexed parts) (part_of_kind part are.0) (later_parts (place_of_kind part.kind) parts rise.0 are.1) (part_ascends part are.0) (Ascends-indexed parts rise.1 are.1)

pub found_somewhere : (xs : List SetRow) (k : Key) (i : ℕ) → Ascends set_key xs → i < length xs → ((d : SetRow) → key_cmp (set_key (get_or xs i d)) k ≡ Equal) → is_some (look_up set_key k xs) ≡ true
found_somewhere [] k i up lt here = absurd (omega arith)
found_somewhere (x ∷ xs) k i up lt here = ap is_some (look_up-at set_key (x ∷ xs) k i x up lt (here x))

module _ (parts : List SetPart) (are : AreParts parts) where
  pub index_ascends : Ascends set_key (indexed parts)
  index_ascends = Ascends-indexed parts are.rise (recursion_from_All IsPart parts are.parts)

  pub index_look_up : (k : Key) → look_up set_key k (indexed parts) ≡ look_up set_key k (flat_map (λ part. part.rows) parts)
  index_look_up k = look_up-indexed k parts (recursion_from_All IsPart parts are.parts)
