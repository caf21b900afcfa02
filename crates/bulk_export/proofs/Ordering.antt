-- Items of one kind, in the order of their ids.
use Rattle.std.proofs.Common.{◌≡◌, ◌<◌, ℕ, List, [], ◌∷◌, get_or, length, true, None, Option, Some, refl, sym, ap}
use Rattle.std.proofs.Common.{subst, ◌∙◌, arith}
use Rattle.std.specs.Prelude.{is_some}
use Rattle.std.specs.Cmp.Lexicographic.{slice_cmp}
use Rattle.std.specs.FinMap.Entries as entries
use Rattle.std.specs.List.{AllByRecursion}
use Rattle.std.specs.Option.{option_or}
use Rattle.std.specs.Ordering.{is_lt, match_ordering, nat_cmp}
use Rattle.std.specs.declared.cmp.Ordering.TheVariants.{Less, Equal, Greater}
use Rattle.std.proofs.lemmas.Bool.{and_from}
use Rattle.std.proofs.lemmas.List.Elements.{All-from_recursion, recursion_from_All}
use Rattle.keeper_memory.specs.copy.Lists.{IsList, ascends}
use Rattle.reference_rules.proofs.KeyOrder.{and_first, and_second, less_from_is_lt, same_kind}
use Rattle.roster_base.specs.Order.{in_order, placed}
use Rattle.roster_types.specs.Keys.{Ascends, Key, is_after, key_cmp, keyed, look_up, row_key}
use Rattle.roster_types.specs.Records.{Record}
use Rattle.roster_values.specs.Kinds.{place_of_kind}
use Rattle.roster_values.specs.declared.kind.Kind.{Kind}
use Rattle.version_core.proofs.LookUps.{below_trans}
use Rattle.version_core.proofs.OrderLemmas.{Ascends-overlaid, look_up-overlaid}
use Rattle.version_core.proofs.Places.{look_up-at}
use Rattle.version_core.specs.Order.{by_order, overlaid, put}

module _ {X : Type 0} (key : X → Key) where
  pub each_put : (P : X → Type 0) (x : X) (ys : List X) → P x → AllByRecursion P ys → AllByRecursion P (put key x ys)
  each_put P x [] here all = (here, tt)
  each_put P x (y ∷ ys) here all =
      elim (key_cmp (key x) (key y)) as (λ o. AllByRecursion P (by_order o (x ∷ y ∷ ys) (x ∷ ys) (y ∷ put key x ys))) [
        | Less ↦ (here, all)
        | Equal ↦ (here, all.1)
        | Greater ↦ (all.0, each_put P x ys here all.1)
      ]

  pub each_overlaid : (P : X → Type 0) (xs : List X) → AllByRecursion P xs → AllByRecursion P (overlaid key [] xs)
  each_overlaid P [] all = tt
  each_overlaid P (x ∷ xs) all = each_put P x (overlaid key [] xs) all.0 (each_overlaid P xs all.1)

  -- items whose keys have the place n
  module _ (id : X → List ℕ) (n : ℕ) where
    abbrev pub Of : X → Type 0
    Of x = key x ≡ (n, id x)

    by_ids : (x y : X) → Of x → Of y → slice_cmp nat_cmp (id x) (id y) ≡ key_cmp (key x) (key y)
    by_ids x y here there = sym (same_kind n (id x) (id y)) ∙ (λ i. key_cmp (sym here i) (sym there i))

    placed_is_put : (x : X) (ys : List X) → Of x → AllByRecursion Of ys → placed id x ys ≡ put key x ys
    unfolding placed
    placed_is_put x [] here all = refl
    placed_is_put x (y ∷ ys) here all =
        let rest = placed_is_put x ys here all.1 in
        ap (λ o. match_ordering o (x ∷ y ∷ ys) (x ∷ ys) (y ∷ placed id x ys)) (by_ids x y here all.0)
        ∙ elim (key_cmp (key x) (key y)) as (λ o. match_ordering o (x ∷ y ∷ ys) (x ∷ ys) (y ∷ placed id x ys) ≡ by_order o (x ∷ y ∷ ys) (x ∷ ys) (y ∷ put key x ys)) [
          | Less ↦ refl
          | Equal ↦ refl
          | Greater ↦ ap (λ zs. y ∷ zs) rest
        ]

    pub in_order_is : (xs : List X) → AllByRecursion Of xs → in_order id xs ≡ overlaid key [] xs
    in_order_is [] all = refl
    in_order_is (x ∷ xs) all = ap (placed id x) (in_order_is xs all.1) ∙ placed_is_put x (overlaid key [] xs) all.0 (each_overlaid Of xs all.1)

    pub in_order_ascends : (xs : List X) → AllByRecursion Of xs → Ascends key (in_order id xs)
    in_order_ascends xs all = subst (Ascends key) (sym (in_order_is xs all)) (Ascends-overlaid key [] xs refl)

    pub look_up-in_order : (k : Key) (xs : List X) → AllByRecursion Of xs → look_up key k (in_order id xs) ≡ look_up key k xs
    look_up-in_order k xs all =
        ap (look_up key k) (in_order_is xs all) ∙ look_up-overlaid key k [] xs
        ∙ elim (look_up key k xs) as (λ o. option_or o None ≡ o) [ None ↦ refl | Some _ ↦ refl ]

-- an item that has the key is found
pub found_somewhere : (rows : List Record) (k : Key) (i : ℕ) → Ascends row_key rows → i < length rows → ((d : Record) → key_cmp (row_key (get_or rows i d)) k ≡ Equal) → is_some (look_up row_key k rows) ≡ true
found_somewhere [] k i up lt here = absurd (omega arith)
found_somewhere (row ∷ rows) k i up lt here = ap is_some (look_up-at row_key (row ∷ rows) k i row up lt (here row))

-- ---- rows of a kind

abbrev pub OfPlace : ℕ → Record → Type 0
OfPlace n row = place_of_kind row.kind ≡ n

pub places : (kind : Kind) (rows : List Record) → AllByRecursion (λ row. row.kind ≡ kind) rows → AllByRecursion (OfPlace (place_of_kind kind)) rows
places kind [] all = tt
places kind (row ∷ rows) all = (ap place_of_kind all.0, places kind rows all.1)

module _ (n : ℕ) where
  -- ids that ascend are keys that do
  less_key : (a : List ℕ) (row : Record) → OfPlace n row → is_after (Some a) row.id ≡ true → key_cmp (n, a) (row_key row) ≡ Less
  less_key a row of above = (λ i. key_cmp (n, a) (of i, row.id)) ∙ same_kind n a row.id ∙ less_from_is_lt _ above

  below_ids : (a : List ℕ) (rows : List Record) → AllByRecursion (OfPlace n) rows → ascends (Some a) rows ≡ true → entries.below_all key_cmp (n, a) (keyed row_key rows) ≡ true
  below_ids a [] of up = refl
  below_ids a (row ∷ rows) of up =
      let less = less_key a row of.0 (and_first _ _ up) in
      let rest = subst (λ m. entries.below_all key_cmp (m, row.id) (keyed row_key rows) ≡ true) (sym of.0) (below_ids row.id rows of.1 (and_second _ _ up)) in
      and_from _ _ (ap is_lt less) (below_trans row_key (n, a) (row_key row) rows less rest)

  pub keys_ascend : (last : Option (List ℕ)) (rows : List Record) → AllByRecursion (OfPlace n) rows → ascends last rows ≡ true → Ascends row_key rows
  keys_ascend last [] of up = refl
  keys_ascend last (row ∷ rows) of up =
      let rest = and_second _ _ up in
      and_from _ _ (subst (λ m. entries.below_all key_cmp (m, row.id) (keyed row_key rows) ≡ true) (sym of.0) (below_ids row.id rows of.1 rest)) (keys_ascend (Some row.id) rows of.1 rest)

  -- and the other way about
  after_key : (row next : Record) → OfPlace n row → OfPlace n next → key_cmp (row_key row) (row_key next) ≡ Less → is_after (Some row.id) next.id ≡ true
  after_key row next here there less = ap is_lt (sym (same_kind n row.id next.id) ∙ (λ i. key_cmp (sym here i, row.id) (sym there i, next.id)) ∙ less)

  ids_after : (row : Record) (rows : List Record) → OfPlace n row → AllByRecursion (OfPlace n) rows → Ascends row_key (row ∷ rows) → ascends (Some row.id) rows ≡ true
  ids_after row [] here of up = refl
  ids_after row (next ∷ rows) here of up =
      and_from _ _ (after_key row next here of.0 (less_from_is_lt _ (and_first _ _ (and_first _ _ up)))) (ids_after next rows of.0 of.1 (and_second _ _ up))

  pub ids_ascend : (rows : List Record) → AllByRecursion (OfPlace n) rows → Ascends row_key rows → ascends None rows ≡ true
  ids_ascend [] of up = refl
  ids_ascend (row ∷ rows) of up = ids_after row rows of.0 of.1 up

pub list_ascends : (kind : Kind) (rows : List Record) → IsList kind rows → Ascends row_key rows
list_ascends kind rows is = keys_ascend (place_of_kind kind) None rows (places kind rows (recursion_from_All (λ (row : Record). row.kind ≡ kind) rows is.kinds)) is.ascend

-- rows of a kind put in order are those that they were, and a list
module _ (kind : Kind) (rows : List Record) (all : AllByRecursion (λ (row : Record). row.kind ≡ kind) rows) where
  by_place : (rest : List Record) → AllByRecursion (λ (row : Record). row.kind ≡ kind) rest → AllByRecursion (Of row_key (λ (row : Record). row.id) (place_of_kind kind)) rest
  by_place [] of = tt
  by_place (row ∷ rest) of = ((λ i. (place_of_kind (of.0 i), row.id)), by_place rest of.1)

  abbrev put_in_order : List Record
  put_in_order = in_order (λ (row : Record). row.id) rows

  pub ordered_up : Ascends row_key put_in_order
  ordered_up = in_order_ascends row_key (λ (row : Record). row.id) (place_of_kind kind) rows (by_place rows all)

  pub ordered_at : (k : Key) → look_up row_key k put_in_order ≡ look_up row_key k rows
  ordered_at k = look_up-in_order row_key (λ (row : Record). row.id) (place_of_kind kind) k rows (by_place rows all)

  pub ordered_list : IsList kind put_in_order
  ordered_list =
      let is = in_order_is row_key (λ (row : Record). row.id) (place_of_kind kind) rows (by_place rows all) in
      let kinds = subst (AllByRecursion (λ (row : Record). row.kind ≡ kind)) (sym is) (each_overlaid row_key (λ (row : Record). row.kind ≡ kind) rows all) in
      record { kinds = All-from_recursion (λ (row : Record). row.kind ≡ kind) put_in_order kinds; ascend = ids_ascend (place_of_kind kind) put_in_order (places kind put_in_order kinds) ordered_up }
