-- The rows of a kind, one after another, and all rows kind by kind.
use Rattle.std.proofs.Common.{◌≡◌, ℕ, suc, ◌+◌, List, [], ◌∷◌, ◌++◌, drop, filter, find, get_or, length, map, Bool}
use Rattle.std.proofs.Common.{true, false, ◌&&◌, eqb, leb, cond, Option, Some, None, refl, sym, ap, subst, ◌∙◌, add-one}
use Rattle.std.proofs.Common.{arith, inl, inr}
use Rattle.std.proofs.Math.Bool.{and-true}
use Rattle.std.specs.FinMap.Entries as entries
use Rattle.std.specs.List.{flat_map, range_with_len}
use Rattle.std.specs.Ordering.{is_eq, is_lt, nat_cmp, ordering_reverse}
use Rattle.std.specs.Cmp.Lexicographic.{slice_cmp}
use Rattle.std.specs.declared.cmp.Ordering.TheVariants.{Less, Greater}
use Rattle.std.proofs.lemmas.Bool.{cases_eq, cases_lt}
use Rattle.std.proofs.lemmas.Bool.Decides.{nat_tests}
use Rattle.std.proofs.lemmas.Cmp.{nat_list_cmp_total, tied_itself}
use Rattle.std.proofs.lemmas.List.Concat.{flat_map-append}
use Rattle.roster_types.specs.Keys.{Ascends, Key, is_after, is_of_kind, key_cmp, keyed, look_up, next_of, row_key}
use Rattle.roster_types.specs.Records.{Record}
use Rattle.roster_values.specs.Kinds.{all_kinds, place_of_kind}
use Rattle.roster_values.specs.declared.kind.Kind.{Kind}
use Rattle.roster_values.proofs.KindLaws.{kind_places, place_below}
use Rattle.reference_rules.proofs.KeyOrder.{and_first, and_second, ids_less, key_total, kind_le, less_from_is_lt}
use Rattle.reference_rules.proofs.KeyOrder.{not_back}

-- a row of the kind whose id is above `after`
abbrev pub is_next : Kind → Option (List ℕ) → Record → Bool
is_next kind after row = is_of_kind kind row && is_after after row.id

-- the rows of the kind whose ids are above `after`
abbrev pub rest_of : Kind → Option (List ℕ) → List Record → List Record
rest_of kind after rows = filter (is_next kind after) rows

-- a row of the kind has its place
pub place_from_test : (kind : Kind) (row : Record) → is_of_kind kind row ≡ true → place_of_kind row.kind ≡ place_of_kind kind
place_from_test kind row e = let tested : eqb (place_of_kind row.kind) (place_of_kind kind) ≡ true = e in grind (arith, nat_tests)

pub find_passes : (p : Record → Bool) (rows : List Record) (row : Record) → find p rows ≡ Some row → p row ≡ true
find_passes p [] row e = cc
find_passes p (x ∷ rows) row e =
    elim (p x) as (λ b. p x ≡ b → cond b (Some x) (find p rows) ≡ Some row → p row ≡ true) [
      | true ↦ λ t same. let is : x ≡ row = cc in subst (λ r. p r ≡ true) is t
      | false ↦ λ _ later. find_passes p rows row later
    ] refl e

find_above : (k : Key) (p : Record → Bool) (rows : List Record) (row : Record) → entries.below_all key_cmp k (keyed row_key rows) ≡ true → find p rows ≡ Some row → key_cmp k (row_key row) ≡ Less
find_above k p [] row above e = cc
find_above k p (x ∷ rows) row above e =
    elim (p x) as (λ b. cond b (Some x) (find p rows) ≡ Some row → key_cmp k (row_key row) ≡ Less) [
      | true ↦ λ same. let is : x ≡ row = cc in subst (λ r. key_cmp k (row_key r) ≡ Less) is (less_from_is_lt _ (and_first _ _ above))
      | false ↦ λ later. find_above k p rows row (and_second _ _ above) later
    ] e

-- a row that is found by a test is found by its key
pub look_up-found : (p : Record → Bool) (rows : List Record) (row : Record) → Ascends row_key rows → find p rows ≡ Some row → look_up row_key (row_key row) rows ≡ Some row
look_up-found p [] row up e = cc
look_up-found p (x ∷ rows) row up e =
    elim (p x) as (λ b. cond b (Some x) (find p rows) ≡ Some row → look_up row_key (row_key row) (x ∷ rows) ≡ Some row) [
      | true ↦ λ same.
          let is : x ≡ row = cc in
          subst (λ r. look_up row_key (row_key r) (x ∷ rows) ≡ Some r) is (ap (λ o. cond (is_eq o) (Some x) (look_up row_key (row_key x) rows)) (tied_itself key_total (row_key x)))
      | false ↦ λ later.
          let less = find_above (row_key x) p rows row (and_first _ _ up) later in
          let greater : key_cmp (row_key row) (row_key x) ≡ Greater = key_total.antisymm (row_key row) (row_key x) ∙ ap ordering_reverse less in
          ap (λ o. cond (is_eq o) (Some x) (look_up row_key (row_key row) rows)) greater ∙ look_up-found p rows row (and_second _ _ up) later
    ] e

filter_above : (k : Key) (p q : Record → Bool) (rows : List Record) → entries.below_all key_cmp k (keyed row_key rows) ≡ true → ((row : Record) → key_cmp k (row_key row) ≡ Less → p row ≡ q row) → filter p rows ≡ filter q rows
filter_above k p q [] above same = refl
filter_above k p q (x ∷ rows) above same =
    let here = same x (less_from_is_lt _ (and_first _ _ above)) in
    let rest = filter_above k p q rows (and_second _ _ above) same in
    λ i. cond (here i) (x ∷ rest i) (rest i)

filter_nothing : (rows : List Record) → filter (λ row. false) rows ≡ []
filter_nothing [] = refl
filter_nothing (x ∷ rows) = filter_nothing rows

-- the row that comes next is of the kind
pub next_kind : (kind : Kind) (after : Option (List ℕ)) (rows : List Record) (row : Record) → next_of kind after rows ≡ Some row → place_of_kind row.kind ≡ place_of_kind kind
next_kind kind after rows row e = place_from_test kind row (and_first _ _ (find_passes (is_next kind after) rows row e))

after_more : (after : Option (List ℕ)) (id later : List ℕ) → is_after after id ≡ true → slice_cmp nat_cmp id later ≡ Less → is_after after later ≡ true
after_more None id later e less = refl
after_more (Some after) id later e less = ap is_lt (nat_list_cmp_total.trans after id later (less_from_is_lt _ e) less)

-- behind a row that comes next, those that come next are those above it
next_more : (kind : Kind) (after : Option (List ℕ)) (row later : Record) → is_next kind after row ≡ true → key_cmp (row_key row) (row_key later) ≡ Less → is_next kind after later ≡ is_next kind (Some row.id) later
next_more kind after row later next less =
    elim (is_of_kind kind later) as (λ b. is_of_kind kind later ≡ b → (b && is_after after later.id) ≡ (b && is_after (Some row.id) later.id)) [
      | true ↦ λ of.
          let same : place_of_kind row.kind ≡ place_of_kind later.kind = place_from_test kind row (and_first _ _ next) ∙ sym (place_from_test kind later of) in
          let ids = ids_less (place_of_kind row.kind) (place_of_kind later.kind) row.id later.id same less in
          after_more after row.id later.id (and_second _ _ next) ids ∙ sym (ap is_lt ids)
      | false ↦ λ _. refl
    ] refl

not_itself : (kind : Kind) (row : Record) → is_next kind (Some row.id) row ≡ false
not_itself kind row =
    elim (is_of_kind kind row) as (λ b. (b && is_after (Some row.id) row.id) ≡ false) [
      | true ↦ ap is_lt (tied_itself nat_list_cmp_total row.id)
      | false ↦ refl
    ]

not_before : (kind : Kind) (row later : Record) → place_of_kind later.kind ≡ place_of_kind kind → key_cmp (row_key row) (row_key later) ≡ Less → is_next kind (Some later.id) row ≡ false
not_before kind row later same less =
    elim (is_of_kind kind row) as (λ b. is_of_kind kind row ≡ b → (b && is_after (Some later.id) row.id) ≡ false) [
      | true ↦ λ of. not_back row.id later.id (ids_less (place_of_kind row.kind) (place_of_kind later.kind) row.id later.id (place_from_test kind row of ∙ sym same) less)
      | false ↦ λ _. refl
    ] refl

pub rest_none : (kind : Kind) (after : Option (List ℕ)) (rows : List Record) → next_of kind after rows ≡ None → rest_of kind after rows ≡ []
rest_none kind after [] e = refl
rest_none kind after (x ∷ rows) e =
    elim (is_next kind after x) as (λ b. cond b (Some x) (next_of kind after rows) ≡ None → cond b (x ∷ rest_of kind after rows) (rest_of kind after rows) ≡ []) [
      | true ↦ λ impossible. cc
      | false ↦ λ none. rest_none kind after rows none
    ] e

pub rest_at : (kind : Kind) (after : Option (List ℕ)) (rows : List Record) (row : Record) → Ascends row_key rows → next_of kind after rows ≡ Some row → rest_of kind after rows ≡ row ∷ rest_of kind (Some row.id) rows
rest_at kind after [] row up e = cc
rest_at kind after (x ∷ rows) row up e =
    elim (is_next kind after x) as (λ b. is_next kind after x ≡ b → cond b (Some x) (next_of kind after rows) ≡ Some row → cond b (x ∷ rest_of kind after rows) (rest_of kind after rows) ≡ row ∷ rest_of kind (Some row.id) (x ∷ rows)) [
      | true ↦ λ next same. let is : x ≡ row = cc in subst (λ r. x ∷ rest_of kind after rows ≡ r ∷ rest_of kind (Some r.id) (x ∷ rows)) is (ap (λ ys. x ∷ ys) (
          filter_above (row_key x) (is_next kind after) (is_next kind (Some x.id)) rows (and_first _ _ up) (λ later less. next_more kind after x later next less)
          ∙ ap (λ b. cond b (x ∷ rest_of kind (Some x.id) rows) (rest_of kind (Some x.id) rows)) (sym (not_itself kind x))))
      | false ↦ λ other later.
          let less = find_above (row_key x) (is_next kind after) rows row (and_first _ _ up) later in
          rest_at kind after rows row (and_second _ _ up) later
          ∙ ap (λ b. row ∷ cond b (x ∷ rest_of kind (Some row.id) rows) (rest_of kind (Some row.id) rows)) (sym (not_before kind x row (next_kind kind after rows row later) less))
    ] refl e

-- above nothing stand all rows of the kind
pub rest_start : (kind : Kind) (rows : List Record) → rest_of kind None rows ≡ filter (is_of_kind kind) rows
rest_start kind rows = λ i. filter (λ row. and-true (is_of_kind kind row) i) rows

-- the rows of the kind at a place, and those of the kinds from a place on
abbrev is_at : ℕ → Record → Bool
is_at n row = eqb (place_of_kind row.kind) n

abbrev is_from : ℕ → Record → Bool
is_from n row = leb n (place_of_kind row.kind)

split_kinds : (n : ℕ) (rows : List Record) → Ascends row_key rows → filter (is_from n) rows ≡ filter (is_at n) rows ++ filter (is_from (suc n)) rows
split_kinds n [] up = refl
split_kinds n (x ∷ rows) up =
    elim (cases_lt (place_of_kind x.kind) n) [
      | inl below ↦
          let f : leb n (place_of_kind x.kind) ≡ false = grind (arith, nat_tests) in
          let a : eqb (place_of_kind x.kind) n ≡ false = grind (arith, nat_tests) in
          let g : leb (suc n) (place_of_kind x.kind) ≡ false = grind (arith, nat_tests) in
          ap (λ b. cond b (x ∷ filter (is_from n) rows) (filter (is_from n) rows)) f ∙ split_kinds n rows (and_second _ _ up)
          ∙ sym (λ i. cond (a i) (x ∷ filter (is_at n) rows) (filter (is_at n) rows) ++ cond (g i) (x ∷ filter (is_from (suc n)) rows) (filter (is_from (suc n)) rows))
      | inr le ↦ elim (cases_eq (place_of_kind x.kind) n) [
        | inl same ↦
            let f : leb n (place_of_kind x.kind) ≡ true = grind (arith, nat_tests) in
            let a : eqb (place_of_kind x.kind) n ≡ true = grind (arith, nat_tests) in
            let g : leb (suc n) (place_of_kind x.kind) ≡ false = grind (arith, nat_tests) in
            ap (λ b. cond b (x ∷ filter (is_from n) rows) (filter (is_from n) rows)) f ∙ ap (λ ys. x ∷ ys) (split_kinds n rows (and_second _ _ up))
            ∙ sym (λ i. cond (a i) (x ∷ filter (is_at n) rows) (filter (is_at n) rows) ++ cond (g i) (x ∷ filter (is_from (suc n)) rows) (filter (is_from (suc n)) rows))
        | inr apart ↦
            let f : leb n (place_of_kind x.kind) ≡ true = grind (arith, nat_tests) in
            let a : eqb (place_of_kind x.kind) n ≡ false = grind (arith, nat_tests) in
            let g : leb (suc n) (place_of_kind x.kind) ≡ true = grind (arith, nat_tests) in
            let none : filter (is_at n) rows ≡ [] =
            filter_above (row_key x) (is_at n) (λ row. false) rows (and_first _ _ up) (λ later less. let upward = kind_le (row_key x) (row_key later) less in grind (arith, nat_tests)) ∙ filter_nothing rows in
            ap (λ b. cond b (x ∷ filter (is_from n) rows) (filter (is_from n) rows)) f ∙ ap (λ ys. x ∷ ys) (split_kinds n rows (and_second _ _ up) ∙ ap (λ ys. ys ++ filter (is_from (suc n)) rows) none)
            ∙ sym ((λ i. cond (a i) (x ∷ filter (is_at n) rows) (filter (is_at n) rows) ++ cond (g i) (x ∷ filter (is_from (suc n)) rows) (filter (is_from (suc n)) rows)) ∙ ap (λ ys. ys ++ (x ∷ filter (is_from (suc n)) rows)) none)
      ]
    ]

from_first : (rows : List Record) → filter (is_from 0) rows ≡ rows
from_first [] = refl
from_first (x ∷ rows) =
    let all : leb 0 (place_of_kind x.kind) ≡ true = grind (arith, nat_tests) in
    ap (λ b. cond b (x ∷ filter (is_from 0) rows) (filter (is_from 0) rows)) all ∙ ap (λ ys. x ∷ ys) (from_first rows)

from_last : (rows : List Record) → filter (is_from (length all_kinds)) rows ≡ []
from_last [] = refl
from_last (x ∷ rows) =
    let below = place_below x.kind in
    let none : leb (length all_kinds) (place_of_kind x.kind) ≡ false = grind (arith, nat_tests) in
    ap (λ b. cond b (x ∷ filter (is_from (length all_kinds)) rows) (filter (is_from (length all_kinds)) rows)) none ∙ from_last rows

module _ {A : Type 0} (f : Record → List A) (rows : List Record) (up : Ascends row_key rows) where
  step : (n : ℕ) → flat_map f (filter (is_from n) rows) ≡ flat_map f (filter (is_at n) rows) ++ flat_map f (filter (is_from (suc n)) rows)
  step n = ap (flat_map f) (split_kinds n rows up) ∙ flat_map-append f (filter (is_at n) rows) (filter (is_from (suc n)) rows)

  then_rest : (n : ℕ) (ys : List A) → flat_map f (filter (is_from (suc n)) rows) ≡ ys → flat_map f (filter (is_from n) rows) ≡ flat_map f (filter (is_at n) rows) ++ ys
  then_rest n ys e = step n ∙ ap (λ zs. flat_map f (filter (is_at n) rows) ++ zs) e

  -- the kinds from a place on, one by one
  from_place : (kinds : List Kind) (n : ℕ) → map place_of_kind kinds ≡ range_with_len n (length kinds) → n + length kinds ≡ length all_kinds
      → flat_map f (filter (is_from n) rows) ≡ flat_map (λ kind. flat_map f (filter (is_of_kind kind) rows)) kinds
  from_place [] n counted whole =
      let last : n ≡ length all_kinds = omega (arith, whole) in
      ap (λ m. flat_map f (filter (is_from m) rows)) last ∙ ap (flat_map f) (from_last rows)
  from_place (kind ∷ kinds) n counted whole =
      let here : place_of_kind kind ≡ n = ap (λ ns. get_or ns 0 0) counted in
      let more : map place_of_kind kinds ≡ range_with_len (n + 1) (length kinds) = ap (drop 1) counted in
      let left : n + 1 + length kinds ≡ length all_kinds = omega (arith, whole) in
      then_rest n (flat_map (λ kind. flat_map f (filter (is_of_kind kind) rows)) kinds) (ap (λ m. flat_map f (filter (is_from m) rows)) (sym (add-one n)) ∙ from_place kinds (n + 1) more left)
      ∙ ap (λ m. flat_map f (filter (is_at m) rows) ++ flat_map (λ kind. flat_map f (filter (is_of_kind kind) rows)) kinds) (sym here)

  -- kind by kind is row by row
  pub by_kinds : flat_map (λ kind. flat_map f (filter (is_of_kind kind) rows)) all_kinds ≡ flat_map f rows
  by_kinds = sym (from_place all_kinds 0 kind_places refl) ∙ ap (flat_map f) (from_first rows)
