-- What is listed of an area behind the first items of a range.
use Rattle.std.proofs.Common.{◌≡◌, ◌-◌, ◌<◌, ℕ, zero, suc, List, [], ◌∷◌, ◌++◌, Bool, true, false, ◌&&◌, cond, Some}
use Rattle.std.proofs.Common.{Ordering, Less, Equal, Greater, append-nil, append_assoc, drop, length, map, refl, sym}
use Rattle.std.proofs.Common.{take, ap, subst, ◌∙◌, arith}
use Rattle.std.specs.Prelude.{slice_get}
use Rattle.std.specs.FinMap.{entries, entries_sorted, is_sorted, retain_keys}
use Rattle.std.specs.FinMap.Entries.{below_all}
use Rattle.std.specs.List.{AllByRecursion}
use Rattle.std.specs.Ordering.{is_ge, is_lt, nat_cmp, ordering_reverse, ordering_then}
use Rattle.std.proofs.lemmas.Bool.{and_parts}
use Rattle.std.proofs.lemmas.Cmp.{nat_cmp_total, nat_list_cmp_total, tied_itself}
use Rattle.std.proofs.lemmas.List.{map-append, take-append-drop}
use Rattle.item_maps.proofs.ItemLemmas.{same_bytes}
use Rattle.item_maps.specs.Edits.{entry_of}
use Rattle.item_maps.specs.Items.{Items, bytes_cmp, is_between, listed}
use Rattle.item_maps.specs.declared.item.Item.{Item}
use Rattle.version_core.proofs.OrderLemmas.{passed as holds}
use Rattle.hub_format.specs.Format.{Entry, where_label}
use Rattle.hub_format.proofs.EntryMaps.{where_all}
use Rattle.hub_format.proofs.Orders.{greater_is}
use Rattle.roster_base.proofs.Rising.{is_less}
use Rattle.span_format.proofs.SpanListings.{passed}
use Rattle.keeper_sqlite.proofs.RangeLemmas.{whole_range}

-- ---- the least label above another

zero_least : (b : ℕ) (l : List ℕ) → is_ge (bytes_cmp (b ∷ l) (0 ∷ [])) ≡ true
zero_least zero [] = ap (λ o. is_ge (ordering_then o Equal)) (tied_itself nat_cmp_total 0)
zero_least zero (c ∷ l) = ap (λ o. is_ge (ordering_then o Greater)) (tied_itself nat_cmp_total 0)
zero_least (suc b) l = ap (λ o. is_ge (ordering_then o (bytes_cmp l []))) (greater_is (suc b) 0 (omega arith))

abbrev above : List ℕ → List ℕ → Bool
above k l = is_lt (bytes_cmp k l)

from_behind : (k l : List ℕ) → is_ge (bytes_cmp l (k ++ 0 ∷ [])) ≡ above k l
from_behind [] [] = refl
from_behind [] (b ∷ l) = zero_least b l
from_behind (a ∷ k) [] = refl
from_behind (a ∷ k) (b ∷ l) = ap (λ o. is_ge (ordering_then o (bytes_cmp l (k ++ 0 ∷ [])))) (nat_cmp_total.antisymm b a) ∙ go (nat_cmp a b) (from_behind k l)
  where
    go : (o : Ordering) → is_ge (bytes_cmp l (k ++ 0 ∷ [])) ≡ above k l → is_ge (ordering_then (ordering_reverse o) (bytes_cmp l (k ++ 0 ∷ []))) ≡ is_lt (ordering_then o (bytes_cmp k l))
    go Less later = refl
    go Equal later = later
    go Greater later = refl

-- ---- entries whose labels rise

not_back : (x y : List ℕ) → above x y ≡ true → above y x ≡ false
not_back x y lt = ap is_lt (nat_list_cmp_total.antisymm y x) ∙ go (bytes_cmp x y) lt
  where
    go : (o : Ordering) → is_lt o ≡ true → is_lt (ordering_reverse o) ≡ false
    go Less lt = refl
    go Equal lt = absurd cc
    go Greater lt = absurd cc

each_above : (x : List ℕ) (es : List Entry) → below_all bytes_cmp x es ≡ true → AllByRecursion (λ e. above x e.0 ≡ true) es
each_above x [] all = tt
each_above x (e ∷ es) all = let parts = and_parts (above x e.0) (below_all bytes_cmp x es) all in (parts.0, each_above x es parts.1)

one_above : (x : List ℕ) (first : List Entry) (e : Entry) (rest : List Entry) → below_all bytes_cmp x (first ++ e ∷ rest) ≡ true → above x e.0 ≡ true
one_above x [] e rest all = (and_parts (above x e.0) (below_all bytes_cmp x rest) all).0
one_above x (a ∷ first) e rest all = one_above x first e rest (and_parts (above x a.0) (below_all bytes_cmp x (first ++ e ∷ rest)) all).1

-- those above one of them are those behind it
behind_one : (first : List Entry) (e : Entry) (rest : List Entry) → is_sorted bytes_cmp (first ++ e ∷ rest) ≡ true → where_label (above e.0) (first ++ e ∷ rest) ≡ rest
behind_one [] e rest up =
    let parts = and_parts (below_all bytes_cmp e.0 rest) (is_sorted bytes_cmp rest) up in
    let itself : above e.0 e.0 ≡ false = ap is_lt (tied_itself nat_list_cmp_total e.0) in
    rw itself (where_all (above e.0) rest (each_above e.0 rest parts.0))
behind_one (a ∷ first) e rest up =
    let parts = and_parts (below_all bytes_cmp a.0 (first ++ e ∷ rest)) (is_sorted bytes_cmp (first ++ e ∷ rest)) up in
    let miss : above e.0 a.0 ≡ false = not_back a.0 e.0 (one_above a.0 first e rest parts.0) in
    rw miss (behind_one first e rest parts.1)

where_where : (p q r : List ℕ → Bool) → ((l : List ℕ) → r l ≡ (q l && p l)) → (es : List Entry) → where_label p (where_label q es) ≡ where_label r es
where_where p q r same [] = refl
where_where p q r same (e ∷ es) =
    (elim (q e.0) as (λ b. where_label p (cond b (e ∷ where_label q es) (where_label q es)) ≡ cond (b && p e.0) (e ∷ where_label r es) (where_label r es)) [
      | true ↦ elim (p e.0) as (λ b. cond b (e ∷ where_label p (where_label q es)) (where_label p (where_label q es)) ≡ cond b (e ∷ where_label r es) (where_label r es)) [
        | true ↦ ap (λ xs. e ∷ xs) (where_where p q r same es)
        | false ↦ where_where p q r same es
      ]
      | false ↦ where_where p q r same es
    ])
    ∙ ap (λ b. cond b (e ∷ where_label r es) (where_label r es)) (sym (same e.0))

where_passes : (p : List ℕ → Bool) (es : List Entry) → AllByRecursion (λ e. p e.0 ≡ true) (where_label p es)
where_passes p [] = tt
where_passes p (e ∷ es) = elim (p e.0) as (λ b. p e.0 ≡ b → AllByRecursion (λ e. p e.0 ≡ true) (cond b (e ∷ where_label p es) (where_label p es))) [
  | true ↦ λ is. (is, where_passes p es)
  | false ↦ λ no. where_passes p es
] refl

one_of : (p : List ℕ → Bool) (first : List Entry) (e : Entry) (rest : List Entry) → AllByRecursion (λ e. p e.0 ≡ true) (first ++ e ∷ rest) → p e.0 ≡ true
one_of p [] e rest all = all.0
one_of p (a ∷ first) e rest all = one_of p first e rest all.1

-- ---- a range behind one of its labels

-- what is above a label of the range is in the range, but for its end
above_from : (from k l : List ℕ) → is_ge (bytes_cmp k from) ≡ true → above k l ≡ true → is_ge (bytes_cmp l from) ≡ true
above_from from k l ge lt = ap is_ge (nat_list_cmp_total.antisymm l from) ∙ ap (λ o. is_ge (ordering_reverse o)) (below (bytes_cmp k from) refl ge)
  where
    below : (o : Ordering) → bytes_cmp k from ≡ o → is_ge o ≡ true → bytes_cmp from l ≡ Less
    below Less is ge = absurd cc
    below Equal is ge = subst (λ x. bytes_cmp x l ≡ Less) (same_bytes k from is) (is_less (bytes_cmp k l) lt)
    below Greater is ge = nat_list_cmp_total.trans from k l (nat_list_cmp_total.antisymm from k ∙ ap ordering_reverse is) (is_less (bytes_cmp k l) lt)

same_range : (from to k : List ℕ) → is_ge (bytes_cmp k from) ≡ true → (l : List ℕ) → is_between (k ++ 0 ∷ []) to l ≡ (is_between from to l && above k l)
same_range from to k ge l = ap (λ b. b && is_lt (bytes_cmp l to)) (from_behind k l) ∙ go (above k l) (is_ge (bytes_cmp l from)) (is_lt (bytes_cmp l to)) (above_from from k l ge)
  where
    go : (a b c : Bool) → (a ≡ true → b ≡ true) → (a && c) ≡ ((b && c) && a)
    go true true true f = refl
    go true true false f = refl
    go true false c f = absurd (let no = f refl in cc)
    go false true true f = refl
    go false true false f = refl
    go false false c f = refl

rest_behind : (m : Items) (area : ℕ) (from to : List ℕ) (first : List Entry) (e : Entry) (rest : List Entry) → listed area from to m ≡ first ++ e ∷ rest → listed area (e.0 ++ 0 ∷ []) to m ≡ rest
rest_behind m area from to first e rest is =
    let range = is_between from to in
    let there : where_label range (entries (m area)) ≡ first ++ e ∷ rest = passed range (m area) ∙ is in
    let inside : range e.0 ≡ true = one_of range first e rest (subst (AllByRecursion (λ e. range e.0 ≡ true)) there (where_passes range (entries (m area)))) in
    let ge = (and_parts (is_ge (bytes_cmp e.0 from)) (is_lt (bytes_cmp e.0 to)) inside).0 in
    let up : is_sorted bytes_cmp (first ++ e ∷ rest) ≡ true = subst (λ es. is_sorted bytes_cmp es ≡ true) is (holds _ (entries_sorted (retain_keys (m area) range))) in
    sym (passed (is_between (e.0 ++ 0 ∷ []) to) (m area))
    ∙ sym (where_where (above e.0) range (is_between (e.0 ++ 0 ∷ []) to) (same_range from to e.0 ge) (entries (m area)))
    ∙ ap (where_label (above e.0)) there ∙ behind_one first e rest up

-- ---- the first items of a range, and the rest of it

last_split : (xs : List Item) (x : Item) → slice_get xs (length xs - 1) ≡ Some x → (ys : List Item) × (xs ≡ ys ++ x ∷ [])
last_split [] x is = absurd cc
last_split (y ∷ []) x is = let same : y ≡ x = cc in ([], ap (λ z. z ∷ []) same)
last_split (y ∷ z ∷ xs) x is =
    let next : length (y ∷ z ∷ xs) - 1 ≡ suc (length (z ∷ xs) - 1) = omega arith in
    let rest = last_split (z ∷ xs) x (sym (ap (slice_get (y ∷ z ∷ xs)) next) ∙ is) in
    (y ∷ rest.0, ap (λ zs. y ∷ zs) rest.1)

-- behind a piece of a range the rest begins with the least label above its last one
pub piece_and_rest : (m : Items) (area n : ℕ) (from to : List ℕ) (items : List Item) (last : Item) → map entry_of items ≡ take n (listed area from to m) → slice_get items (length items - 1) ≡ Some last
    → map entry_of items ++ listed area (last.label ++ 0 ∷ []) to m ≡ listed area from to m
piece_and_rest m area n from to items last is at_end =
    let all = listed area from to m in
    let split = last_split items last at_end in
    let whole : map entry_of items ++ drop n all ≡ all = ap (λ es. es ++ drop n all) is ∙ take-append-drop n all in
    let parts : map entry_of items ≡ map entry_of split.0 ++ entry_of last ∷ [] = ap (map entry_of) split.1 ∙ map-append entry_of split.0 (last ∷ []) in
    let there : all ≡ map entry_of split.0 ++ entry_of last ∷ drop n all =
    sym whole ∙ ap (λ es. es ++ drop n all) parts ∙ append_assoc (map entry_of split.0) (entry_of last ∷ []) (drop n all) in
    ap (λ es. map entry_of items ++ es) (rest_behind m area from to (map entry_of split.0) (entry_of last) (drop n all) there) ∙ whole

-- and behind one that is shorter than was asked for there is none
pub last_piece : (n : ℕ) (items : List Item) (all : List Entry) → map entry_of items ≡ take n all → length items < n → map entry_of items ++ [] ≡ all
last_piece n items all is few = append-nil (map entry_of items) ∙ whole_range n items all is few
