-- Labels that rise from one to the next.
use Rattle.std.proofs.Common.{◌≡◌, ◌<◌, ◌^◌, ℕ, List, [], ◌∷◌, ◌++◌, Bool, true, false, Option, None, Some, Ordering}
use Rattle.std.proofs.Common.{Less, Equal, Greater, map, refl, sym, ap, ◌∙◌, subst, append-nil, append_assoc, arith}
use Rattle.std.specs.Prelude.{◌&&◌}
use Rattle.std.specs.FinMap.{from_entries, is_sorted}
use Rattle.std.specs.FinMap.Entries.{below_all}
use Rattle.std.specs.List.{AllByRecursion}
use Rattle.std.specs.Ordering.{eq_by_cmp, is_eq, is_lt}
use Rattle.std.proofs.lemmas.Bool.{and_from, and_parts, false_from_ne_true}
use Rattle.std.proofs.lemmas.Cmp.{nat_list_cmp_total}
use Rattle.keeper_memory.specs.copy.Copies.{NumbersRise}
use Rattle.keeper_memory.specs.copy.Lists.{ascends}
use Rattle.keeper_memory.specs.declared.copy.entry.OutEntry.{OutEntry}
use Rattle.hub_format.proofs.EntryMaps.{Alike, Differ, alike_map, filled, found, missed, to_front}
use Rattle.hub_format.proofs.Orders.{less_is, number_order}
use Rattle.hub_format.specs.Format.{Entry}
use Rattle.hub_format.specs.Pieces.{number}
use Rattle.item_maps.proofs.ItemLemmas.{tied_same}
use Rattle.item_maps.specs.Items.{bytes_cmp}
use Rattle.roster_types.specs.Keys.{is_after}
use Rattle.roster_base.proofs.Rising.{is_less}
use Rattle.roster_types.specs.Records.{Record}
use Rattle.copy_format.specs.Format.{out_entry, rows_under}

-- each label is above the one before it, and the first above `last`
abbrev pub climbs : Option (List ℕ) → List Entry → Bool
climbs last [] = true
climbs last (e ∷ es) = is_after last e.0 && climbs (Some e.0) es

further : (x y : List ℕ) (es : List Entry) → bytes_cmp x y ≡ Less → below_all bytes_cmp y es ≡ true → below_all bytes_cmp x es ≡ true
further x y [] less all = refl
further x y (e ∷ es) less all =
    let parts = and_parts (is_lt (bytes_cmp y e.0)) (below_all bytes_cmp y es) all in
    and_from (is_lt (bytes_cmp x e.0)) (below_all bytes_cmp x es) (ap is_lt (nat_list_cmp_total.trans x y e.0 less (is_less _ parts.0))) (further x y es less parts.1)

below : (x : List ℕ) (es : List Entry) → climbs (Some x) es ≡ true → below_all bytes_cmp x es ≡ true
below x [] up = refl
below x (e ∷ es) up =
    let parts = and_parts (is_after (Some x) e.0) (climbs (Some e.0) es) up in
    and_from (is_lt (bytes_cmp x e.0)) (below_all bytes_cmp x es) parts.0 (further x e.0 es (is_less _ parts.0) (below e.0 es parts.1))

pub sorted : (last : Option (List ℕ)) (es : List Entry) → climbs last es ≡ true → is_sorted bytes_cmp es ≡ true
sorted last [] up = refl
sorted last (e ∷ es) up =
    let parts = and_parts (is_after last e.0) (climbs (Some e.0) es) up in
    and_from (below_all bytes_cmp e.0 es) (is_sorted bytes_cmp es) (below e.0 es parts.1) (sorted (Some e.0) es parts.1)

not_equal : (o : Ordering) → is_lt o ≡ true → is_eq o ≡ false
not_equal Less is = refl
not_equal Equal is = absurd cc
not_equal Greater is = absurd cc

pub differ : (es : List Entry) → is_sorted bytes_cmp es ≡ true → Differ es
differ [] up = tt
differ (e ∷ es) up = let parts = and_parts (below_all bytes_cmp e.0 es) (is_sorted bytes_cmp es) up in (none es parts.0, differ es parts.1)
  where
    none : (others : List Entry) → below_all bytes_cmp e.0 others ≡ true → found e.0 others ≡ None
    none [] all = refl
    none (other ∷ others) all =
        let parts = and_parts (is_lt (bytes_cmp e.0 other.0)) (below_all bytes_cmp e.0 others) all in
        let apart : eq_by_cmp bytes_cmp e.0 other.0 ≡ false = not_equal (bytes_cmp e.0 other.0) parts.0 in
        rw apart (none others parts.1)

apart_from : (x y : Entry) (xs ys : List Entry) → found y.0 (ys ++ x ∷ xs) ≡ None → eq_by_cmp bytes_cmp y.0 x.0 ≡ false
apart_from x y xs [] none = (missed (eq_by_cmp bytes_cmp y.0 x.0) x.1 (found y.0 xs) none).0
apart_from x y xs (z ∷ ys) none = apart_from x y xs ys (missed (eq_by_cmp bytes_cmp y.0 z.0) z.1 (found y.0 (ys ++ x ∷ xs)) none).1

turned_round : (a b : List ℕ) → eq_by_cmp bytes_cmp a b ≡ false → eq_by_cmp bytes_cmp b a ≡ false
turned_round a b apart = false_from_ne_true _ (λ tie. let same = tied_same b a tie in let is : eq_by_cmp bytes_cmp b a ≡ eq_by_cmp bytes_cmp a b = (λ i. eq_by_cmp bytes_cmp (same i) (sym same i)) in let both : true ≡ false = sym tie ∙ is ∙ apart in cc)

none_before : (x : Entry) (xs ys : List Entry) → Differ (ys ++ x ∷ xs) → found x.0 ys ≡ None
none_before x xs [] differ = refl
none_before x xs (y ∷ ys) differ = rw (turned_round y.0 x.0 (apart_from x y xs ys differ.0)) (none_before x xs ys differ.1)

at_end : (x : Entry) (xs ys : List Entry) → Differ (ys ++ x ∷ xs) → Alike (x ∷ ys) (ys ++ x ∷ [])
at_end x xs ys differ q = ap (λ es. found q (x ∷ es)) (sym (append-nil ys)) ∙ sym (to_front x ys [] (none_before x xs ys differ) q)

-- entries put behind others
pub filled_behind : (xs ys : List Entry) → Differ (ys ++ xs) → filled xs (from_entries {R = bytes_cmp} ys) ≡ from_entries (ys ++ xs)
filled_behind [] ys differ = ap from_entries (sym (append-nil ys))
filled_behind (x ∷ xs) ys differ =
    ap (filled xs) (alike_map (x ∷ ys) (ys ++ x ∷ []) (at_end x xs ys differ))
    ∙ filled_behind xs (ys ++ x ∷ []) (subst Differ (sym (append_assoc ys (x ∷ []) xs)) differ)
    ∙ ap from_entries (append_assoc ys (x ∷ []) xs)

-- rows in the order of their ids, and entries in the order of their numbers
rows_climb : (last : Option (List ℕ)) (rows : List Record) → ascends last rows ≡ true → climbs last (rows_under rows) ≡ true
rows_climb last [] up = refl
rows_climb last (row ∷ rows) up =
    let parts = and_parts (is_after last row.id) (ascends (Some row.id) rows) up in
    and_from (is_after last row.id) (climbs (Some row.id) (rows_under rows)) parts.0 (rows_climb (Some row.id) rows parts.1)

pub rows_sorted : (rows : List Record) → ascends None rows ≡ true → is_sorted bytes_cmp (rows_under rows) ≡ true
rows_sorted rows up = sorted None (rows_under rows) (rows_climb None rows up)

-- numbers that stand in their bytes
abbrev pub AreSmall : List OutEntry → Type 0
AreSmall entries = AllByRecursion (λ entry. entry.number < 2 ^ 64) entries

outs_climb : (n : ℕ) (entries : List OutEntry) → n < 2 ^ 64 → AreSmall entries → NumbersRise n entries → climbs (Some (number n)) (map out_entry entries) ≡ true
outs_climb n [] fits small rise = refl
outs_climb n (entry ∷ entries) fits small rise =
    and_from (is_after (Some (number n)) (number entry.number)) (climbs (Some (number entry.number)) (map out_entry entries))
    (ap is_lt (number_order n entry.number fits small.0 ∙ less_is n entry.number rise.0)) (outs_climb entry.number entries small.0 small.1 rise.1)

pub outs_sorted : (entries : List OutEntry) → AreSmall entries → NumbersRise 0 entries → is_sorted bytes_cmp (map out_entry entries) ≡ true
outs_sorted entries small rise = sorted (Some (number 0)) (map out_entry entries) (outs_climb 0 entries (omega arith) small rise)
