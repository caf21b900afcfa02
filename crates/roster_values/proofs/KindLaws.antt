-- Kinds, their words and their places. A clause `_` stands for every kind behind the first, so that a new kind needs no line here.
use Rattle.std.proofs.Common.{◌≡◌, ◌<◌, ◌+◌, ◌∙◌, ℕ, zero, suc, List, [], ◌∷◌, Some, Less, ap, arith, get_or, length}
use Rattle.std.proofs.Common.{map, nat_cmp, refl, subst, sym}
use Rattle.std.specs.Prelude.{slice_get}
use Rattle.std.proofs.lemmas.List.{get_or-map}
use Rattle.std.proofs.lemmas.List.FromFn.{get_or-range_with_len}
use Rattle.std.specs.Cmp.{nat_cmp_is}
use Rattle.std.specs.List.{AllByRecursion, range_with_len}
use Rattle.std.specs.List.Sorted.{IsStrictlySortedBy}
use Rattle.roster_values.specs.declared.kind.Kind.{Kind}
use Rattle.roster_values.specs.declared.kind.Kind.TheVariants.{Orgs}
use Rattle.roster_values.specs.Kinds.{all_kinds, kind_of_word, place_of_kind, plural_of}

pub word_reads : (kind : Kind) → kind_of_word (plural_of kind) ≡ Some kind
word_reads Orgs = refl
word_reads _ = refl

-- a kind stands at its place among all
pub kind_at_place : (kind : Kind) → get_or all_kinds (place_of_kind kind) Orgs ≡ kind
kind_at_place Orgs = refl
kind_at_place _ = refl

pub kind_there : (kind : Kind) → slice_get all_kinds (place_of_kind kind) ≡ Some kind
kind_there Orgs = refl
kind_there _ = refl

pub place_below : (kind : Kind) → place_of_kind kind < length all_kinds
place_below Orgs = omega arith
place_below _ = omega arith

-- so kinds at one place are one
pub kind_from_place : (kind other : Kind) → place_of_kind kind ≡ place_of_kind other → kind ≡ other
kind_from_place kind other same = sym (kind_at_place kind) ∙ ap (λ n. get_or all_kinds n Orgs) same ∙ kind_at_place other

-- the places of all kinds count up from 0
pub kind_places : map place_of_kind all_kinds ≡ range_with_len 0 (length all_kinds)
kind_places = refl

above : (n m count : ℕ) → n < m → AllByRecursion (λ p. nat_cmp n p ≡ Less) (range_with_len m count)
above n m zero less = tt
above n m (suc count) less = (sym (nat_cmp_is n m Less less), above n (m + 1) count (omega (arith, less)))

rising : (n count : ℕ) → IsStrictlySortedBy nat_cmp (range_with_len n count)
unfolding IsStrictlySortedBy
rising n zero = tt
rising n (suc count) = (above n (n + 1) count (omega arith), rising (n + 1) count)

pub kind_places_rise : IsStrictlySortedBy nat_cmp (map place_of_kind all_kinds)
kind_places_rise = subst (IsStrictlySortedBy nat_cmp) (sym kind_places) (rising 0 (length all_kinds))

-- so the kind at a place has that place
pub place_of_kind_at : (n : ℕ) → n < length all_kinds → place_of_kind (get_or all_kinds n Orgs) ≡ n
place_of_kind_at n below =
    let counted : get_or (range_with_len 0 (length all_kinds)) n 0 ≡ n = omega (arith, get_or-range_with_len 0 (length all_kinds) n 0 below) in
    sym (get_or-map place_of_kind all_kinds n Orgs 0 below) ∙ ap (λ ns. get_or ns n 0) kind_places ∙ counted

at_nth : (P : Kind → Type 0) (kinds : List Kind) (n : ℕ) (d : Kind) → AllByRecursion P kinds → n < length kinds → P (get_or kinds n d)
at_nth P [] n d all below = absurd (omega (arith, below))
at_nth P (kind ∷ kinds) zero d all below = all.0
at_nth P (kind ∷ kinds) (suc n) d all below = at_nth P kinds n d all.1 (omega (arith, below))

-- what holds of all kinds in their list holds of each
pub each_kind : (P : Kind → Type 0) → AllByRecursion P all_kinds → (kind : Kind) → P kind
each_kind P all kind = subst P (kind_at_place kind) (at_nth P all_kinds (place_of_kind kind) Orgs all (place_below kind))
