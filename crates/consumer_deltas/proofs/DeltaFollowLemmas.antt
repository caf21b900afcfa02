-- The rows behind those that are staged.
use Rattle.std.proofs.Common.{◌≡◌, ◌⊎◌, ◌-◌, inl, inr, ⊎_elim, ℕ, List, [], ◌∷◌, ◌++◌, length, length-append, take}
use Rattle.std.proofs.Common.{drop, Bool, true, false, cond, Some, None, refl, sym, ap, subst, ◌∙◌, arith}
use Rattle.std.proofs.Math.Seq.{drop-append_seam}
use Rattle.std.proofs.lemmas.Bool.{and_from}
use Rattle.std.proofs.lemmas.Cmp.{nat_list_cmp_total}
use Rattle.std.proofs.lemmas.List.{take_all}
use Rattle.std.specs.Cmp.Lexicographic.{slice_cmp}
use Rattle.std.specs.Ordering.{is_lt, nat_cmp, ordering_reverse}
use Rattle.std.specs.declared.cmp.Ordering.{Ordering}
use Rattle.std.specs.declared.cmp.Ordering.TheVariants.{Less, Equal, Greater}
use Rattle.hub_spec.proofs.Below.{and_first, and_second, less_from_is_lt}
use Rattle.reference_rules.proofs.KeyOrder.{not_back}
use Rattle.exchange_link.specs.Agreement.{IsFrontOf}
use Rattle.keeper_memory.specs.copy.Copies.{Stage}
use Rattle.keeper_memory.specs.copy.Lists.{ascends, last_from}
use Rattle.keeper_memory.specs.copy.States.{state_of}
use Rattle.roster_types.specs.Keys.{is_after}
use Rattle.roster_types.specs.Records.{Record}
use Rattle.consumer_deltas.specs.DeltaStaging.{above, following}

never_less : (o : Ordering) → o ≡ ordering_reverse o → is_lt o ≡ false
never_less Less e = cc
never_less Equal e = refl
never_less Greater e = refl

no_self : (a : List ℕ) → is_lt (slice_cmp nat_cmp a a) ≡ false
no_self a = never_less (slice_cmp nat_cmp a a) (nat_list_cmp_total.antisymm a a)

-- what is above a greater id is above a smaller one
pub lower : (a b c : List ℕ) → is_lt (slice_cmp nat_cmp a b) ≡ true → is_lt (slice_cmp nat_cmp b c) ≡ true → is_lt (slice_cmp nat_cmp a c) ≡ true
lower a b c e f = ap is_lt (nat_list_cmp_total.trans a b c (less_from_is_lt _ e) (less_from_is_lt _ f))

-- the last id of rows that ascend is not below any
abbrev IsAt : List ℕ → List ℕ → Type 0
IsAt d z = (z ≡ d) ⊎ (is_lt (slice_cmp nat_cmp d z) ≡ true)

last_some : (d : List ℕ) (rows : List Record) → ascends (Some d) rows ≡ true → (z : List ℕ) × (last_from (Some d) rows ≡ Some z) × IsAt d z
last_some d [] up = (d, refl, inl refl)
last_some d (row ∷ rows) up =
    let first = and_first (is_lt (slice_cmp nat_cmp d row.id)) (ascends (Some row.id) rows) up in
    let r = last_some row.id rows (and_second (is_lt (slice_cmp nat_cmp d row.id)) (ascends (Some row.id) rows) up) in
    (r.0, r.1, inr (⊎_elim (λ (e : r.0 ≡ row.id). subst (λ z. is_lt (slice_cmp nat_cmp d z) ≡ true) (sym e) first) (λ less. lower d row.id r.0 first less) r.2))

not_after : (d : List ℕ) (rows : List Record) → ascends (Some d) rows ≡ true → is_after (last_from (Some d) rows) d ≡ false
not_after d rows up =
    let r = last_some d rows up in
    ap (λ o. is_after o d) r.1
    ∙ ⊎_elim (λ (e : r.0 ≡ d). ap (λ z. is_lt (slice_cmp nat_cmp z d)) e ∙ no_self d) (λ less. not_back d r.0 (less_from_is_lt _ less)) r.2

front_up : (d : List ℕ) (rows more : List Record) → ascends (Some d) (rows ++ more) ≡ true → ascends (Some d) rows ≡ true
front_up d [] more up = refl
front_up d (row ∷ rows) more up =
    and_from (is_lt (slice_cmp nat_cmp d row.id)) (ascends (Some row.id) rows) (and_first (is_lt (slice_cmp nat_cmp d row.id)) (ascends (Some row.id) (rows ++ more)) up)
    (front_up row.id rows more (and_second (is_lt (slice_cmp nat_cmp d row.id)) (ascends (Some row.id) (rows ++ more)) up))

enter : (b : Bool) (x y : List Record) → b ≡ true → cond b x y ≡ x
enter true x y e = refl
enter false x y e = cc

skip : (b : Bool) (x y : List Record) → b ≡ false → cond b x y ≡ y
skip false x y e = refl
skip true x y e = cc

above_from : (d : List ℕ) (rows more : List Record) → ascends (Some d) (rows ++ more) ≡ true → above (last_from (Some d) rows) (rows ++ more) ≡ more
above_from d [] [] up = refl
above_from d [] (row ∷ more) up = enter (is_lt (slice_cmp nat_cmp d row.id)) (row ∷ more) (above (Some d) more) (and_first (is_lt (slice_cmp nat_cmp d row.id)) (ascends (Some row.id) more) up)
above_from d (row ∷ rows) more up =
    let rest = and_second (is_lt (slice_cmp nat_cmp d row.id)) (ascends (Some row.id) (rows ++ more)) up in
    let z = last_from (Some row.id) rows in
    skip (is_after z row.id) (row ∷ (rows ++ more)) (above z (rows ++ more)) (not_after row.id rows (front_up row.id rows more rest)) ∙ above_from row.id rows more rest

above_front : (rows more : List Record) → ascends None (rows ++ more) ≡ true → above (last_from None rows) (rows ++ more) ≡ more
above_front [] [] up = refl
above_front [] (row ∷ more) up = refl
above_front (row ∷ rows) more up =
    let z = last_from (Some row.id) rows in
    skip (is_after z row.id) (row ∷ (rows ++ more)) (above z (rows ++ more)) (not_after row.id rows (front_up row.id rows more up)) ∙ above_from row.id rows more up

-- what follows a front of a list is the rest of it
pub following_rest : (s : Stage) (l : List Record) → ascends None l ≡ true → IsFrontOf s.present l → following (Some (state_of s)) l ≡ drop (length s.present) l
following_rest s l up front =
    let r : List Record = front.0 in
    let behind : drop (length s.present) l ≡ r = ap (drop (length s.present)) (sym front.1) ∙ drop-append_seam s.present r in
    let at : above (last_from None s.present) l ≡ r = ap (above (last_from None s.present)) (sym front.1) ∙ above_front s.present r (ap (ascends None) front.1 ∙ up) in
    let many : length r ≡ length l - length s.present = omega (arith, ap length front.1, length-append s.present r) in
    ap (take (length l - length s.present)) at ∙ take_all (length l - length s.present) r (omega (arith, many)) ∙ sym behind

pub following_all : (l : List Record) → following None l ≡ l
following_all [] = refl
following_all (row ∷ l) = take_all (length (row ∷ l) - 0) (row ∷ l) (omega arith)
