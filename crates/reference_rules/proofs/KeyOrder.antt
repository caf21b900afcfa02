-- The order of kinds and ids.
use Rattle.std.proofs.Common.{◌≡◌, ℕ, List, [], ◌∷◌, Bool, true, false, ◌&&◌, cond, Some, refl, ap, subst, ◌∙◌, sym}
use Rattle.std.specs.Cmp.{IsTotalOrder}
use Rattle.std.specs.Cmp.Lexicographic.{slice_cmp}
use Rattle.std.specs.Ordering.{is_eq, is_lt, nat_cmp, ordering_reverse, ordering_then}
use Rattle.std.specs.declared.cmp.Ordering.{Ordering}
use Rattle.std.specs.declared.cmp.Ordering.TheVariants.{Equal, Greater, Less}
use Rattle.std.proofs.lemmas.Cmp.{nat_cmp_total, nat_list_cmp_total, on_total, then_total, ranked, tied_itself}
use Rattle.std.proofs.lemmas.Map.Lookups.{exact_pairs, exact_unsigned, exact_bytes}
use Rattle.std.proofs.Common.{◌≤◌, arith}
pub use Rattle.roster_base.proofs.Rising.{is_less as less_from_is_lt}
use Rattle.roster_types.specs.Keys.{Key, key_cmp, look_up}

pub key_total : IsTotalOrder key_cmp
unfolding key_cmp
key_total = then_total (on_total (λ (k : Key). k.0) nat_cmp_total) (on_total (λ (k : Key). k.1) nat_list_cmp_total)

pub key_exact : (a b : Key) → key_cmp a b ≡ Equal → a ≡ b
unfolding key_cmp
key_exact = exact_pairs nat_cmp (slice_cmp nat_cmp) exact_unsigned exact_bytes

pub equal_from_is_eq : (o : Ordering) → is_eq o ≡ true → o ≡ Equal
equal_from_is_eq Less e = cc
equal_from_is_eq Equal e = refl
equal_from_is_eq Greater e = cc

-- what is found under a key has it
pub found_key : {X : Type 0} (key : X → Key) (k : Key) (xs : List X) (x : X) → look_up key k xs ≡ Some x → key x ≡ k
found_key key k [] x e = cc
found_key key k (y ∷ xs) x e =
    elim (is_eq (key_cmp k (key y))) as (λ b. is_eq (key_cmp k (key y)) ≡ b → cond b (Some y) (look_up key k xs) ≡ Some x → key x ≡ k) [
      | true ↦ λ t same. let is : y ≡ x = cc in subst (λ z. key z ≡ k) is (sym (key_exact _ _ (equal_from_is_eq _ t)))
      | false ↦ λ _ later. found_key key k xs x later
    ] refl e

-- a smaller key is of the same kind or a smaller one
pub kind_le : (a b : Key) → key_cmp a b ≡ Less → a.0 ≤ b.0
unfolding key_cmp
kind_le a b e =
    elim (nat_cmp a.0 b.0) as (λ o. nat_cmp a.0 b.0 ≡ o → ordering_then o (slice_cmp nat_cmp a.1 b.1) ≡ Less → a.0 ≤ b.0) [
      | Less ↦ λ o _. omega (arith, ranked a.0 b.0 Less (sym o))
      | Equal ↦ λ o _. omega (arith, ranked a.0 b.0 Equal (sym o))
      | Greater ↦ λ o impossible. cc
    ] refl e

-- keys of one kind compare by their ids
pub same_kind : (kind : ℕ) (a b : List ℕ) → key_cmp (kind, a) (kind, b) ≡ slice_cmp nat_cmp a b
unfolding key_cmp
same_kind kind a b = ap (λ o. ordering_then o (slice_cmp nat_cmp a b)) (tied_itself nat_cmp_total kind)

pub ids_less : (m n : ℕ) (a b : List ℕ) → m ≡ n → key_cmp (m, a) (n, b) ≡ Less → slice_cmp nat_cmp a b ≡ Less
ids_less m n a b same less = sym (same_kind n a b) ∙ subst (λ k. key_cmp (k, a) (n, b) ≡ Less) same less

pub not_back : (a b : List ℕ) → slice_cmp nat_cmp a b ≡ Less → is_lt (slice_cmp nat_cmp b a) ≡ false
not_back a b less = ap is_lt (nat_list_cmp_total.antisymm b a ∙ ap ordering_reverse less)

pub and_first : (a b : Bool) → (a && b) ≡ true → a ≡ true
and_first true b e = refl
and_first false b e = e

pub and_second : (a b : Bool) → (a && b) ≡ true → b ≡ true
and_second true b e = e
and_second false b e = cc
