-- Lists of rows by the places of their kinds.
use Rattle.std.proofs.Common.{◌≡◌, ◌<◌, ℕ, zero, suc, List, [], ◌∷◌, ◌++◌, length, get_or, refl, subst, arith}
use Rattle.std.specs.List.{AllByRecursion}
use Rattle.keeper_memory.specs.copy.Lists.{kind_count}
use Rattle.roster_types.specs.Records.{Record}
use Rattle.roster_values.proofs.KindLaws.{place_of_kind_at}
use Rattle.roster_values.specs.Kinds.{all_kinds, place_of_kind}
use Rattle.roster_values.specs.declared.kind.Kind.{Kind}
use Rattle.roster_values.specs.declared.kind.Kind.TheVariants.{Orgs}

abbrev Lists : Type 0
Lists = List (List Record)

-- the list at the end
pub at_last : (lists : Lists) (x : List Record) (p : ℕ) → p ≡ length lists → get_or (lists ++ x ∷ []) p [] ≡ x
at_last [] x zero is = refl
at_last [] x (suc p) is = absurd (omega arith)
at_last (l ∷ lists) x zero is = absurd (omega arith)
at_last (l ∷ lists) x (suc p) is = at_last lists x p (omega arith)

-- and at other places
pub at_other : (lists : Lists) (x y : List Record) (p : ℕ) → (p ≡ length lists → ⊥) → get_or (lists ++ x ∷ []) p [] ≡ get_or (lists ++ y ∷ []) p []
at_other [] x y zero isnt = absurd (isnt refl)
at_other [] x y (suc p) isnt = refl
at_other (l ∷ lists) x y zero isnt = refl
at_other (l ∷ lists) x y (suc p) isnt = at_other lists x y p (λ is. isnt (omega (arith, is)))

-- an empty list at the end is as none
pub empty_last : (lists : Lists) (p : ℕ) → get_or (lists ++ [] ∷ []) p [] ≡ get_or lists p []
empty_last [] zero = refl
empty_last [] (suc p) = refl
empty_last (l ∷ lists) zero = refl
empty_last (l ∷ lists) (suc p) = empty_last lists p

pub before_last : (lists : Lists) (x : List Record) (p : ℕ) → p < length lists → get_or (lists ++ x ∷ []) p [] ≡ get_or lists p []
before_last [] x p lt = absurd (omega arith)
before_last (l ∷ lists) x zero lt = refl
before_last (l ∷ lists) x (suc p) lt = before_last lists x p (omega arith)

pub all_at : (P : List Record → Type 0) (lists : Lists) (p : ℕ) → P [] → AllByRecursion P lists → P (get_or lists p [])
all_at P [] p none all = none
all_at P (l ∷ lists) zero none all = all.0
all_at P (l ∷ lists) (suc p) none all = all_at P lists p none all.1

pub all_push : (P : List Record → Type 0) (lists : Lists) (x : List Record) → AllByRecursion P lists → P x → AllByRecursion P (lists ++ x ∷ [])
all_push P [] x all has = (has, tt)
all_push P (l ∷ lists) x all has = (all.0, all_push P lists x all.1 has)

-- lists that are equal at each place are equal
pub same_lists : (xs ys : Lists) → length xs ≡ length ys → ((p : ℕ) → p < length xs → get_or xs p [] ≡ get_or ys p []) → xs ≡ ys
same_lists [] [] long same = refl
same_lists [] (y ∷ ys) long same = absurd (omega arith)
same_lists (x ∷ xs) [] long same = absurd (omega arith)
same_lists (x ∷ xs) (y ∷ ys) long same =
    let first : x ≡ y = same 0 (omega arith) in
    λ i. first i ∷ same_lists xs ys (omega arith) (λ p lt. same (suc p) (omega arith)) i

-- what holds at each kind's place holds at each place
pub by_place : (P : ℕ → Type 0) → ((kind : Kind) → P (place_of_kind kind)) → (p : ℕ) → p < kind_count → P p
by_place P at p lt = subst P (place_of_kind_at p lt) (at (get_or all_kinds p Orgs))
