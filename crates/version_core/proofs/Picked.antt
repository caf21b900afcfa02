-- The rows of a kind that pass a test, one after another.
use Rattle.std.proofs.Common.{◌≡◌, ℕ, zero, suc, ◌≤◌, List, [], ◌∷◌, filter, find, length, Bool, true, false, ◌&&◌}
use Rattle.std.proofs.Common.{cond, Option, Some, None, refl, sym, ap, subst, ◌∙◌, arith}
use Rattle.reference_rules.proofs.Rest.{rest_at, rest_none, rest_of}
use Rattle.roster_types.specs.Keys.{Ascends, next_of, row_key}
use Rattle.roster_types.specs.Records.{Record}
use Rattle.roster_values.specs.declared.kind.Kind.{Kind}

-- a test of two: the first that passes, and all that do, are found among those that pass one of them
pub find_both : (p q r : Record → Bool) → ((row : Record) → r row ≡ (q row && p row)) → (rows : List Record) → find r rows ≡ find p (filter q rows)
find_both p q r both [] = refl
find_both p q r both (x ∷ rows) =
    ap (λ b. cond b (Some x) (find r rows)) (both x)
    ∙ elim (q x) as (λ b. cond (b && p x) (Some x) (find r rows) ≡ find p (cond b (x ∷ filter q rows) (filter q rows))) [
      | true ↦ ap (cond (p x) (Some x)) (find_both p q r both rows)
      | false ↦ find_both p q r both rows
    ]

pub filter_both : (p q r : Record → Bool) → ((row : Record) → r row ≡ (q row && p row)) → (rows : List Record) → filter r rows ≡ filter p (filter q rows)
filter_both p q r both [] = refl
filter_both p q r both (x ∷ rows) =
    ap (λ b. cond b (x ∷ filter r rows) (filter r rows)) (both x)
    ∙ elim (q x) as (λ b. cond (b && p x) (x ∷ filter r rows) (filter r rows) ≡ filter p (cond b (x ∷ filter q rows) (filter q rows))) [
      | true ↦ ap (λ ys. cond (p x) (x ∷ ys) ys) (filter_both p q r both rows)
      | false ↦ filter_both p q r both rows
    ]

pub turned : (a b c : Bool) → ((a && b) && c) ≡ ((a && c) && b)
turned true true true = refl
turned true true false = refl
turned true false true = refl
turned true false false = refl
turned false b c = refl

-- where none is found none passes
pub picked_none : (p : Record → Bool) (rows : List Record) → find p rows ≡ None → filter p rows ≡ []
picked_none p [] none = refl
picked_none p (x ∷ rows) none =
    elim (p x) as (λ b. cond b (Some x) (find p rows) ≡ None → cond b (x ∷ filter p rows) (filter p rows) ≡ []) [
      | true ↦ λ impossible. cc
      | false ↦ λ later. picked_none p rows later
    ] none

module _ (kind : Kind) (p : Record → Bool) (rows : List Record) (up : Ascends row_key rows) where
  abbrev rest : Option (List ℕ) → List Record
  rest after = rest_of kind after rows

  abbrev IsFirst : Option (List ℕ) → Record → Type 0
  IsFirst after row = filter p (rest after) ≡ row ∷ filter p (rest (Some row.id))

  nothing : (after : Option (List ℕ)) (row : Record) → next_of kind after rows ≡ None → find p (rest after) ≡ Some row → IsFirst after row
  nothing after row none found = let impossible : None ≡ Some row = sym (ap (find p) (rest_none kind after rows none)) ∙ found in cc

  picked_within : (n : ℕ) (after : Option (List ℕ)) (row : Record) → length (rest after) ≤ n → find p (rest after) ≡ Some row → IsFirst after row
  picked_within zero after row le found =
      elim (next_of kind after rows) as (λ o. next_of kind after rows ≡ o → IsFirst after row) [
        | None ↦ λ none. nothing after row none found
        | Some x ↦ λ next. let e = ap length (rest_at kind after rows x up next) in absurd (omega arith)
      ] refl
  picked_within (suc n) after row le found =
      elim (next_of kind after rows) as (λ o. next_of kind after rows ≡ o → IsFirst after row) [
        | None ↦ λ none. nothing after row none found
        | Some x ↦ λ next.
            let e = rest_at kind after rows x up next in
            let fewer : length (rest (Some x.id)) ≤ n = omega (arith, ap length e) in
            let left = rest (Some x.id) in
            let found_here : cond (p x) (Some x) (find p left) ≡ Some row = sym (ap (find p) e) ∙ found in
            elim (p x) as (λ b. p x ≡ b → cond b (Some x) (find p left) ≡ Some row → IsFirst after row) [
              | true ↦ λ passes same.
                  let is : x ≡ row = cc in
                  subst (λ r. IsFirst after r) is (ap (filter p) e ∙ ap (λ b. cond b (x ∷ filter p left) (filter p left)) passes)
              | false ↦ λ fails later.
                  ap (filter p) e ∙ ap (λ b. cond b (x ∷ filter p left) (filter p left)) fails ∙ picked_within n (Some x.id) row fewer later
            ] refl found_here
      ] refl

  -- the first that passes above an id, and those above it
  pub picked_at : (after : Option (List ℕ)) (row : Record) → find p (rest after) ≡ Some row → filter p (rest after) ≡ row ∷ filter p (rest (Some row.id))
  picked_at after row found = picked_within (length (rest after)) after row (omega arith) found
