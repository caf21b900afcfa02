-- Rows that are left of rows in order, read one by one.
use Rattle.std.proofs.Common.{◌≡◌, ◌≤◌, List, [], ◌∷◌, filter, find, length, Bool, true, false, cond, Some, refl, sym}
use Rattle.std.proofs.Common.{ap, ◌∙◌, arith}
use Rattle.std.proofs.lemmas.List.Sums.{length-filter}
use Rattle.std.specs.Prelude.{count_by}
use Rattle.roster_types.specs.Records.{Record}

-- of two tests, either may come first
pub find_swap : (p q : Record → Bool) (rows : List Record) → find q (filter p rows) ≡ find p (filter q rows)
find_swap p q [] = refl
find_swap p q (x ∷ rows) =
    elim (p x) as (λ a. p x ≡ a → find q (cond a (x ∷ filter p rows) (filter p rows)) ≡ find p (cond (q x) (x ∷ filter q rows) (filter q rows))) [
      | true ↦ λ e. elim (q x) as (λ b. cond b (Some x) (find q (filter p rows)) ≡ find p (cond b (x ∷ filter q rows) (filter q rows))) [
        | true ↦ ap (λ a. cond a (Some x) (find p (filter q rows))) (sym e)
        | false ↦ find_swap p q rows
      ]
      | false ↦ λ e. elim (q x) as (λ b. find q (filter p rows) ≡ find p (cond b (x ∷ filter q rows) (filter q rows))) [
        | true ↦ find_swap p q rows ∙ ap (λ a. cond a (Some x) (find p (filter q rows))) (sym e)
        | false ↦ find_swap p q rows
      ]
    ] refl

fewer : (p q : Record → Bool) (rows : List Record) → length (filter q (filter p rows)) ≤ length (filter q rows)
fewer p q [] = omega arith
fewer p q (x ∷ rows) =
    let rest = fewer p q rows in
    elim (p x) as (λ a. length (filter q (cond a (x ∷ filter p rows) (filter p rows))) ≤ length (cond (q x) (x ∷ filter q rows) (filter q rows))) [
      | true ↦ elim (q x) as (λ b. length (cond b (x ∷ filter q (filter p rows)) (filter q (filter p rows))) ≤ length (cond b (x ∷ filter q rows) (filter q rows))) [ true ↦ omega arith | false ↦ rest ]
      | false ↦ elim (q x) as (λ b. length (filter q (filter p rows)) ≤ length (cond b (x ∷ filter q rows) (filter q rows))) [ true ↦ omega arith | false ↦ rest ]
    ]

-- no more are counted of those that are left
pub count_kept : (p q : Record → Bool) (rows : List Record) → count_by q (filter p rows) ≤ count_by q rows
count_kept p q rows = omega (arith, fewer p q rows, length-filter q (filter p rows), length-filter q rows)
