-- The rows of a list are of one kind.
use Rattle.std.proofs.Common.{◌≡◌, ℕ, ◌≤◌, List, [], ◌∷◌, Bool, true, false, cond, filter, length, refl, sym, ap, ◌∙◌}
use Rattle.std.proofs.Common.{arith, None, Some, Option}
use Rattle.std.proofs.lemmas.Bool.{and_from}
use Rattle.std.specs.List.{AllByRecursion}
use Rattle.filter_grammar.specs.declared.query.Order.TheVariants.{Asc}
use Rattle.hub_spec.proofs.ListLemmas.{arranged_by_id, ascends_kept}
use Rattle.query_pages.specs.Listed.{listed}
use Rattle.filter_grammar.specs.rows.Orders.{arranged, by_id, sorting_of}
use Rattle.std.proofs.lemmas.List.Sums.{length-filter}
use Rattle.filter_grammar.specs.declared.query.Query.{Query}
use Rattle.reference_rules.proofs.Rest.{is_next, rest_at, rest_none, rest_of}
use Rattle.roster_types.specs.Keys.{Ascends, count_of, is_of_kind, next_of, row_key}
use Rattle.roster_values.specs.declared.kind.Kind.{Kind}
use Rattle.roster_types.specs.Records.{Record}

-- what passes the stricter of two tests
narrower : (p q : Record → Bool) (rows : List Record) → ((row : Record) → p row ≡ true → q row ≡ true) → filter p (filter q rows) ≡ filter p rows
narrower p q [] so = refl
narrower p q (x ∷ rows) so =
    elim (q x) as (λ b. q x ≡ b → filter p (cond b (x ∷ filter q rows) (filter q rows)) ≡ cond (p x) (x ∷ filter p rows) (filter p rows)) [
      | true ↦ λ _. ap (λ ys. cond (p x) (x ∷ ys) ys) (narrower p q rows so)
      | false ↦ λ no. elim (p x) as (λ b. p x ≡ b → filter p (filter q rows) ≡ cond b (x ∷ filter p rows) (filter p rows)) [
        | true ↦ λ yes. let also = so x yes in cc
        | false ↦ λ _. narrower p q rows so
      ] refl
    ] refl

fewer : (p q : Record → Bool) (rows : List Record) → ((row : Record) → p row ≡ true → q row ≡ true) → length (filter p rows) ≤ length (filter q rows)
fewer p q [] so = omega arith
fewer p q (x ∷ rows) so =
    let rest = fewer p q rows so in
    elim (p x) as (λ b. p x ≡ b → length (cond b (x ∷ filter p rows) (filter p rows)) ≤ length (cond (q x) (x ∷ filter q rows) (filter q rows))) [
      | true ↦ λ yes. let also = so x yes in
          let more : length (x ∷ filter p rows) ≤ length (x ∷ filter q rows) = omega arith in
          rw also more
      | false ↦ λ _. elim (q x) as (λ b. length (filter p rows) ≤ length (cond b (x ∷ filter q rows) (filter q rows))) [ true ↦ omega arith | false ↦ rest ]
    ] refl

-- a test that only rows of a kind pass
module _ (kind : Kind) (test : Record → Bool) (of : (row : Record) → test row ≡ true → is_of_kind kind row ≡ true) (rows : List Record) where
  -- all that pass are among the rows of the kind
  pub listed_start : filter test (rest_of kind None rows) ≡ filter test rows
  listed_start = narrower test (is_next kind None) rows (λ row e. and_from _ _ (of row e) refl)

  pub listed_few : length (filter test rows) ≤ count_of kind rows
  listed_few = omega (arith, fewer test (is_of_kind kind) rows of, length-filter (is_of_kind kind) rows)

-- the next row of the kind, where it passes and where it doesn't
module _ (p : Record → Bool) (kind : Kind) (after : Option (List ℕ)) (rows : List Record) (row : Record) (up : Ascends row_key rows) (next : next_of kind after rows ≡ Some row) where
  pub left_here : p row ≡ true → filter p (rest_of kind after rows) ≡ row ∷ filter p (rest_of kind (Some row.id) rows)
  left_here passes = ap (filter p) (rest_at kind after rows row up next) ∙ ap (λ b. cond b (row ∷ filter p (rest_of kind (Some row.id) rows)) (filter p (rest_of kind (Some row.id) rows))) passes

  pub left_past : p row ≡ false → filter p (rest_of kind after rows) ≡ filter p (rest_of kind (Some row.id) rows)
  left_past fails = ap (filter p) (rest_at kind after rows row up next) ∙ ap (λ b. cond b (row ∷ filter p (rest_of kind (Some row.id) rows)) (filter p (rest_of kind (Some row.id) rows))) fails

pub left_none : (p : Record → Bool) (kind : Kind) (after : Option (List ℕ)) (rows : List Record) → next_of kind after rows ≡ None → filter p (rest_of kind after rows) ≡ []
left_none p kind after rows ended = ap (filter p) (rest_none kind after rows ended)

are_of : (kind : Kind) (p : Record → Bool) (rows : List Record) → ((row : Record) → p row ≡ true → is_of_kind kind row ≡ true) → AllByRecursion (λ row. is_of_kind kind row ≡ true) (filter p rows)
are_of kind p [] so = tt
are_of kind p (x ∷ rows) so =
    elim (p x) as (λ b. p x ≡ b → AllByRecursion (λ row. is_of_kind kind row ≡ true) (cond b (x ∷ filter p rows) (filter p rows))) [
      | true ↦ λ yes. (so x yes, are_of kind p rows so)
      | false ↦ λ _. are_of kind p rows so
    ] refl

-- a list by ascending id is the rows as they stand
pub listed_by_id : (kind : Kind) (query : Query) (test : Record → Bool) (rows : List Record) → ((row : Record) → test row ≡ true → is_of_kind kind row ≡ true) → Ascends row_key rows
    → by_id Asc ≡ sorting_of kind query → listed kind query test rows ≡ filter test rows
listed_by_id kind query test rows of up sorting =
    ap (λ s. arranged s (filter test rows)) (sym sorting) ∙ arranged_by_id kind (filter test rows) (are_of kind test rows of) (ascends_kept test rows up)
