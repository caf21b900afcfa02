-- The rows of a list are those that it lists, in another order.
use Rattle.std.proofs.Common.{◌≡◌, List, [], ◌∷◌, true, false, Option, Some, None, ap, cond, filter, subst}
use Rattle.std.proofs.lemmas.List.Sorted.{IsPermutation-cons, IsPermutation-middle, IsPermutation-refl}
use Rattle.std.proofs.lemmas.List.Sorted.{IsPermutation-sym, IsPermutation-trans}
use Rattle.std.specs.List.Sorted.{IsPermutation}
use Rattle.filter_grammar.specs.declared.query.Query.{Query}
use Rattle.rest_paths.specs.Paths.{PathParts}
use Rattle.hub_spec.specs.views.Lists.{has_objects, is_listed, kind_of_path, list_of}
use Rattle.roster_types.specs.Records.{Record}
use Rattle.filter_grammar.specs.rows.Orders.{Sorting, arranged, comes_before, put_in, sorting_of}

put_in-permutes : (sorting : Sorting) (row : Record) (rows : List Record) → IsPermutation (row ∷ rows) (put_in sorting row rows)
put_in-permutes sorting row [] = IsPermutation-refl (row ∷ [])
put_in-permutes sorting row (other ∷ rows) =
    elim (comes_before sorting other row) as (λ b. IsPermutation (row ∷ other ∷ rows) (cond b (other ∷ put_in sorting row rows) (row ∷ other ∷ rows))) [
      | true ↦ IsPermutation-trans _ _ _ (IsPermutation-sym _ _ (IsPermutation-middle (other ∷ []) row rows)) (IsPermutation-cons other _ _ (put_in-permutes sorting row rows))
      | false ↦ IsPermutation-refl (row ∷ other ∷ rows)
    ]

arranged-permutes : (sorting : Sorting) (rows : List Record) → IsPermutation rows (arranged sorting rows)
unfolding arranged
arranged-permutes sorting [] = IsPermutation-refl []
arranged-permutes sorting (row ∷ rows) =
    IsPermutation-trans _ _ _ (IsPermutation-cons row _ _ (arranged-permutes sorting rows)) (put_in-permutes sorting row (arranged sorting rows))

abbrev some_of : {A : Type 0} → A → Option A → A
some_of x None = x
some_of x (Some y) = y

-- a list has the rows that it lists, in some order
pub list-permutes : (rows list : List Record) (path : PathParts) (query : Query) → list_of rows path query ≡ Some list → IsPermutation (filter (is_listed rows path query) rows) list
unfolding list_of
list-permutes rows list path query =
    let found = filter (is_listed rows path query) rows in
    let sorting = sorting_of (kind_of_path path) query in
    elim (has_objects rows path) as (λ b. cond b (Some (arranged sorting found)) None ≡ Some list → IsPermutation found list) [
      | true ↦ λ is. subst (IsPermutation found) (ap (some_of []) is) (arranged-permutes sorting found)
      | false ↦ λ is. absurd (cc is)
    ]
