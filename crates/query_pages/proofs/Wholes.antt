-- The rows of a kind from a place on.
use Rattle.std.proofs.Common.{◌≡◌, ℕ, zero, suc, ◌-◌, ◌<◌, List, [], ◌∷◌, ◌++◌, append_assoc, drop, filter, length}
use Rattle.std.proofs.Common.{slice_get, take, None, Some, Option, refl, sym, ap, ◌∙◌, arith}
use Rattle.std.proofs.lemmas.List.{length-append}
use Rattle.grant_scopes.specs.declared.schools.Schools.TheVariants as school
use Rattle.hub_spec.specs.views.Seen.{sees_row}
use Rattle.query_pages.specs.Whole.{rows_from}
use Rattle.reference_rules.proofs.Rest.{rest_at, rest_none, rest_of, rest_start}
use Rattle.roster_types.specs.Keys.{Ascends, is_of_kind, next_of, row_key}
use Rattle.roster_types.specs.Records.{Record}
use Rattle.roster_values.specs.declared.kind.Kind.{Kind}

module _ (kind : Kind) (rows : List Record) (up : Ascends row_key rows) where
  -- the rest begins with the row that comes next
  pub rest_from : (after : Option (List ℕ)) → rest_of kind after rows ≡ rows_from kind (next_of kind after rows) rows
  rest_from after =
      elim (next_of kind after rows) as (λ o. next_of kind after rows ≡ o → rest_of kind after rows ≡ rows_from kind o rows) [
        | None ↦ λ none. rest_none kind after rows none
        | Some row ↦ λ next. rest_at kind after rows row up next
      ] refl

  -- the rest from a place on
  rest_at_place : (n : ℕ) (after : Option (List ℕ)) → drop n (rest_of kind after rows) ≡ rows_from kind (slice_get (rest_of kind after rows) n) rows
  rest_at_place zero after =
      elim (next_of kind after rows) as (λ o. next_of kind after rows ≡ o → rest_of kind after rows ≡ rows_from kind (slice_get (rest_of kind after rows) 0) rows) [
        | None ↦ λ none. let so = rest_none kind after rows none in so ∙ sym (ap (λ ys. rows_from kind (slice_get ys 0) rows) so)
        | Some row ↦ λ next. let so = rest_at kind after rows row up next in so ∙ sym (ap (λ ys. rows_from kind (slice_get ys 0) rows) so)
      ] refl
  rest_at_place (suc n) after =
      elim (next_of kind after rows) as (λ o. next_of kind after rows ≡ o → drop (suc n) (rest_of kind after rows) ≡ rows_from kind (slice_get (rest_of kind after rows) (suc n)) rows) [
        | None ↦ λ none. let so = rest_none kind after rows none in ap (drop (suc n)) so ∙ sym (ap (λ ys. rows_from kind (slice_get ys (suc n)) rows) so)
        | Some row ↦ λ next. let so = rest_at kind after rows row up next in ap (drop (suc n)) so ∙ rest_at_place n (Some row.id) ∙ sym (ap (λ ys. rows_from kind (slice_get ys (suc n)) rows) so)
      ] refl

  -- all rows of the kind from a place on
  pub kind_at_place : (n : ℕ) → drop n (filter (is_of_kind kind) rows) ≡ rows_from kind (slice_get (filter (is_of_kind kind) rows) n) rows
  kind_at_place n =
      let all = rest_start kind rows in
      sym (ap (drop n) all) ∙ rest_at_place n None ∙ ap (λ ys. rows_from kind (slice_get ys n) rows) all

  -- one row further
  pub copied_on : (limit : ℕ) (row : Record) (found whole : List Record) → length found < limit → found ++ take (limit - length found) (rows_from kind (Some row) rows) ≡ whole
      → (found ++ row ∷ []) ++ take (limit - length (found ++ row ∷ [])) (rows_from kind (next_of kind (Some row.id) rows) rows) ≡ whole
  copied_on limit row found whole lt so =
      let e : suc (limit - length (found ++ row ∷ [])) ≡ limit - length found = omega (arith, length-append found (row ∷ [])) in
      ap (λ ys. (found ++ row ∷ []) ++ take (limit - length (found ++ row ∷ [])) ys) (sym (rest_from (Some row.id)))
      ∙ append_assoc found (row ∷ []) (take (limit - length (found ++ row ∷ [])) (rest_of kind (Some row.id) rows))
      ∙ ap (λ n. found ++ take n (row ∷ rest_of kind (Some row.id) rows)) e
      ∙ so

-- a grant at all schools sees every row
pub seen_all : (among rows : List Record) → filter (sees_row school.All among) rows ≡ rows
unfolding sees_row
seen_all among [] = refl
seen_all among (row ∷ rows) = ap (λ ys. row ∷ ys) (seen_all among rows)
