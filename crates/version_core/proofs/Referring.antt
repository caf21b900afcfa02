-- Rows that refer to a row, one after another.
use Rattle.std.proofs.Common.{◌≡◌, ℕ, List, [], ◌∷◌, filter, find, Bool, true, false, ◌&&◌, ◌||◌, cond, Option, Some}
use Rattle.std.proofs.Common.{None, refl, sym, ap, ◌∙◌}
use Rattle.std.proofs.Math.Bool.{and-true}
use Rattle.std.specs.List.{list_any}
use Rattle.reference_rules.proofs.Rest.{is_next, rest_of}
use Rattle.roster_types.specs.Keys.{Ascends, is_after, is_of_kind, row_key}
use Rattle.roster_types.specs.Records.{Record}
use Rattle.roster_values.specs.declared.kind.Kind.{Kind}
use Rattle.version_core.specs.References.{names, next_referring, refers}
use Rattle.version_core.proofs.Picked.{filter_both, find_both, picked_at, picked_none, turned}

module _ (kind : Kind) (field id : List ℕ) where
  -- the rows of the kind above an id whose field names another
  abbrev pub referring_rest : Option (List ℕ) → List Record → List Record
  referring_rest after rows = filter (names field id) (rest_of kind after rows)

  -- the next is the first of the kind's rest that refers
  pub next_in_rest : (after : Option (List ℕ)) (rows : List Record) → next_referring kind field id after rows ≡ find (names field id) (rest_of kind after rows)
  next_in_rest after rows = find_both (names field id) (is_next kind after) (λ row. refers kind field id row && is_after after row.id) (λ row. turned (is_of_kind kind row) (names field id row) (is_after after row.id)) rows

  -- all that refer, above an id
  pub all_in_rest : (after : Option (List ℕ)) (rows : List Record) → filter (λ row. refers kind field id row && is_after after row.id) rows ≡ referring_rest after rows
  all_in_rest after rows = filter_both (names field id) (is_next kind after) (λ row. refers kind field id row && is_after after row.id) (λ row. turned (is_of_kind kind row) (names field id row) (is_after after row.id)) rows

  pub referring_none : (after : Option (List ℕ)) (rows : List Record) → next_referring kind field id after rows ≡ None → referring_rest after rows ≡ []
  referring_none after rows none = picked_none (names field id) (rest_of kind after rows) (sym (next_in_rest after rows) ∙ none)

  pub referring_at : (after : Option (List ℕ)) (rows : List Record) (row : Record) → Ascends row_key rows → next_referring kind field id after rows ≡ Some row → referring_rest after rows ≡ row ∷ referring_rest (Some row.id) rows
  referring_at after rows row up next = picked_at kind (names field id) rows up after row (sym (next_in_rest after rows) ∙ next)

  -- a test of those that refer is one of the kind's rest
  pub any_referring : (test : Record → Bool) (rows : List Record) → list_any (λ row. refers kind field id row && test row) rows ≡ list_any test (referring_rest None rows)
  any_referring test rows = any_kept (refers kind field id) test rows ∙ ap (list_any test) (sym (without_bound rows) ∙ all_in_rest None rows)
    where
      any_kept : (q test : Record → Bool) (rows : List Record) → list_any (λ row. q row && test row) rows ≡ list_any test (filter q rows)
      any_kept q test [] = refl
      any_kept q test (x ∷ rows) =
          elim (q x) as (λ b. ((b && test x) || list_any (λ row. q row && test row) rows) ≡ list_any test (cond b (x ∷ filter q rows) (filter q rows))) [
            | true ↦ ap (λ b. test x || b) (any_kept q test rows)
            | false ↦ any_kept q test rows
          ]

      without_bound : (rows : List Record) → filter (λ row. refers kind field id row && is_after None row.id) rows ≡ filter (refers kind field id) rows
      without_bound rows = λ i. filter (λ row. and-true (refers kind field id row) i) rows
