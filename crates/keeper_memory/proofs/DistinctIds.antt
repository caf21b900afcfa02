-- Rows in the order of their ids have different ids.
use Rattle.std.proofs.Common.{◌≡◌, ℕ, Less, List, [], ◌∷◌, true, false, bytes_eq, is_eq, map, nat_cmp, Option, Some}
use Rattle.std.proofs.Common.{sym, ap, ◌∙◌}
use Rattle.std.proofs.lemmas.Bool.{and_parts}
use Rattle.std.proofs.lemmas.Cmp.{nat_list_cmp_total}
use Rattle.std.proofs.lemmas.Map.Text.{is_eq-slice_cmp}
use Rattle.std.specs.Cmp.Lexicographic.{slice_cmp}
use Rattle.std.specs.List.{AllByRecursion, IsDistinct}
use Rattle.keeper_memory.specs.copy.Lists.{ascends}
use Rattle.roster_base.proofs.Rising.{is_less}
use Rattle.roster_types.specs.Keys.{is_after}
use Rattle.roster_types.specs.Records.{Record}

-- an id that is below another is below all above that one, and differs from them
below : (a b : List ℕ) (rows : List Record) → slice_cmp nat_cmp a b ≡ Less → ascends (Some b) rows ≡ true → AllByRecursion (λ y. bytes_eq a y ≡ false) (map (λ row. row.id) rows)
below a b [] less up = tt
below a b (row ∷ rows) less up =
    let parts = and_parts (is_after (Some b) row.id) _ up in
    let next = nat_list_cmp_total.trans a b row.id less (is_less _ parts.0) in
    (sym (is_eq-slice_cmp a row.id) ∙ ap is_eq next, below a row.id rows next parts.1)

above : (a : List ℕ) (rows : List Record) → ascends (Some a) rows ≡ true → AllByRecursion (λ y. bytes_eq a y ≡ false) (map (λ row. row.id) rows)
above a [] up = tt
above a (row ∷ rows) up =
    let parts = and_parts (is_after (Some a) row.id) _ up in
    let less = is_less _ parts.0 in
    (sym (is_eq-slice_cmp a row.id) ∙ ap is_eq less, below a row.id rows less parts.1)

pub distinct_ids : (last : Option (List ℕ)) (rows : List Record) → ascends last rows ≡ true → IsDistinct bytes_eq (map (λ row. row.id) rows)
unfolding IsDistinct
distinct_ids last [] up = tt
distinct_ids last (row ∷ rows) up =
    let parts = and_parts (is_after last row.id) _ up in
    (above row.id rows parts.1, distinct_ids (Some row.id) rows parts.1)
