-- Rows whose ids rise.
use Rattle.std.proofs.Common.{◌≡◌, ◌++◌, ◌∙◌, ℕ, false, List, [], ◌∷◌, None, Less, nat_cmp, is_eq, append_assoc}
use Rattle.std.proofs.Common.{bytes_eq, map, refl, sym, ap, subst}
use Rattle.std.proofs.lemmas.Map.Text.{is_eq-slice_cmp}
use Rattle.std.specs.Cmp.Lexicographic.{slice_cmp}
use Rattle.std.specs.List.{AllByRecursion}
use Rattle.std.specs.List.Sorted.{IsStrictlySortedBy}
use Rattle.roster_base.specs.Order.{RiseBy}
use Rattle.roster_types.specs.declared.set_row.SetRow.{SetRow}
use Rattle.csv_sets.specs.Files.{first_repeat, has_id, id_in}

-- an id above that of an earlier row is another
lacks_lower : (front : List SetRow) (row : SetRow) (more : List SetRow) → RiseBy id_in (front ++ row ∷ more) → has_id row.row.id front ≡ false
unfolding IsStrictlySortedBy
lacks_lower [] row more h = refl
lacks_lower (first ∷ front) row more h =
    let other : bytes_eq first.row.id row.row.id ≡ false = sym (is_eq-slice_cmp first.row.id row.row.id) ∙ ap is_eq (less_at first.row.id front row more h.0) in
    rw (other, lacks_lower front row more h.1) refl
  where
    less_at : (id : List ℕ) (front : List SetRow) (row : SetRow) (more : List SetRow) → AllByRecursion (λ y. slice_cmp nat_cmp id y ≡ Less) (map id_in (front ++ row ∷ more)) → slice_cmp nat_cmp id row.row.id ≡ Less
    less_at id [] row more h = h.0
    less_at id (first ∷ front) row more h = less_at id front row more h.1

-- ids that rise do not repeat
pub rise_differ : (front rows : List SetRow) → RiseBy id_in (front ++ rows) → first_repeat front rows ≡ None
rise_differ front [] h = refl
rise_differ front (row ∷ rows) h =
    rw (lacks_lower front row rows h) (rise_differ (front ++ row ∷ []) rows (subst (RiseBy id_in) (sym (append_assoc front (row ∷ []) rows)) h))

-- no rows
pub none_rise : (rows : List SetRow) → rows ≡ [] → RiseBy id_in rows
unfolding IsStrictlySortedBy
none_rise rows e = subst (RiseBy id_in) (sym e) tt
