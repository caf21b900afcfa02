-- Ids are put in order as schools are by them.
use Rattle.std.proofs.Common.{◌≡◌, ℕ, Less, Equal, Greater, List, [], ◌∷◌, Ordering, map, nat_cmp, refl, ap, ◌∙◌}
use Rattle.std.specs.Cmp.Lexicographic.{slice_cmp}
use Rattle.std.specs.Ordering.{match_ordering}
use Rattle.grant_files.specs.declared.schools.School.{School}
use Rattle.grant_files.specs.Schools.{id_in, school_of}
use Rattle.roster_base.specs.Order.{in_order, placed}

ids_placed : (school : School) (schools : List School) → map id_in (placed id_in school schools) ≡ placed (λ id. id) school.id (map id_in schools)
unfolding placed
ids_placed school [] = refl
ids_placed school (s ∷ schools) = by (slice_cmp nat_cmp school.id s.id) (ids_placed school schools)
  where
    by : (o : Ordering) → map id_in (placed id_in school schools) ≡ placed (λ id. id) school.id (map id_in schools)
        → map id_in (match_ordering o (school ∷ s ∷ schools) (school ∷ schools) (s ∷ placed id_in school schools))
        ≡ match_ordering o (school.id ∷ s.id ∷ map id_in schools) (school.id ∷ map id_in schools) (s.id ∷ placed (λ id. id) school.id (map id_in schools))
    by Less e = refl
    by Equal e = refl
    by Greater e = ap (λ ids. s.id ∷ ids) e

-- the ids of schools that were put in order are the ids in order
pub ids_in_order : (ids : List (List ℕ)) → map id_in (in_order id_in (map school_of ids)) ≡ in_order (λ id. id) ids
ids_in_order [] = refl
ids_in_order (id ∷ ids) = ids_placed (school_of id) (in_order id_in (map school_of ids)) ∙ ap (placed (λ i. i) id) (ids_in_order ids)
