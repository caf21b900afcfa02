-- Values that are taken out of a row of values, one after another.
use Rattle.std.proofs.Common.{◌≡◌, true, List, [], ◌∷◌, Option, Some, None, refl, ap, ◌∙◌, sym}
use Rattle.std.proofs.lemmas.Bool.{and_parts, and_from}
use Rattle.roster_values.specs.declared.kind.Kind.{Kind}
use Rattle.roster_values.specs.declared.value.Value.{Value}
use Rattle.roster_values.specs.Fit.{fits, is_good}
use Rattle.roster_values.specs.Shape.{shape_of, has_shape}
use Rattle.roster_values.specs.Table.{Info}
use Rattle.roster_types.specs.Shapes.{begins_with, fits_all, fits_shape, own_fields, shapes_fit}

-- the values that are left have the shapes of the fields that are left
pub record Fit (is : List Info) (vs : List (Option Value)) : Type 0 where
  pub fits : shapes_fit is vs ≡ true

pub fit : (kind : Kind) (vs : List (Option Value)) → shapes_fit (own_fields kind) vs ≡ true → Fit (own_fields kind) vs
fit kind vs h = record { fits = h }

first_of_fit : (i : Info) (is : List Info) (vs : List (Option Value)) → shapes_fit (i ∷ is) vs ≡ true → begins_with i.required (shape_of i.form) vs ≡ true
first_of_fit i is [] h = h
first_of_fit i is (v ∷ vs) h = (and_parts (fits_shape i.required (shape_of i.form) v) (shapes_fit is vs) h).0

-- the first of them has the shape of its field
pub first : {i : Info} {is : List Info} {vs : List (Option Value)} → Fit (i ∷ is) vs → begins_with i.required (shape_of i.form) vs ≡ true
first {i} {is} {vs} f = first_of_fit i is vs f.fits

-- and once it is taken those behind it are left
pub next : {i : Info} {is : List Info} {vs : List (Option Value)} {v : Option Value} {rest : List (Option Value)} → Fit (i ∷ is) vs → vs ≡ v ∷ rest → Fit is rest
next {i} {is} {vs} {v} {rest} f e =
    let h : shapes_fit (i ∷ is) (v ∷ rest) ≡ true = rw e at f.fits in
    record { fits = (and_parts (fits_shape i.required (shape_of i.form) v) (shapes_fit is rest) h).1 }

none_left : (vs : List (Option Value)) → shapes_fit [] vs ≡ true → [] ≡ vs
none_left [] h = refl
none_left (v ∷ vs) h = cc

-- the values that are put together again are those that were taken
pub all_taken : {vs : List (Option Value)} → Fit [] vs → [] ≡ vs
all_taken {vs} f = none_left vs f.fits

pub one_taken : {v : Option Value} {vs rest made : List (Option Value)} → vs ≡ v ∷ rest → made ≡ rest → v ∷ made ≡ vs
one_taken {v} e same = ap (λ xs. v ∷ xs) same ∙ sym e

pub fits_shape_from_fits : (i : Info) (v : Option Value) → fits i v ≡ true → fits_shape i.required (shape_of i.form) v ≡ true
fits_shape_from_fits i None h = h
fits_shape_from_fits i (Some v) h = (and_parts (has_shape (shape_of i.form) v) (is_good i.form v) h).0

pub shapes_fit_from_fits_all : (is : List Info) (vs : List (Option Value)) → fits_all is vs ≡ true → shapes_fit is vs ≡ true
shapes_fit_from_fits_all [] [] h = refl
shapes_fit_from_fits_all [] (v ∷ vs) h = cc
shapes_fit_from_fits_all (i ∷ is) [] h = cc
shapes_fit_from_fits_all (i ∷ is) (v ∷ vs) h =
    let p = and_parts (fits i v) (fits_all is vs) h in
    and_from _ _ (fits_shape_from_fits i v p.0) (shapes_fit_from_fits_all is vs p.1)
