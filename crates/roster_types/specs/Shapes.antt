-- The fields that each kind has of its own, and which variants of `Value` may stand in them.
use Rattle.std.specs.Prelude.{Bool, true, false, ◌&&◌, not, List, [], ◌∷◌, Option, None, Some, drop}
use Rattle.roster_values.specs.declared.kind.Kind.{Kind}
use Rattle.roster_values.specs.declared.value.Value.{Value}
use Rattle.roster_values.specs.Fit.{fits}
use Rattle.roster_values.specs.Shape.{Shape, shape_of, has_shape}
use Rattle.roster_values.specs.Table.{Info, common_fields, table}

-- the fields of a kind behind the three that every kind has
abbrev pub own_fields : Kind → List Info
own_fields kind = drop common_fields (table kind)

-- a value of the shape, or nothing where none is required
abbrev pub fits_shape : Bool → Shape → Option Value → Bool
fits_shape required shape None = not required
fits_shape required shape (Some v) = has_shape shape v

-- the first of the values is there, and may stand in a field of that shape
abbrev pub begins_with : Bool → Shape → List (Option Value) → Bool
begins_with required shape [] = false
begins_with required shape (v ∷ vs) = fits_shape required shape v

-- the values have the shapes of the fields, one by one
abbrev pub shapes_fit : List Info → List (Option Value) → Bool
shapes_fit [] [] = true
shapes_fit [] (v ∷ vs) = false
shapes_fit (i ∷ is) [] = false
shapes_fit (i ∷ is) (v ∷ vs) = fits_shape i.required (shape_of i.form) v && shapes_fit is vs

-- the values may stand in the fields, one by one
abbrev pub fits_all : List Info → List (Option Value) → Bool
fits_all [] [] = true
fits_all [] (v ∷ vs) = false
fits_all (i ∷ is) [] = false
fits_all (i ∷ is) (v ∷ vs) = fits i v && fits_all is vs
