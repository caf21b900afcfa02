-- The length of a row's fields, counted up to a cap.
use Rattle.std.proofs.Common.{true, ◌≡◌, ◌<◌, ◌≤◌, ◌+◌, ℕ, zero, suc, List, [], ◌∷◌, Option, Some, None, length, get_or}
use Rattle.std.proofs.Common.{drop, map, min, option_map, refl, ap, sym, ◌∙◌, arith, add-one, zero-add}
use Rattle.std.proofs.lemmas.List.{drop_all, get_or-map, length-map}
use Rattle.std.proofs.lemmas.Option.{get_or_from_slice_get, slice_get-get_or, slice_get-map, slice_get_within}
use Rattle.std.specs.List.{slice_get}
use Rattle.roster_values.specs.declared.fields.FieldInfo.{FieldInfo}
use Rattle.roster_values.specs.declared.kind.Kind.{Kind}
use Rattle.roster_values.specs.declared.value.Value.{Value}
use Rattle.roster_values.specs.Fit.{fits_form}
use Rattle.roster_values.specs.Table.{Info, info_of, table}
use Rattle.roster_types.specs.declared.status.Status.{Status}
use Rattle.roster_types.specs.Records.{IsFitting, Record, all_values}
use Rattle.roster_types.proofs.Fitting.{fits_all-at, fits_all-length, restatus}
use Rattle.roster_types.specs.Lengths.{field_length, fields_length}

pub fields_length-drop : (is : List Info) (vs : List (Option Value)) (k : ℕ) (d : Info) → k < length is → length is ≡ length vs
    → fields_length (drop k is) (drop k vs) ≡ field_length (get_or is k d) (get_or vs k None) + fields_length (drop (suc k) is) (drop (suc k) vs)
unfolding fields_length
fields_length-drop [] vs k d l e = absurd (omega arith)
fields_length-drop (i ∷ is) [] k d l e = absurd (omega arith)
fields_length-drop (i ∷ is) (v ∷ vs) zero d l e = refl
fields_length-drop (i ∷ is) (v ∷ vs) (suc k) d l e = fields_length-drop is vs k d (omega arith) (omega arith)

pub fields_length-end : (is : List Info) (vs : List (Option Value)) (k : ℕ) → length is ≤ k → fields_length (drop k is) (drop k vs) ≡ 0
unfolding fields_length
fields_length-end is vs k h = rw (drop_all k is h) refl

-- how far a sum has come: with what is left it gives the whole, both counted up to the cap
pub record Sums (is : List Info) (vs : List (Option Value)) (place sum : ℕ) : Type 0 where
  pub small : sum ≤ 100000
  pub same : min (sum + fields_length (drop place is) (drop place vs)) 100000 ≡ min (fields_length is vs) 100000

pub sums-start : (is : List Info) (vs : List (Option Value)) → Sums is vs 0 0
sums-start is vs = record { small = omega arith; same = ap (λ n. min n 100000) (zero-add (fields_length is vs)) }

pub sums-on : (is : List Info) (vs : List (Option Value)) (place sum member new : ℕ) (d : Info) → Sums is vs place sum → place < length is → length is ≡ length vs
    → member ≡ min (field_length (get_or is place d) (get_or vs place None)) 100000 → new ≡ min (sum + member) 100000 → Sums is vs (place + 1) new
sums-on is vs place sum member new d s l e m n =
    let cut = fields_length-drop is vs place d l e in
    record {
      small = omega arith;
      same = rw add-one (omega (arith, cut, s.same, s.small));
    }

pub sums-end : (is : List Info) (vs : List (Option Value)) (place sum : ℕ) → Sums is vs place sum → length is ≤ place → sum ≡ min (fields_length is vs) 100000
sums-end is vs place sum s h = let none = fields_length-end is vs place h in omega (arith, none, s.same, s.small)

-- the table's line at a place of the code's table
pub info_at : (infos : List FieldInfo) (is : List Info) (n : ℕ) (d : FieldInfo) → map info_of infos ≡ is → n < length is → slice_get is n ≡ Some (info_of (get_or infos n d))
info_at infos is n d m h =
    let same : length infos ≡ length is = sym (length-map infos info_of) ∙ ap length m in
    let within : n < length infos = omega arith in
    rw (← m) (slice_get-map info_of infos n ∙ ap (option_map info_of) (slice_get-get_or infos n d within))

pub infos-length : (infos : List FieldInfo) (is : List Info) → map info_of infos ≡ is → length infos ≡ length is
infos-length infos is m = sym (length-map infos info_of) ∙ ap length m

pub info_here : (infos : List FieldInfo) (is : List Info) (n : ℕ) (d : FieldInfo) → map info_of infos ≡ is → n < length infos → get_or is n (info_of d) ≡ info_of (get_or infos n d)
info_here infos is n d m h = rw (← m) (get_or-map info_of infos n d (info_of d) h)

-- the code's table is that of this kind
pub record AreInfos (kind : Kind) (infos : List FieldInfo) : Type 0 where
  pub as_many : length infos ≡ length (table kind)
  pub line : (n : ℕ) (d : FieldInfo) → n < length infos → slice_get (table kind) n ≡ Some (info_of (get_or infos n d))
  pub here : (n : ℕ) (d : FieldInfo) → n < length infos → get_or (table kind) n (info_of d) ≡ info_of (get_or infos n d)

-- as the code's table of a kind is, which is this one
pub are_infos : {infos : List FieldInfo} {kind made : Kind} → map info_of infos ≡ table made → made ≡ kind
    → AreInfos kind infos
are_infos {infos} {kind} {made} are same =
    let m : map info_of infos ≡ table kind = are ∙ ap table same in
    let many = infos-length infos (table kind) m in
    record {
      as_many = many;
      line = λ n d h. info_at infos (table kind) n d m (omega (arith, many, h));
      here = λ n d h. info_here infos (table kind) n d m h;
    }

-- the fields of a fitting row are as many as its values
pub fields-values : (r : Record) → IsFitting r → length (table r.kind) ≡ length (all_values r)
fields-values r h = fits_all-length (table r.kind) (all_values r) h.values

-- a place that the table has is one of the row's values
pub place_within : (r : Record) (place : ℕ) (info : Info) → IsFitting r → slice_get (table r.kind) place ≡ Some info → place < length (all_values r)
place_within r place info h e = let n = fields-values r h in omega (arith, slice_get_within (table r.kind) place info e, n)

-- the value there fits the field
pub value_fits_there : (r : Record) (status : Status) (place : ℕ) (info : Info) (v : Value) → IsFitting r → slice_get (table r.kind) place ≡ Some info
    → get_or (all_values (record r { status = status })) place None ≡ Some v → fits_form info.form v ≡ true
value_fits_there r status place info v h e o =
    let here : get_or (table r.kind) place info ≡ info = get_or_from_slice_get (table r.kind) place info info e in
    rw here at (fits_all-at (table r.kind) (all_values (record r { status = status })) place info v (restatus r status h).values o)
