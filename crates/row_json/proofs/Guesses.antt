-- Values that are read one after another, and the kind of the row that they give.
use Rattle.std.proofs.Common.{◌≡◌, ◌≤◌, ◌<◌, ◌+◌, ◌++◌, ℕ, Bool, true, false, List, [], ◌∷◌, Option, None, Some, drop}
use Rattle.std.proofs.Common.{get_or, length, map, nat_lt, refl, if◌then◌else◌, append_assoc, append-nil}
use Rattle.std.proofs.lemmas.Bool.{and_from}
use Rattle.std.proofs.lemmas.List.{drop-map, drop_all}
use Rattle.roster_base.proofs.ListSteps.{next_item}
use Rattle.roster_types.specs.declared.metadata.Entry.{Entry}
use Rattle.roster_types.specs.Lengths.{row_length}
use Rattle.roster_types.specs.Records.{Record, record_from}
use Rattle.roster_types.specs.Rows.{longest, row_from}
use Rattle.roster_types.specs.Shapes.{fits_all}
use Rattle.roster_values.specs.declared.kind.Kind.{Kind}
use Rattle.roster_values.specs.declared.value.Value.{Value}
use Rattle.roster_values.specs.Fit.{fits}
use Rattle.roster_values.specs.declared.fields.FieldInfo.{FieldInfo}
use Rattle.roster_values.specs.Table.{Info, info_of}

-- the values before a place fit their fields
pub record FitBefore (infos : List Info) (values : List (Option Value)) (place : ℕ) : Type 0 where
  pub fit : (more : List (Option Value)) → fits_all (drop place infos) more ≡ true → fits_all infos (values ++ more) ≡ true

pub fit-start : (infos : List Info) → FitBefore infos [] 0
fit-start infos = record { fit = λ more h. h }

pub fit-on : {infos : List Info} {values : List (Option Value)} {place : ℕ} (i : Info) (v : Option Value) → FitBefore infos values place → drop place infos ≡ i ∷ drop (place + 1) infos → fits i v ≡ true → FitBefore infos (values ++ v ∷ []) (place + 1)
fit-on {infos} {values} {place} i v w l h = record { fit = λ more k. rw append_assoc (w.fit (v ∷ more) (rw l (and_from (fits i v) (fits_all (drop (place + 1) infos) more) h k))) }

pub fit-end : {infos : List Info} {values : List (Option Value)} {place : ℕ} → FitBefore infos values place → length infos ≤ place → fits_all infos values ≡ true
fit-end {values = values} w past = let l = drop_all _ _ past in rw (append-nil values) at (w.fit [] (rw l refl))

-- the field at a place, and those behind it
pub next_info : (infos : List FieldInfo) (place : ℕ) (d info : FieldInfo) → place < length infos → info ≡ get_or infos place d → drop place (map info_of infos) ≡ info_of info ∷ drop (place + 1) (map info_of infos)
next_info infos place d info h is = rw (drop-map info_of place infos, drop-map info_of (place + 1) infos, next_item infos place info d h is) refl

-- a row has the kind that it is made of
pub kind-kept : (kind : Kind) (vs : List (Option Value)) (md : List Entry) (r : Record) → row_from kind vs md ≡ Some r → r.kind ≡ kind
kind-kept kind vs md r e = by (nat_lt longest (row_length (record_from kind vs md))) e
  where
    by : (b : Bool) → (if b then None else Some (record_from kind vs md)) ≡ Some r → r.kind ≡ kind
    by true h = cc h
    by false h = cc h
