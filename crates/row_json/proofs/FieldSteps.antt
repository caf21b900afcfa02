-- The values of an object's fields, one after another.
use Rattle.std.proofs.Common.{◌≡◌, ◌≤◌, ◌+◌, ◌++◌, ℕ, true, List, [], ◌∷◌, Option, Some, None, Result, Ok, Err, IfOk}
use Rattle.std.proofs.Common.{drop, length, refl, sym, ap, ◌∙◌, append_assoc, append-nil}
use Rattle.std.proofs.lemmas.Bool.{and_from}
use Rattle.std.proofs.lemmas.List.{drop_all}
use Rattle.std.proofs.lemmas.Result.{IfOk-at_ok}
use Rattle.serde_json.specs.Data.{Data}
use Rattle.serde_json.specs.Find.{get}
use Rattle.roster_values.proofs.FieldLaws.{fits_always}
use Rattle.roster_base.specs.Reading.{Fails, ◌>>=◌}
use Rattle.roster_base.specs.declared.refusal.Refusal.{Refusal}
use Rattle.roster_base.specs.declared.refusal.Refusal.TheVariants as refusal
use Rattle.roster_texts.specs.declared.fault.ValueFault.{ValueFault}
use Rattle.roster_types.specs.Shapes.{fits_all}
use Rattle.roster_values.proofs.FitLaws.{value_fits}
use Rattle.roster_values.specs.declared.mode.Mode.{Mode}
use Rattle.roster_values.specs.declared.value.Value.{Value}
use Rattle.roster_values.specs.Fit.{fits}
use Rattle.roster_values.specs.Table.{Info, info_in}
use Rattle.roster_values.specs.Values.{value_of}
use Rattle.row_json.specs.declared.fault.JsonFault.{JsonFault}
use Rattle.row_json.specs.CellTexts.{text_of}
use Rattle.row_json.specs.Reading.{field_in, in_member, values_in}
use Rattle.row_json.proofs.ItemSteps.{kept}

text_fits : (info : Info) (r : Result (List ℕ) ValueFault) → IfOk (r >>= value_of info) (λ o. fits info o ≡ true)
text_fits info (Ok t) = value_fits info t
text_fits info (Err f) = tt

-- what is read in a field fits it
pub field_fits : (info : Info) (o : Option Data) → IfOk (field_in info o) (λ v. fits info v ≡ true)
unfolding field_in
field_fits info None = value_fits info []
field_fits info (Some d) = text_fits info (text_of info.form d)

pub read_in : {A : Type 0} (name : List ℕ) (r : Result A ValueFault) (x : A) → in_member name r ≡ Ok x → r ≡ Ok x
read_in name (Ok y) x e = cc e
read_in name (Err f) x e = cc e

-- how far the reading of an object's fields from a place on has come
pub record Fields (mode : Mode) (first : ℕ) (infos : List Info) (d : Data) (values : List (Option Value)) (place : ℕ) : Type 0 where
  pub same : (values_in mode place (drop place infos) d >>= (λ vs. Ok (values ++ vs))) ≡ values_in mode first (drop first infos) d
  pub fit : (more : List (Option Value)) → fits_all (drop place infos) more ≡ true → fits_all (drop first infos) (values ++ more) ≡ true

pub fields-start : (mode : Mode) (first : ℕ) (infos : List Info) (d : Data) → Fields mode first infos d [] first
fields-start mode first infos d = record { same = kept (values_in mode first (drop first infos) d); fit = λ more h. h }

behind : (front : List (Option Value)) (v : Option Value) (r : Result (List (Option Value)) JsonFault) → ((r >>= (λ vs. Ok (v ∷ vs))) >>= (λ vs. Ok (front ++ vs))) ≡ (r >>= (λ vs. Ok ((front ++ v ∷ []) ++ vs)))
behind front v (Ok vs) = ap (λ xs. Ok xs) (sym (append_assoc front (v ∷ []) vs))
behind front v (Err f) = refl

pub fields-fail : {mode : Mode} {first : ℕ} {infos : List Info} {d : Data} {values : List (Option Value)} {place : ℕ} (i : Info) (rest : List Info) (e : Refusal JsonFault) → Fields mode first infos d values place → drop place infos ≡ i ∷ rest
    → Fails e (in_member i.name (field_in (info_in mode place i) (get i.name d))) → Fails e (values_in mode first (drop first infos) d)
unfolding values_in
fields-fail i rest refusal.NoMemory w l h = tt
fields-fail i rest (refusal.Fault f) w l h = rw (sym w.same, l, h) refl

pub fields-on : {mode : Mode} {first : ℕ} {infos : List Info} {d : Data} {values : List (Option Value)} {place : ℕ} (i : Info) (v : Option Value) → Fields mode first infos d values place → drop place infos ≡ i ∷ drop (place + 1) infos
    → in_member i.name (field_in (info_in mode place i) (get i.name d)) ≡ Ok v → Fields mode first infos d (values ++ v ∷ []) (place + 1)
unfolding values_in
fields-on {mode} {first} {infos} {d} {values} {place} i v w l h =
    let fit : fits i v ≡ true = fits_always mode place i v (IfOk-at_ok (λ o. fits (info_in mode place i) o ≡ true) (read_in i.name (field_in (info_in mode place i) (get i.name d)) v h) (field_fits (info_in mode place i) (get i.name d))) in
    record {
      same = sym (behind values v (values_in mode (place + 1) (drop (place + 1) infos) d)) ∙ rw (l, h) at w.same;
      fit = λ more k. rw append_assoc (w.fit (v ∷ more) (rw l (and_from (fits i v) (fits_all (drop (place + 1) infos) more) fit k)));
    }

pub fields-end : {mode : Mode} {first : ℕ} {infos : List Info} {d : Data} {values : List (Option Value)} {place : ℕ} → Fields mode first infos d values place → length infos ≤ place → (values_in mode first (drop first infos) d ≡ Ok values) × (fits_all (drop first infos) values ≡ true)
unfolding values_in
fields-end {values = values} w past =
    let l = drop_all _ _ past in (
      sym w.same ∙ rw (l, append-nil values) refl,
      rw (append-nil values) at (w.fit [] (rw l refl)),
    )
