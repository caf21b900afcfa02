-- The values of a record, field by field.
use Rattle.std.proofs.Common.{◌≡◌, ◌≤◌, ◌+◌, ℕ, List, [], ◌∷◌, ◌++◌, true, Option, Result, Ok, Err, drop, length, refl}
use Rattle.std.proofs.Common.{sym, ap, ◌∙◌, append_assoc}
use Rattle.std.proofs.lemmas.Bool.{and_from}
use Rattle.std.proofs.lemmas.List.{append-nil, drop_all}
use Rattle.std.proofs.lemmas.Result.{IfOk-at_ok}
use Rattle.roster_values.proofs.FieldLaws.{fits_always}
use Rattle.roster_base.specs.Reading.{Fails, ◌>>=◌}
use Rattle.roster_base.specs.declared.refusal.Refusal.{Refusal}
use Rattle.roster_base.specs.declared.refusal.Refusal.TheVariants as refusal
use Rattle.roster_texts.specs.declared.fault.ValueFault.{ValueFault}
use Rattle.roster_types.specs.Shapes.{fits_all}
use Rattle.roster_values.proofs.FitLaws.{value_fits}
use Rattle.roster_values.specs.declared.mode.Mode.{Mode}
use Rattle.roster_values.specs.declared.value.Value.{Value}
use Rattle.roster_values.specs.Fit.{fits}
use Rattle.roster_values.specs.Table.{Info, info_in}
use Rattle.roster_values.specs.Values.{value_of}
use Rattle.csv_sets.specs.declared.fault.RowFault.{RowFault}
use Rattle.csv_sets.specs.Cells.{cell_at}
use Rattle.csv_sets.specs.Rows.{in_field, values_at}

read_in : {A : Type 0} (column : List ℕ) (r : Result A ValueFault) (x : A) → in_field column r ≡ Ok x → r ≡ Ok x
read_in column (Ok y) x e = cc e
read_in column (Err f) x e = cc e

-- the values that are read behind others
abbrev behind : List (Option Value) → Result (List (Option Value)) RowFault → Result (List (Option Value)) RowFault
behind front r = r >>= (λ values. Ok (front ++ values))

-- how far the reading of a record's values has come
pub record Walks (mode : Mode) (infos : List Info) (places : List (Option ℕ)) (cells : List (List ℕ)) (values : List (Option Value)) (field : ℕ) : Type 0 where
  pub same : behind values (values_at mode field (drop field infos) (drop field places) cells) ≡ values_at mode 0 infos places cells
  pub fit : (more : List (Option Value)) → fits_all (drop field infos) more ≡ true → fits_all infos (values ++ more) ≡ true

behind_none : (r : Result (List (Option Value)) RowFault) → behind [] r ≡ r
behind_none (Ok vs) = refl
behind_none (Err f) = refl

behind_one : (front : List (Option Value)) (v : Option Value) (r : Result (List (Option Value)) RowFault) → behind front (r >>= (λ vs. Ok (v ∷ vs))) ≡ behind (front ++ v ∷ []) r
behind_one front v (Ok vs) = ap (λ xs. Ok xs) (sym (append_assoc front (v ∷ []) vs))
behind_one front v (Err f) = refl

pub walks_start : (mode : Mode) (infos : List Info) (places : List (Option ℕ)) (cells : List (List ℕ)) → Walks mode infos places cells [] 0
walks_start mode infos places cells = record { same = behind_none (values_at mode 0 infos places cells); fit = λ more h. h }

pub walks_fail : {mode : Mode} {infos : List Info} {places : List (Option ℕ)} {cells : List (List ℕ)} {values : List (Option Value)} {field : ℕ} (i : Info) (p : Option ℕ) (is : List Info) (ps : List (Option ℕ)) (e : Refusal RowFault)
    → Walks mode infos places cells values field → drop field infos ≡ i ∷ is → drop field places ≡ p ∷ ps → Fails e (in_field i.column (value_of (info_in mode field i) (cell_at cells p))) → Fails e (values_at mode 0 infos places cells)
unfolding values_at
walks_fail i p is ps refusal.NoMemory w di dp h = tt
walks_fail i p is ps (refusal.Fault f) w di dp h = rw (sym w.same, di, dp, h) refl

pub walks_on : {mode : Mode} {infos : List Info} {places : List (Option ℕ)} {cells : List (List ℕ)} {values : List (Option Value)} {field : ℕ} (i : Info) (p : Option ℕ) (v : Option Value)
    → Walks mode infos places cells values field → drop field infos ≡ i ∷ drop (field + 1) infos → drop field places ≡ p ∷ drop (field + 1) places
    → in_field i.column (value_of (info_in mode field i) (cell_at cells p)) ≡ Ok v → Walks mode infos places cells (values ++ v ∷ []) (field + 1)
unfolding values_at
walks_on {mode} {infos} {places} {cells} {values} {field} i p v w di dp h =
    let fit : fits i v ≡ true = fits_always mode field i v (IfOk-at_ok (λ o. fits (info_in mode field i) o ≡ true) (read_in i.column (value_of (info_in mode field i) (cell_at cells p)) v h) (value_fits (info_in mode field i) (cell_at cells p))) in
    record {
      same = sym (behind_one values v (values_at mode (field + 1) (drop (field + 1) infos) (drop (field + 1) places) cells)) ∙ rw (di, dp, h) at w.same;
      fit = λ more k. rw append_assoc (w.fit (v ∷ more) (rw di (and_from (fits i v) (fits_all (drop (field + 1) infos) more) fit k)));
    }

pub walks_end : {mode : Mode} {infos : List Info} {places : List (Option ℕ)} {cells : List (List ℕ)} {values : List (Option Value)} {field : ℕ} → Walks mode infos places cells values field → length infos ≤ field
    → (values_at mode 0 infos places cells ≡ Ok values) × (fits_all infos values ≡ true)
unfolding values_at
walks_end {values = values} w past =
    let d = drop_all _ _ past in (
      sym w.same ∙ rw (d, append-nil values) refl,
      rw (append-nil values) at (w.fit [] (rw d refl)),
    )
